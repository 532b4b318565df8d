-- The texts of commands and of the answers to them are short, and have neither LF nor an equals sign.
use Rattle.std.proofs.Common.{◌≡◌, ℕ, ◌≤◌, ◌==◌, not, true, false, List, [], ◌∷◌, ◌++◌, Option, Some, None, length, length-append, take, refl, ap, ◌∙◌, arith, decimal, codes, bytes_eq}
use Rattle.std.proofs.lemmas.Bool.{and_parts, and_right}
use Rattle.std.proofs.lemmas.Bool.Decides.{nat_tests}
use Rattle.pif_types.specs.declared.errors.AddFault.TheVariants as add_fault
use Rattle.pif_types.specs.declared.errors.Refusal.TheVariants as refusal
use Rattle.pif_types.specs.declared.requests.Kind.TheVariants.{Normal, ErrorCheck, Recursive}
use Rattle.pif_types.specs.declared.requests.Request.{Request}
use Rattle.pif_model.specs.declared.events.Event.{Event}
use Rattle.pif_model.specs.declared.events.Event.TheVariants.{Begin, Go, End, Tick}
use Rattle.pif_model.specs.declared.events.Seen.{Seen}
use Rattle.pif_model.specs.declared.events.Seen.TheVariants as seen
use Rattle.pif_text_model.specs.declared.commands.Addition.{Addition}
use Rattle.pif_text_model.specs.declared.commands.Addition.TheVariants.{Thread, Mutex, Cond}
use Rattle.pif_text_model.specs.declared.commands.Command.{Command}
use Rattle.pif_text_model.specs.declared.commands.Command.TheVariants as command
use Rattle.pif_text_model.specs.declared.traces.Version.TheVariants.{Two}
use Rattle.pif_text_model.specs.declared.replies.Added.{Added}
use Rattle.pif_text_model.specs.declared.replies.Added.TheVariants as added
use Rattle.pif_text_model.specs.declared.replies.Reply.{Reply}
use Rattle.pif_text_model.specs.declared.replies.Reply.TheVariants as reply
use Rattle.pif_text_model.specs.CommandTexts.{command_text, addition_text, event_text, request_text, IsWritten, IsAdditionWritten, IsEventWritten, IsRunWritten, run_text}
use Rattle.pif_text_model.specs.Replies.{text_of, added_text, seen_text, thread_name}
use Rattle.pif_text_model.specs.Traces.{IsTraced, IsAddedTraced, IsSeenTraced, if_traced, parts_of, answer_text}
use Rattle.pif_text_model.proofs.Marks.{marked_here, unmarked_here, onto}
use Rattle.pif_text_model.proofs.Plain.{IsPlain, behind, lacks, lacks-append, plain-cond, plain-more, plain-mutex, plain-number, plain-thread, spaced}
use Rattle.pif_text_model.proofs.CallLemmas.{request-plain}
use Rattle.pif_text_model.proofs.QuestionLemmas.{question-plain}

limits-plain : (t m c s : ℕ) → IsWritten (command.Limits t m c s) → IsPlain 62 (command_text (command.Limits t m c s))
unfolding command_text
limits-plain t m c s r =
    let first = behind 7 10 (codes "limits ") (decimal t) refl refl (omega arith) (plain-number t r.0) in
    let second = spaced 17 10 _ (decimal m) first (plain-number m r.1) in
    let third = spaced 28 10 _ (decimal c) second (plain-number c r.2) in
    plain-more 50 62 _ (omega arith) (spaced 39 10 _ (decimal s) third (plain-number s r.3))

addition-plain : (a : Addition) → IsAdditionWritten a → IsPlain 62 (addition_text a)
unfolding addition_text
addition-plain (Thread p) r =
    plain-more 17 62 _ (omega arith) (behind 7 10 (codes "thread ") _ refl refl (omega arith) (plain-number p r))
addition-plain (Mutex Normal false) r = record { no_end = refl; no_equals = refl; short = omega arith }
addition-plain (Mutex Normal true) r = record { no_end = refl; no_equals = refl; short = omega arith }
addition-plain (Mutex ErrorCheck false) r = record { no_end = refl; no_equals = refl; short = omega arith }
addition-plain (Mutex ErrorCheck true) r = record { no_end = refl; no_equals = refl; short = omega arith }
addition-plain (Mutex Recursive false) r = record { no_end = refl; no_equals = refl; short = omega arith }
addition-plain (Mutex Recursive true) r = record { no_end = refl; no_equals = refl; short = omega arith }
addition-plain (Cond m) r =
    plain-more 16 62 _ (omega arith) (behind 5 11 (codes "cond ") _ refl refl (omega arith) (plain-mutex m r.1))

event-plain : (e : Event) → IsEventWritten e → IsPlain 62 (event_text e)
unfolding event_text
event-plain (Begin t q) r =
    spaced 17 44 (codes "begin " ++ thread_name t) (request_text q)
    (behind 6 11 (codes "begin ") _ refl refl (omega arith) (plain-thread t r.0.1)) (request-plain q r.1)
event-plain (Go t) r =
    plain-more 14 62 _ (omega arith) (behind 3 11 (codes "go ") _ refl refl (omega arith) (plain-thread t r.1))
event-plain (End t) r =
    plain-more 15 62 _ (omega arith) (behind 4 11 (codes "end ") _ refl refl (omega arith) (plain-thread t r.1))
event-plain (Tick n) r =
    plain-more 15 62 _ (omega arith) (behind 5 10 (codes "tick ") _ refl refl (omega arith) (plain-number n r))

run-plain : (t : ℕ) (q : Option Request) → IsRunWritten t q → IsPlain 62 (run_text t q)
unfolding run_text
run-plain t (Some q) r =
    plain-more 61 62 _ (omega arith) (spaced 16 44 (codes "call " ++ thread_name t) (request_text q)
    (behind 5 11 (codes "call ") _ refl refl (omega arith) (plain-thread t r.0.1)) (request-plain q r.1))
run-plain t None r =
    plain-more 18 62 _ (omega arith) (behind 7 11 (codes "finish ") _ refl refl (omega arith) (plain-thread t r.1))

command-plain : (c : Command) → IsWritten c → IsPlain 62 (command_text c)
unfolding command_text
command-plain (command.Limits t m c s) r = limits-plain t m c s r
command-plain (command.Add a) r = addition-plain a r
command-plain (command.Event v) r = event-plain v r
command-plain (command.Run t q) r = run-plain t q r
command-plain (command.Ask q) r = question-plain q r

-- ---- a command and the answer to it

space_first : (more text : List ℕ) → lacks 61 more ≡ true → bytes_eq (codes "= ") (take 2 (more ++ 32 ∷ 61 ∷ 32 ∷ text)) ≡ false
space_first [] text e = refl
space_first (x ∷ xs) text e =
    let t = and_parts (not (x == 61)) (lacks 61 xs) e in
    let unequal : not (x == 61) ≡ true = t.0 in
    let other : (61 == x) ≡ false = grind (arith, nat_tests) in
    rw other refl

-- it is cut between them
pub parts_of-recorded : (command text : List ℕ) → lacks 61 command ≡ true → parts_of (command ++ 32 ∷ 61 ∷ 32 ∷ text) ≡ Some (command, text)
parts_of-recorded [] text e = marked_here 32 (61 ∷ 32 ∷ text) refl
parts_of-recorded (x ∷ xs) text e =
    let t = and_parts (not (x == 61)) (lacks 61 xs) e in
    unmarked_here x (xs ++ 32 ∷ 61 ∷ 32 ∷ text) (and_right (x == 32) (bytes_eq (codes "= ") (take 2 (xs ++ 32 ∷ 61 ∷ 32 ∷ text))) (space_first xs text t.1))
    ∙ ap (onto x) (parts_of-recorded xs text t.1)

-- the texts of answers that stand in traces
added-plain : (a : Added) → IsAddedTraced a → IsPlain 20 (added_text a)
unfolding added_text
added-plain (added.Thread t) r = plain-more 11 20 _ (omega arith) (plain-thread t r)
added-plain (added.Mutex m) r = plain-more 11 20 _ (omega arith) (plain-mutex m r)
added-plain (added.Cond c) r = plain-more 11 20 _ (omega arith) (plain-cond c r)
added-plain (added.Refused add_fault.TooMany) r = record { no_end = refl; no_equals = refl; short = omega arith }
added-plain (added.Refused add_fault.BadPrio) r = record { no_end = refl; no_equals = refl; short = omega arith }
added-plain (added.Refused add_fault.NoSuch) r = record { no_end = refl; no_equals = refl; short = omega arith }

seen-plain : (s : Seen) → IsSeenTraced s → IsPlain 20 (seen_text s)
unfolding seen_text
seen-plain seen.Begun r = record { no_end = refl; no_equals = refl; short = omega arith }
seen-plain seen.Went r = record { no_end = refl; no_equals = refl; short = omega arith }
seen-plain seen.Waits r = record { no_end = refl; no_equals = refl; short = omega arith }
seen-plain (seen.Answered n) r =
    plain-more 17 20 _ (omega arith) (behind 7 10 (codes "answer ") _ refl refl (omega arith) (plain-number n r))
seen-plain seen.Ended r = record { no_end = refl; no_equals = refl; short = omega arith }
seen-plain seen.Ticked r = record { no_end = refl; no_equals = refl; short = omega arith }
seen-plain (seen.Refused refusal.Dead) r = record { no_end = refl; no_equals = refl; short = omega arith }
seen-plain (seen.Refused refusal.Busy) r = record { no_end = refl; no_equals = refl; short = omega arith }
seen-plain (seen.Refused refusal.Idle) r = record { no_end = refl; no_equals = refl; short = omega arith }
seen-plain (seen.Refused refusal.NoSuch) r = record { no_end = refl; no_equals = refl; short = omega arith }
seen-plain (seen.Refused refusal.Past) r = record { no_end = refl; no_equals = refl; short = omega arith }

reply-plain : (r : Reply) → IsTraced r → IsPlain 20 (text_of r)
unfolding text_of
reply-plain reply.Done r = record { no_end = refl; no_equals = refl; short = omega arith }
reply-plain (reply.Added a) r = added-plain a r
reply-plain (reply.Seen s) r = seen-plain s r
reply-plain (reply.Told f) r = absurd r

-- a line of a trace has no LF, and is short
pub record IsLine (bytes : List ℕ) : Type 0 where
  pub no_end : lacks 10 bytes ≡ true
  pub short : length bytes ≤ 120

pub command-line : (c : Command) → IsWritten c → IsLine (command_text c)
command-line c r =
    let text = command-plain c r in
    let short : length (command_text c) ≤ 62 = text.short in
    record { no_end = text.no_end; short = omega arith }

pub answer_text-line : (c : Command) (r : Reply) → IsWritten c → if_traced Two c ≡ Some c → IsTraced r
    → IsLine (command_text c ++ answer_text r)
answer_text-line c r p e q =
    let command = command-plain c p in
    let text = reply-plain r q in
    let mark : lacks 10 (32 ∷ 61 ∷ 32 ∷ text_of r) ≡ true = text.no_end in
    record {
      no_end = lacks-append 10 (command_text c) (answer_text r) command.no_end mark;
      short = omega (arith, length-append (command_text c) (answer_text r), command.short, text.short);
    }

-- the command and the answer in a line are those that were written
pub answer_text-parts : (c : Command) (r : Reply) → IsWritten c → if_traced Two c ≡ Some c
    → parts_of (command_text c ++ answer_text r) ≡ Some (command_text c, text_of r)
answer_text-parts c r p e = parts_of-recorded (command_text c) (text_of r) (command-plain c p).no_equals
