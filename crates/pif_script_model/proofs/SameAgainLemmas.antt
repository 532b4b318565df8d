-- A trace that is written comes to `same`.
use Rattle.std.proofs.Common.{suc, ◌≡◌, ℕ, ◌+◌, ◌-◌, ◌<◌, ◌≤◌, ◌==◌, not, Bool, cond, true, false, nat_lt, List, [], ◌∷◌, ◌++◌, Option, Some, None, Ok, Err, length, length-append, refl, sym, ap, ◌∙◌, subst, append_assoc, append-nil, arith, bytes_eq, if◌then◌else◌}
use Rattle.std.specs.Prelude.{All, flat_map}
use Rattle.std.proofs.lemmas.Bool.{and_parts, false≢true}
use Rattle.std.proofs.lemmas.Bool.Decides.{nat_tests}
use Rattle.std.proofs.lemmas.Slice.Eq.{bytes_eq-Decides}
use Rattle.pif_types.specs.Bounds.{Bounds, IsWithin}
use Rattle.pif_model.specs.declared.events.Entry.{Entry}
use Rattle.pif_model.specs.declared.events.Entry.TheVariants.{Thread as AddedThread, Mutex as AddedMutex, Cond as AddedCond, Step}
use Rattle.pif_model.specs.declared.events.Event.{Event}
use Rattle.pif_model.specs.declared.events.Seen.{Seen}
use Rattle.pif_model.specs.Calls.{add_thread_answer, add_thread_after, add_mutex_answer, add_mutex_after, add_cond_answer, add_cond_after}
use Rattle.pif_model.specs.Lines.{event_outcome}
use Rattle.pif_model.specs.Table.{Table, new_table}
use Rattle.pif_text_model.specs.declared.commands.Command.{Command}
use Rattle.pif_text_model.specs.declared.commands.Command.TheVariants as command
use Rattle.pif_text_model.specs.declared.commands.Addition.{Addition}
use Rattle.pif_text_model.specs.declared.commands.Addition.TheVariants.{Thread, Mutex, Cond as NewCond}
use Rattle.pif_text_model.specs.declared.replies.Reply.{Reply}
use Rattle.pif_text_model.specs.declared.replies.Reply.TheVariants as reply
use Rattle.pif_text_model.specs.declared.replies.Added.TheVariants as added
use Rattle.pif_text_model.specs.CommandTexts.{command_text, IsWritten}
use Rattle.pif_text_model.specs.Replies.{text_of}
use Rattle.pif_text_model.specs.declared.traces.Version.{Version}
use Rattle.pif_text_model.specs.declared.traces.Version.TheVariants.{Two}
use Rattle.pif_text_model.specs.Traces.{header_text, if_traced, answer_text, same_of, IsTraced, version_in}
use Rattle.pif_text_model.proofs.Plain.{lacks}
use Rattle.pif_text_model.proofs.PlainTexts.{IsLine, answer_text-line, answer_text-parts}
use Rattle.pif_text_model.proofs.ReadBack.{command_back}
use Rattle.pif_text_model.specs.declared.replies.Cause.TheVariants.{Command as NoCommand}
use Rattle.pif_script_model.specs.declared.ending.Ending.TheVariants.{Fault, Differs}
use Rattle.pif_script_model.specs.Scripts.{Hearing, FirstMeaning, Meaning, Scan, reading_of, answer_to_line, answered_first, answered_later, after_line, with_byte, closed_at, ended_by}
use Rattle.pif_script_model.specs.Runs.{end_line, last_text}
use Rattle.pif_types.specs.declared.requests.Kind.{Kind}
use Rattle.pif_script_model.specs.Running.{Answer, answer_or_fault, command_answer, first_answer, limits_in, are_limits, made_by, addition_answer, addition_after}
use Rattle.pif_script_model.specs.Traces.{Replay, traced_in, comparison, header_meaning, second_line_meaning, traced_meaning, trace_hearing, trace_end, verdict, entry_command, entry_reply, entry_text, entry_line, limits_text, front_lines, trace, IsEntryWritten, IsHistory}
use Rattle.pif_script_model.proofs.ScriptLemmas.{byte_taken-byte, byte_taken-end, reading_of-ok, reading_of-nil}

-- ---- whole lines

module _ {S : Type 0} (hearing : Hearing S) where
  reading_of-bytes : (bytes rest : List ℕ) (s : Scan S) (line : List ℕ) (taken : ℕ) → lacks 10 bytes ≡ true
      → length s.line + length bytes ≤ 120
      → s.taken + length bytes ≤ 16777216 → line ≡ s.line ++ bytes → taken ≡ s.taken + length bytes
      → (reading_of hearing s (bytes ++ rest)).stands
      ≡ (reading_of hearing (record s { line = line; taken = taken })
      rest).stands
  reading_of-bytes [] rest s line taken e short small p q =
      let same : s.line ≡ line = sym (p ∙ append-nil s.line) in
      let count : s.taken ≡ taken = omega arith in
      ap (λ (t : Scan S). (reading_of hearing t rest).stands)
      (λ i. record s { line = same i; taken = count i })
  reading_of-bytes (b ∷ bs) rest s line taken e short small p q =
      let t = and_parts (not (b == 10)) (lacks 10 bs) e in
      let other : b ≡ 10 → ⊥ = λ h. let unequal : not (b == 10) ≡ true = t.0 in grind (arith, nat_tests) in
      let one = reading_of-ok hearing s b (bs ++ rest) ([], with_byte s b)
      (byte_taken-byte hearing s b (omega arith) other (omega arith)) in
      one.1 ∙ reading_of-bytes bs rest (with_byte s b) line taken t.1 (omega (arith, length-append s.line (b ∷ [])))
      (omega arith)
      (p ∙ sym (append_assoc s.line (b ∷ []) bs)) (omega arith)

  -- a line with its LF, from its first byte on
  pub reading_of-line : (bytes rest : List ℕ) (l : Option S) (version next : Option Version) (number taken : ℕ)
      (m : List ℕ × Option S) → IsLine bytes
      → taken + length bytes < 16777216
      → answer_to_line hearing l version bytes ≡ Ok m → (if number == 1 then version_in bytes else version) ≡ next
      → (reading_of hearing (record { listener = l; version = version; line = []; number = number; taken = taken })
      ((bytes ++ 10 ∷ []) ++ rest)).stands
      ≡ (reading_of hearing (record {
        listener = m.1;
        version = next;
        line = [];
        number = number + 1;
        taken = taken + length bytes + 1;
      }) rest).stands
  reading_of-line bytes rest l version next number taken m ok small e f =
      let s : Scan S = record { listener = l; version = version; line = []; number = number; taken = taken } in
      let t : Scan S = record s { line = bytes; taken = taken + length bytes } in
      let bytes_read = reading_of-bytes bytes (10 ∷ rest) s bytes (taken + length bytes) ok.no_end
      (omega (arith, ok.short)) (omega arith) refl refl in
      let last = byte_taken-end hearing t 10 small refl ∙ ap (after_line t) e in
      let one = reading_of-ok hearing t 10 rest _ last in
      let named = ap (λ v. (reading_of hearing (record {
        listener = m.1;
        version = v;
        line = [];
        number = number + 1;
        taken = taken + length bytes + 1;
      }) rest).stands) f in
      ap (λ l. (reading_of hearing s l).stands) (append_assoc bytes (10 ∷ []) rest) ∙ bytes_read ∙ one.1 ∙ named

-- ---- the lines of a trace

same_bytes : (xs : List ℕ) → bytes_eq xs xs ≡ true
same_bytes xs = (bytes_eq-Decides xs xs).1 refl

-- a written line is read as what was written
traced_back : (c : Command) (r : Reply) → IsWritten c → if_traced Two c ≡ Some c
    → traced_in Two (command_text c ++ answer_text r) ≡ Some (c, text_of r)
unfolding traced_in
traced_back c r p e = rw (answer_text-parts c r p e, command_back c p, e) refl

-- a trace of version 2 that is held to this core
abbrev held_to : Table → Replay
held_to s = record { version = Two; core = s }

-- the answer that was written is the one that is given
comparison_back : (r : Reply) (after : Table)
    → ◌≡◌ {A = Meaning Replay} (comparison Two (text_of r) (Ok (r, after))) (Ok ([], held_to after))
comparison_back r after = by-test (bytes_eq (text_of r) (text_of r)) (same_bytes (text_of r))
  where
    by-test : (b : Bool) → b ≡ true
        → ◌≡◌ {A = Meaning Replay} (cond b (Ok ([], held_to after)) (Err (Differs r))) (Ok ([], held_to after))
    by-test true e = refl
    by-test false e = absurd (false≢true e)

given_back : (o : Option Answer) (r : Reply) (after : Table) → o ≡ Some (r, after)
    → comparison Two (text_of r) (answer_or_fault o) ≡ Ok ([], held_to after)
given_back o r after e =
    subst (λ x. comparison Two (text_of r) (answer_or_fault x) ≡ Ok ([], held_to after)) (sym e)
    (comparison_back r after)

later_by : (o : Option (Command × List ℕ)) (c : Command) (r : Reply) (s after : Table) → o ≡ Some (c, text_of r)
    → command_answer c s ≡ Some (r, after)
    → ◌≡◌ {A = Meaning Replay} (elim o
    [ None ↦ Err (Fault NoCommand) | Some p ↦ comparison Two p.1 (answer_or_fault (command_answer p.0 s)) ])
    (Ok ([], held_to after))
later_by o c r s after e g =
    subst (λ x. ◌≡◌ {A = Meaning Replay}
    (elim x [ None ↦ Err (Fault NoCommand) | Some p ↦ comparison Two p.1 (answer_or_fault (command_answer p.0 s)) ])
    (Ok ([], held_to after)))
    (sym e) (given_back (command_answer c s) r after g)

heard_back : (c : Command) (r : Reply) (s after : Table) (version : Option Version) → IsWritten c
    → if_traced Two c ≡ Some c → command_answer c s ≡ Some (r, after)
    → answer_to_line trace_hearing (Some (held_to s)) version (command_text c ++ answer_text r)
    ≡ Ok ([], Some (held_to after))
unfolding traced_meaning
heard_back c r s after version p e o =
    ap answered_later (later_by (traced_in Two (command_text c ++ answer_text r)) c r s after (traced_back c r p e) o)

first_by : (o : Option (Command × List ℕ)) (c : Command) (r : Reply) (after : Table) → o ≡ Some (c, text_of r)
    → first_answer c ≡ Ok (r, after)
    → ◌≡◌ {A = FirstMeaning Replay} (elim o
    [ None ↦ Err (Fault NoCommand) | Some p ↦ made_by (comparison Two p.1 (first_answer p.0)) ])
    (Ok (Some ([], held_to after)))
first_by o c r after e g =
    subst (λ x. ◌≡◌ {A = FirstMeaning Replay}
    (elim x [ None ↦ Err (Fault NoCommand) | Some p ↦ made_by (comparison Two p.1 (first_answer p.0)) ])
    (Ok (Some ([], held_to after))))
    (sym e)
    (ap made_by (subst (λ x. comparison Two (text_of r) x ≡ Ok ([], held_to after)) (sym g) (comparison_back r after)))

-- a line that is heard so, and what happened after it
abbrev Heard : Table → List ℕ → List Entry → Type 0
Heard s line es =
    (after : Table) × ((version : Option Version)
    → answer_to_line trace_hearing (Some (held_to s)) version line ≡ Ok ([], Some (held_to after)))
    × IsLine line × IsHistory after es

written_back : (c : Command) (r : Reply) (s after : Table) (es : List Entry) → IsWritten c → IsTraced r
    → if_traced Two c ≡ Some c
    → command_answer c s ≡ Some (r, after) → IsHistory after es → Heard s (command_text c ++ answer_text r) es
written_back c r s after es p q e o h =
    (after, λ version. heard_back c r s after version p e o, answer_text-line c r p e q, h)

-- what an entry asks is answered as it records, and the core goes on behind it
given : (e : Entry) (es : List Entry) (s : Table) → IsHistory s (e ∷ es)
    → (after : Table) × (command_answer (entry_command e) s ≡ Some (entry_reply e, after)) × IsHistory after es
unfolding command_answer addition_answer addition_after
given (AddedThread t p) es s h = (add_thread_after p (Ok t) s, rw h.0 refl, h.1)
given (AddedMutex m k robust) es s h = (add_mutex_after k robust (Ok m) s, rw h.0 refl, h.1)
given (AddedCond c m) es s h = (add_cond_after m (Ok c) s, rw h.0 refl, h.1)
given (Step e seen) es s h =
    ((event_outcome e s).after, ap (λ x. Some (reply.Seen x, (event_outcome e s).after)) h.0, h.1)

-- and it stands in traces
entry_traced : (e : Entry) → if_traced Two (entry_command e) ≡ Some (entry_command e)
entry_traced (AddedThread t p) = refl
entry_traced (AddedMutex m k robust) = refl
entry_traced (AddedCond c m) = refl
entry_traced (Step e seen) = refl

entry_back : (e : Entry) (es : List Entry) (s : Table) → IsEntryWritten e → IsHistory s (e ∷ es)
    → Heard s (entry_text e) es
unfolding entry_text
entry_back e es s w h =
    let g = given e es s h in
    written_back (entry_command e) (entry_reply e) s g.0 es w.0 w.1 (entry_traced e) g.1 g.2

-- a trace of version 2 stands so between two lines
abbrev at_line : Table → (number taken : ℕ) → Scan Replay
at_line s number taken =
    record { listener = Some (held_to s); version = Some Two; line = []; number = number; taken = taken }

-- the version stays behind the first line
pub version_kept : (number : ℕ) (line : List ℕ) (version : Option Version) → 1 < number
    → (if number == 1 then version_in line else version) ≡ version
version_kept number line version h =
    let other : (number == 1) ≡ false = grind (arith, nat_tests) in
    rw other refl

-- the lines of entries are heard to their end
entries_back : (es : List Entry) (s : Table) (number taken : ℕ) → All IsEntryWritten es → IsHistory s es → 1 < number
    → taken + length (flat_map entry_line es) ≤ 16777216
    → (v : Scan Replay) × ((reading_of trace_hearing (at_line s number taken) (flat_map entry_line es)).stands
    ≡ Ok v) × (v.line ≡ []) × (v.number ≡ number + length es)
entries_back [] s number taken w h later small =
    (at_line s number taken, (reading_of-nil trace_hearing (at_line s number taken)).1, refl, omega arith)
entries_back (e ∷ es) s number taken w h later small =
    let one = entry_back e es s (w 0 e (omega arith)) h in
    let bound : taken + (length (entry_text e) + 1) + length (flat_map entry_line es) ≤ 16777216 =
    omega (
      arith,
      length-append (entry_text e ++ 10 ∷ []) (flat_map entry_line es),
      length-append (entry_text e) (10 ∷ []),
    ) in
    let line = reading_of-line trace_hearing (entry_text e) (flat_map entry_line es) (Some (held_to s)) (Some Two)
    (Some Two) number taken ([], Some (held_to one.0)) one.2 (omega arith) (one.1 (Some Two))
    (version_kept number (entry_text e) (Some Two) later) in
    let rest = entries_back es one.0 (number + 1) (taken + length (entry_text e) + 1)
    (λ k d below. w (suc k) d (omega arith)) one.3 (omega arith) (omega arith) in
    (rest.0, line ∙ rest.1, rest.2, omega (arith, rest.3))

-- ---- the first two lines

header_line : IsLine (header_text Two)
header_line = record { no_end = refl; short = omega arith }

limits_written : (b : Bounds) → IsWithin b → IsWritten (command.Limits b.threads b.mutexes b.conds b.signals)
limits_written b w =
    (omega (arith, w.threads), omega (arith, w.mutexes), omega (arith, w.conds), omega (arith, w.signals))

limits_line : (b : Bounds) → IsWithin b → IsLine (limits_text b)
limits_line b w = answer_text-line (command.Limits b.threads b.mutexes b.conds b.signals) reply.Done (limits_written b w) refl tt

are_limits_within : (b : Bounds) → IsWithin b → are_limits b ≡ true
are_limits_within b w =
    let threads : 1 ≤ b.threads = w.some_thread in
    let threads_most : b.threads ≤ 1024 = w.threads in
    let mutexes : b.mutexes ≤ 1024 = w.mutexes in
    let conds : b.conds ≤ 256 = w.conds in
    let signals : 1 ≤ b.signals = w.some_signal in
    let signals_most : b.signals ≤ 4294967295 = w.signals in
    grind (arith, nat_tests)

first_limits : (b : Bounds) → IsWithin b
    → first_answer (command.Limits b.threads b.mutexes b.conds b.signals) ≡ Ok (reply.Done, new_table b)
unfolding first_answer limits_in
first_limits b w = rw (are_limits_within b w) refl

limits_back : (b : Bounds) → IsWithin b
    → answer_to_line trace_hearing None (Some Two) (limits_text b) ≡ Ok ([], Some (held_to (new_table b)))
unfolding second_line_meaning
limits_back b w =
    let c = command.Limits b.threads b.mutexes b.conds b.signals in
    ap answered_first (first_by (traced_in Two (limits_text b)) c reply.Done (new_table b)
    (traced_back c reply.Done (limits_written b w) refl) (first_limits b w))

header_named : version_in (header_text Two) ≡ Some Two
unfolding version_in
header_named = refl

header_back : answer_to_line trace_hearing None None (header_text Two) ≡ Ok ([], None)
header_back = ap (λ o. answered_first (header_meaning {S = Replay} o)) header_named

closed_back : (v : Scan Replay) (n : ℕ) → v.line ≡ [] → v.number ≡ 3 + n
    → last_text end_line (closed_at trace_hearing v) ≡ same_of (1 + n) ++ 10 ∷ []
closed_back v n e f =
    let some : nat_lt 1 v.number ≡ true = grind (arith, nat_tests) in
    let count : v.number - 2 ≡ 1 + n = omega arith in
    rw (e, some, count) refl

pub trace_back : (b : Bounds) (es : List Entry) → IsWithin b → All IsEntryWritten es → IsHistory (new_table b) es
    → length (trace b es) ≤ 16777216
    → verdict (trace b es) ≡ same_of (1 + length es) ++ 10 ∷ []
unfolding trace front_lines verdict trace_end
trace_back b es w a h small =
    let entries = flat_map entry_line es in
    let size : 12 + (length (limits_text b) + 1) + length entries ≤ 16777216 =
    omega (arith, small, length-append (limits_text b ++ 10 ∷ []) entries, length-append (limits_text b) (10 ∷ [])) in
    let header = reading_of-line trace_hearing (header_text Two) ((limits_text b ++ 10 ∷ []) ++ entries) None None
    (Some Two) 1 0 ([], None) header_line (omega arith) header_back header_named in
    let limits = reading_of-line trace_hearing (limits_text b) entries None (Some Two) (Some Two) 2 12
    ([], Some (held_to (new_table b))) (limits_line b w) (omega arith) (limits_back b w) refl in
    let rest = entries_back es (new_table b) 3 (12 + length (limits_text b) + 1) a h (omega arith) (omega arith) in
    ap (λ stands. last_text end_line (ended_by trace_hearing stands)) (header ∙ limits ∙ rest.1)
    ∙ closed_back rest.0 (length es) rest.2 rest.3
