-- The commands of a script on a core, and what its lines mean.
use Rattle.std.specs.Prelude.{ℕ, ◌≡◌, ◌&&◌, nat_le, Bool, List, [], ◌∷◌, ◌++◌, Option, Some, None, Result, Ok, Err, if◌then◌else◌}
use Rattle.pif_types.specs.Bounds.{Bounds}
use Rattle.pif_types.specs.declared.errors.AddFault.{AddFault}
use Rattle.pif_types.specs.declared.requests.Health.{Health}
use Rattle.pif_types.specs.declared.requests.Request.{Request}
use Rattle.pif_model.specs.Table.{Table, new_table}
use Rattle.pif_model.specs.Lines.{Outcome, event_outcome, goes_on}
use Rattle.pif_model.specs.Calls.{add_thread_answer, add_thread_after, add_mutex_answer, add_mutex_after, add_cond_answer, add_cond_after, effective_answer, word_answer, health_answer, cond_word_answer, pick_answer, threads_answer}
use Rattle.pif_model_simulation.specs.Calls.{call_outcome, most_further_steps}
use Rattle.pif_text_model.specs.declared.commands.Command.{Command}
use Rattle.pif_text_model.specs.declared.commands.Command.TheVariants.{Limits, Add, Event, Run, Ask}
use Rattle.pif_text_model.specs.declared.commands.Addition.{Addition}
use Rattle.pif_text_model.specs.declared.commands.Addition.TheVariants.{Thread, Mutex, Cond}
use Rattle.pif_text_model.specs.declared.questions.Question.{Question}
use Rattle.pif_text_model.specs.declared.questions.Question.TheVariants as question
use Rattle.pif_text_model.specs.declared.replies.Added.{Added}
use Rattle.pif_text_model.specs.declared.replies.Added.TheVariants as added
use Rattle.pif_text_model.specs.declared.replies.Fact.{Fact}
use Rattle.pif_text_model.specs.declared.replies.Fact.TheVariants as fact
use Rattle.pif_text_model.specs.declared.replies.Cause.{Cause}
use Rattle.pif_text_model.specs.declared.replies.Cause.TheVariants as cause
use Rattle.pif_text_model.specs.declared.replies.Reply.{Reply}
use Rattle.pif_text_model.specs.declared.replies.Reply.TheVariants as reply
use Rattle.pif_text_model.specs.Commands.{command_in}
use Rattle.pif_text_model.specs.Limits.{default_limits}
use Rattle.pif_text_model.specs.Replies.{text_of}
use Rattle.pif_script_model.specs.declared.faults.CliFault.{CliFault}
use Rattle.pif_script_model.specs.declared.faults.CliFault.TheVariants as cli_fault
use Rattle.pif_script_model.specs.Runs.{RunsFrom, end_line}
use Rattle.pif_script_model.specs.declared.ending.Ending.TheVariants.{Fault, Differs}
use Rattle.pif_script_model.specs.declared.ending.OpenFault.{OpenFault}
use Rattle.pif_script_model.specs.declared.ending.OpenFault.TheVariants.{Ended, NoMemory}
use Rattle.pif_script_model.specs.Scripts.{Meaning, FirstMeaning, Hearing, start}

-- a reply, and the table afterwards
abbrev pub Answer : Type 0
Answer = Reply × Table

-- ---- additions

abbrev pub added_thread : Result ℕ AddFault → Added
added_thread (Ok t) = added.Thread t
added_thread (Err e) = added.Refused e

abbrev pub added_mutex : Result ℕ AddFault → Added
added_mutex (Ok m) = added.Mutex m
added_mutex (Err e) = added.Refused e

abbrev pub added_cond : Result ℕ AddFault → Added
added_cond (Ok c) = added.Cond c
added_cond (Err e) = added.Refused e

-- what an addition is answered
unfoldable pub addition_answer : Addition → Table → Added
addition_answer (Thread p) s = added_thread (add_thread_answer p s)
addition_answer (Mutex k robust) s = added_mutex (add_mutex_answer s)
addition_answer (Cond m) s = added_cond (add_cond_answer m s)

-- and the table after it
unfoldable pub addition_after : Addition → Table → Table
addition_after (Thread p) s = add_thread_after p (add_thread_answer p s) s
addition_after (Mutex k robust) s = add_mutex_after k robust (add_mutex_answer s) s
addition_after (Cond m) s = add_cond_after m (add_cond_answer m s) s

-- ---- questions

-- a fact about what was added, or that it wasn't
abbrev pub fact_or_none : {A : Type 0} → (A → Fact) → Option A → Fact
fact_or_none told (Some x) = told x
fact_or_none told None = fact.NoSuch

-- whether a thread of this number, which is at least 1, was ever added
abbrev pub was_added : ℕ → Table → Bool
was_added t s = nat_le t (threads_answer s)

-- the priority that a thread runs at: one that was added and runs at none has ended
abbrev pub priority_fact : Option ℕ → Bool → Fact
priority_fact (Some p) added = fact.Priority p
priority_fact None added = if added then fact.Dead else fact.NoSuch

-- what a question is answered
unfoldable pub question_answer : Question → Table → Fact
question_answer (question.Word m) s = fact_or_none fact.Word (word_answer m s)
question_answer (question.Health m) s = fact_or_none fact.Health (health_answer m s)
question_answer (question.CondWord c) s = fact_or_none fact.Uses (cond_word_answer c s)
question_answer (question.Prio t) s = priority_fact (effective_answer t s) (was_added t s)
question_answer question.Pick s = fact.Thread (pick_answer s)

-- ---- commands

-- a thread goes on, at most 24 times; with a request it begins that call, and if that is not refused it goes on so
abbrev pub run_outcome : ℕ → Option Request → Table → Outcome
run_outcome t (Some q) s = call_outcome t q s
run_outcome t None s = goes_on most_further_steps t s

-- the last that was seen of events
abbrev pub seen_answer : Outcome → Answer
seen_answer o = (reply.Seen o.seen, o.after)

-- what a command does; `limits` is none behind the first line
unfoldable pub command_answer : Command → Table → Option Answer
command_answer (Limits t m c n) s = None
command_answer (Add a) s = Some (reply.Added (addition_answer a s), addition_after a s)
command_answer (Event e) s = Some (seen_answer (event_outcome e s))
command_answer (Run t q) s = Some (seen_answer (run_outcome t q s))
command_answer (Ask q) s = Some (reply.Told (question_answer q s), s)

-- an answer, or the fault `command`
abbrev pub answer_or_fault : Option Answer → Result Answer Cause
answer_or_fault (Some a) = Ok a
answer_or_fault None = Err cause.Command

-- whether limits are in their ranges
abbrev pub are_limits : Bounds → Bool
are_limits b =
    nat_le 1 b.threads && nat_le b.threads 1024 && nat_le b.mutexes 1024 && nat_le b.conds 256 && nat_le 1 b.signals
    && nat_le b.signals 4294967295

-- what `limits` is answered as the first command: these limits, or the fault `limits` if a number is out of its range
abbrev pub limited_answer : Option Bounds → Result Answer Cause
limited_answer (Some b) = Ok (reply.Done, new_table b)
limited_answer None = Err cause.Limits

-- these limits, if each is in its range
unfoldable pub limits_in : Bounds → Option Bounds
limits_in b = if are_limits b then Some b else None

-- the first command makes the core: under the limits that it names, or else under the default limits
unfoldable pub first_answer : Command → Result Answer Cause
first_answer (Limits t m c n) = limited_answer (limits_in (record { threads = t; mutexes = m; conds = c; signals = n }))
first_answer c = answer_or_fault (command_answer c (new_table default_limits))

-- an answer, and no fault
abbrev pub IsAnswer : Result Answer Cause → Type 0
IsAnswer (Ok a) = Unit {0}
IsAnswer (Err c) = ⊥

-- a core was made by the first command, and answered it so; memory ran out for a command that is answered
abbrev pub Makes : Result Answer Cause → Result (Table × Reply) OpenFault → Type 0
Makes meant (Ok made) = meant ≡ Ok (made.1, made.0)
Makes meant (Err (Ended (Fault c))) = meant ≡ Err c
Makes meant (Err (Ended (Differs r))) = ⊥
Makes meant (Err NoMemory) = IsAnswer meant

-- what a command does, or why it is a fault: the first one makes the core
abbrev pub outcome_behind : Option Table → Command → Result Answer Cause
outcome_behind None c = first_answer c
outcome_behind (Some s) c = answer_or_fault (command_answer c s)

-- a command was done so: it had this answer, and left this core; or it is a fault, or memory ran out
abbrev pub IsDone : Result Answer Cause → (after : Option Table) → Result Reply OpenFault → Type 0
IsDone meant after (Ok r) = (s : Table) × (meant ≡ Ok (r, s)) × (after ≡ Some s)
IsDone meant after (Err fault) = Makes meant (Err fault)

-- an answer as a line
abbrev pub answer_line : Result Answer Cause → Meaning Table
answer_line (Ok a) = Ok (text_of a.0 ++ 10 ∷ [], a.1)
answer_line (Err c) = Err (Fault c)

-- a line that makes a core makes a listener
abbrev pub made_by : {S : Type 0} → Meaning S → FirstMeaning S
made_by (Ok m) = Ok (Some m)
made_by (Err e) = Err e

-- what the first line of a script means
unfoldable pub first_line_meaning : List ℕ → FirstMeaning Table
first_line_meaning line =
    elim (command_in line) [
      | None ↦ Err (Fault cause.Command)
      | Some c ↦ made_by (answer_line (first_answer c))
    ]

-- what a later line of a script means to a core
unfoldable pub line_meaning : Table → List ℕ → Meaning Table
line_meaning s line =
    elim (command_in line) [
      | None ↦ Err (Fault cause.Command)
      | Some c ↦ answer_line (answer_or_fault (command_answer c s))
    ]

-- how a script is heard: its first line makes the core, and at its end nothing is said
abbrev pub script : Hearing Table
script = record {
  first_meaning = λ version line. first_line_meaning line;
  meaning = line_meaning;
  end_text = λ number. Ok [];
  said_of = end_line;
}

-- a run of a script, by what the reader had and has left, and what the writer held and holds; it has no differences
abbrev pub RunsTo : (before after held holds : Option (List ℕ)) → Result (Unit {0}) CliFault → Type 0
RunsTo before after held holds (Ok x) = RunsFrom script start before after held holds (Ok x)
RunsTo before after held holds (Err (cli_fault.Differs line)) = ⊥
RunsTo before after held holds (Err e) = RunsFrom script start before after held holds (Err e)
