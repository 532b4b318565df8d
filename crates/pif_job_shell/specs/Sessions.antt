-- A session: the commands that were accepted, and the core behind them.
use Rattle.std.specs.Prelude.{ℕ, ◌≡◌, ◌≤◌, ◌<◌, ◌+◌, List, [], ◌∷◌, ◌++◌, All, length, take, get_or, Option, Some, None, Result, Ok, Err}
use Rattle.pif_model.specs.Table.{Table}
use Rattle.pif_text_errors.specs.SyntaxErrors.{IsIn}
use Rattle.pif_text_model.specs.declared.commands.Command.{Command}
use Rattle.pif_text_model.specs.declared.replies.Cause.{Cause}
use Rattle.pif_text_model.specs.declared.replies.Reply.{Reply}
use Rattle.pif_text_model.specs.Commands.{command_in}
use Rattle.pif_text_model.specs.CommandTexts.{IsWritten}
use Rattle.pif_text_model.specs.Replies.{text_of}
use Rattle.pif_script_model.specs.CommandLines.{script_lines}
use Rattle.pif_script_model.specs.Running.{Answer, answer_or_fault, command_answer, first_answer}
use Rattle.pif_script_model.specs.Scripts.{Scan}
use Rattle.pif_script_model.specs.Transcripts.{script_end, script_reading}
use Rattle.pif_job_shell.specs.declared.sessions.Refusal.{Refusal}
use Rattle.pif_job_shell.specs.declared.sessions.Refusal.TheVariants as refusal
use Rattle.pif_job_shell.specs.declared.sessions.Unplayed.{Unplayed}
use Rattle.pif_job_shell.specs.declared.sessions.Unplayed.TheVariants as unplayed
use Rattle.pif_job_shell.specs.declared.sessions.NotUndone.{NotUndone}
use Rattle.pif_job_shell.specs.declared.sessions.NotUndone.TheVariants as not_undone
use Rattle.pif_job_shell.specs.declared.sessions.NotRedone.{NotRedone}
use Rattle.pif_job_shell.specs.declared.sessions.NotRedone.TheVariants as not_redone

-- what a session keeps: the commands that were accepted, the first one first; those that were taken back, the one that
-- is given again next first; and the core behind the former; there is none before the first
pub record Kept : Type 0 where
  pub commands : List Command
  pub undone : List Command
  pub core : Option Table

-- a session with no command
abbrev pub nothing_kept : Kept
nothing_kept = record { commands = []; undone = []; core = None }

-- what a command is answered by this core, or as the first one, which makes it; or why it is a fault
abbrev pub answer_by : Option Table → Command → Result Answer Cause
answer_by None c = first_answer c
answer_by (Some s) c = answer_or_fault (command_answer c s)

-- these commands are answered one after the other, and leave this core
abbrev pub Leaves : Option Table → List Command → Option Table → Type 0
Leaves core [] left = left ≡ core
Leaves core (c ∷ cs) left = (a : Answer) × (answer_by core c ≡ Ok a) × Leaves (Some a.1) cs left

-- a session may keep these commands, with this core behind them
abbrev pub IsPlayed : List Command → Option Table → Type 0
IsPlayed cs core = Leaves None cs core × All IsWritten cs × (length cs ≤ 131072)

-- the first so many of these commands stand, with this core behind them, and the others were taken back
abbrev pub IsStanding : List Command → (standing : ℕ) → Option Table → Type 0
IsStanding cs standing core =
    (standing ≤ length cs) × Leaves None (take standing cs) core × All IsWritten cs × (length cs ≤ 131072)

-- ---- calls of a session

-- a core, or nobody, answers a command so, and is another then
abbrev pub AnswersCommand : Command → (old new : Option Table) → Result Reply Unplayed → Type 0
AnswersCommand c old new (Ok reply) = (core : Table) × (answer_by old c ≡ Ok (reply, core)) × (new ≡ Some core)
AnswersCommand c old new (Err (unplayed.Fault cause)) = (answer_by old c ≡ Err cause) × (new ≡ old)
AnswersCommand c old new (Err unplayed.Full) = ⊥
AnswersCommand c old new (Err unplayed.NoMemory) = new ≡ old

-- there is no room for one command more behind so many, for this reason
abbrev pub HasNoRoom : ℕ → Unplayed → Type 0
HasNoRoom standing unplayed.Full = 131072 ≤ standing
HasNoRoom standing unplayed.NoMemory = Unit {0}
HasNoRoom standing (unplayed.Fault cause) = ⊥

-- a command is not accepted behind so many, which have left this core, for this reason
abbrev pub NotPlayed : Command → ℕ → Option Table → Unplayed → Type 0
NotPlayed c standing core (unplayed.Fault cause) = answer_by core c ≡ Err cause
NotPlayed c standing core unplayed.Full = 131072 ≤ standing
NotPlayed c standing core unplayed.NoMemory = Unit {0}

-- one command more behind the first so many, which is answered so; or nothing changes
abbrev pub PlaysBehind : Command → (standing : ℕ) → (old : List Command) → (was : Option Table) → (next : ℕ)
    → (new : List Command) → (is : Option Table) → Result Reply Unplayed → Type 0
PlaysBehind c standing old was next new is (Ok reply) =
    (standing < 131072)
    × ((core : Table) × (answer_by was c ≡ Ok (reply, core)) × (new ≡ take standing old ++ c ∷ []) × (is ≡ Some core))
    × (next ≡ standing + 1)
PlaysBehind c standing old was next new is (Err why) =
    NotPlayed c standing was why × (new ≡ old) × (is ≡ was) × (next ≡ standing)

-- the command behind the first so many is answered again; or nothing changes
abbrev pub PlaysAgain : List Command → (standing : ℕ) → (was : Option Table) → (next : ℕ) → (is : Option Table)
    → Result (Command × Reply) NotRedone → Type 0
PlaysAgain cs standing was next is (Ok done) =
    (standing < length cs) × (done.0 ≡ get_or cs standing done.0)
    × ((core : Table) × (answer_by was done.0 ≡ Ok (done.1, core)) × (is ≡ Some core)) × (next ≡ standing + 1)
PlaysAgain cs standing was next is (Err not_redone.Nothing) = (length cs ≤ standing) × (next ≡ standing) × (is ≡ was)
PlaysAgain cs standing was next is (Err not_redone.NoMemory) = (next ≡ standing) × (is ≡ was)

-- a command is answered so, and stands behind the others
abbrev pub Adds : Command → Reply → (old new : Kept) → Type 0
Adds c reply old new =
    (core : Table) × (answer_by old.core c ≡ Ok (reply, core)) × (new.core ≡ Some core)
    × (new.commands ≡ old.commands ++ c ∷ [])

-- a line is answered so: its command is accepted, and none is left that was taken back; or nothing changes
abbrev pub TakesLine : List ℕ → (old new : Kept) → Result Reply Refusal → Type 0
TakesLine line old new (Ok reply) =
    (c : Command) × (command_in line ≡ Some c) × (length old.commands < 131072) × Adds c reply old new
    × (new.undone ≡ [])
TakesLine line old new (Err (refusal.Unplayed why)) =
    (c : Command) × (command_in line ≡ Some c) × NotPlayed c (length old.commands) old.core why × (new ≡ old)
TakesLine line old new (Err (refusal.SyntaxError syntax_error)) = (command_in line ≡ None) × IsIn line syntax_error × (new ≡ old)

-- these lines are accepted, one after the other
abbrev pub TakesAll : List (List ℕ) → (old new : Kept) → Type 0
TakesAll [] old new = new ≡ old
TakesAll (line ∷ lines) old new =
    (between : Kept) × (reply : Reply) × TakesLine line old between (Ok reply) × TakesAll lines between new

-- so many of the last commands are taken back, and stay to be given again; or nothing changes
abbrev pub Undoes : ℕ → (old new : Kept) → Result (Unit {0}) NotUndone → Type 0
Undoes count old new (Ok x) =
    (length new.commands + count ≡ length old.commands)
    × (new.commands ++ new.undone ≡ old.commands ++ old.undone)
Undoes count old new (Err not_undone.Fewer) = (length old.commands < count) × (new ≡ old)
Undoes count old new (Err not_undone.NoMemory) = new ≡ old

-- the command that was taken back last is given again, and answered so; or nothing changes
abbrev pub Redoes : (old new : Kept) → Result (Command × Reply) NotRedone → Type 0
Redoes old new (Ok done) = (old.undone ≡ done.0 ∷ new.undone) × Adds done.0 done.1 old new
Redoes old new (Err not_redone.Nothing) = (old.undone ≡ []) × (new ≡ old)
Redoes old new (Err not_redone.NoMemory) = new ≡ old

-- ---- what is kept is a script, as `run` has it

-- a run of these commands as a script has no fault, and leaves this core
abbrev pub RunsAsScript : List Command → Option Table → Type 0
RunsAsScript cs core =
    (script_end (script_lines cs) ≡ Ok [])
    × ((s : Scan Table) × ((script_reading (script_lines cs)).stands ≡ Ok s) × (s.listener ≡ core))

-- behind these commands `run` prints this for one more
abbrev pub IsPrinted : List Command → Command → List ℕ → Type 0
IsPrinted cs c line =
    (script_reading (script_lines (cs ++ c ∷ []))).text ≡ (script_reading (script_lines cs)).text ++ line

-- what a session keeps is a script without a fault, and its core is the one behind a run of that
abbrev pub KeepsRuns : Type 0
KeepsRuns = (cs : List Command) (core : Option Table) → IsPlayed cs core → RunsAsScript cs core

-- what a session answers a command is what `run` prints for it, and LF
abbrev pub AnswersAsRuns : Type 0
AnswersAsRuns =
    (cs : List Command) (core : Option Table) (c : Command) (a : Answer)
    → IsPlayed cs core → IsPlayed (cs ++ c ∷ []) (Some a.1) → answer_by core c ≡ Ok a
    → IsPrinted cs c (text_of a.0 ++ 10 ∷ [])
