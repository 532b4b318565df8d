-- The states behind the commands of a story, as lines of JSON.
use Rattle.std.specs.Prelude.{ℕ, ◌≡◌, Bool, true, false, List, [], ◌∷◌, ◌++◌, Option, Some, None, Result, Ok, Err, codes, decimal, filter, map, option_and_then}
use Rattle.pif_model.specs.Table.{Table}
use Rattle.pif_model.specs.declared.events.Order.TheVariants as order
use Rattle.pif_model.specs.Calls.{threads_answer}
use Rattle.pif_text_model.specs.declared.commands.Command.{Command}
use Rattle.pif_text_model.specs.declared.replies.Cause.{Cause}
use Rattle.pif_text_model.specs.declared.replies.Reply.{Reply}
use Rattle.pif_text_model.specs.Commands.{command_in}
use Rattle.pif_script_model.specs.Running.{Answer, outcome_behind}
use Rattle.pif_script_model.specs.declared.rows.AnsweredRow.{AnsweredRow}
use Rattle.pif_script_model.specs.Stories.{NumberedRow, rows_of}
use Rattle.pif_story.specs.Names.{names_in}
use Rattle.pif_text.specs.Json.{names_array, numbers, quoted, separated}
use Rattle.pif_text_core.specs.Waiting.{begins_chain, conds_added, mutexes_added, order_in}
use Rattle.pif_story_states.specs.Objects.{answer_object, chain_array, cond_object, mutex_object, thread_object}

-- the threads, mutexes and condition variables that were added
unfoldable pub things_members : (names : List ℕ) → Table → List ℕ
things_members names s =
    codes ",\"threads\":[" ++ separated (map (thread_object names s) (numbers (threads_answer s))) ++ codes "],\"mutexes\":["
    ++ separated (map (mutex_object s) (numbers (mutexes_added s))) ++ codes "],\"conds\":["
    ++ separated (map (cond_object s) (numbers (conds_added s))) ++ codes "]"

-- the run queue, and the chains of waiting
unfoldable pub order_members : Table → List ℕ
order_members s =
    codes ",\"run_queue\":" ++ names_array 116 (order_in order.Ready s) ++ codes ",\"chains\":["
    ++ separated (map (chain_array s) (filter (begins_chain s) (numbers (threads_answer s)))) ++ codes "]"

-- a command in the line of this number, its answer, and the state behind it, as a line with an object. Threads have the
-- names that these comments give
unfoldable pub state_line : (names : List ℕ) → ℕ → (words : List ℕ) → Reply → Table → List ℕ
state_line names line words answer s =
    codes "{\"line\":" ++ decimal line ++ codes ",\"command\":" ++ quoted words ++ codes ",\"answer\":"
    ++ answer_object answer ++ codes ",\"time\":" ++ decimal s.time ++ things_members names s ++ order_members s
    ++ codes "}\n"

-- ---- a story

-- an answer, if it is no fault
abbrev pub without_fault : Result Answer Cause → Option Answer
without_fault (Ok a) = Some a
without_fault (Err cause) = None

-- what a command does: the first one makes the core
abbrev pub answer_behind : Option Table → Command → Option Answer
answer_behind before c = without_fault (outcome_behind before c)

-- what the words of a command do
abbrev pub answer_to : Option Table → List ℕ → Option Answer
answer_to before words = option_and_then (answer_behind before) (command_in words)

-- the states behind commands, up to the first fault
unfoldable pub states_from : (names : List ℕ) → Option Table → List NumberedRow → List ℕ
states_from names before [] = []
states_from names before (row ∷ rows) =
    elim (answer_to before row.1.0) [
      | None ↦ []
      | Some a ↦ state_line names row.0 row.1.0 a.0 a.1 ++ states_from names (Some a.1) rows
    ]

-- the states behind the commands of a story
unfoldable pub states_text : List ℕ → List ℕ
states_text story = states_from (names_in story) None (rows_of story)

-- ---- the same, as the code has it

-- a command that is handed on was done so, and told: the state behind it; or it is a fault, and nothing was
abbrev pub IsTold : (names : List ℕ) → AnsweredRow → (before after : Option Table) → (old new : List ℕ) → Bool → Type 0
IsTold names row before after old new true =
    (r : Reply) × (s : Table) × (answer_behind before row.command ≡ Some (r, s)) × (after ≡ Some s)
    × (new ≡ old ++ state_line names row.line row.words.now r s)
IsTold names row before after old new false = (answer_behind before row.command ≡ None) × (new ≡ old)
