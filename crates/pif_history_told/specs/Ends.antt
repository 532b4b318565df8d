-- What is told at the end of a legal history, of the calls that are open there.
use Rattle.std.specs.Prelude.{ℕ, Bool, true, false, List, [], ◌∷◌, ◌++◌, Option, Some, None, codes}
use Rattle.std.specs.List.{flat_map}
use Rattle.pif_text_model.specs.CommandTexts.{request_text}
use Rattle.pif_text_model.specs.Replies.{cond_name, mutex_name, thread_name}
use Rattle.pif_types.specs.Shapes.{names_of}
use Rattle.pif_history_told.specs.declared.ends.AtEnd.{AtEnd}
use Rattle.pif_history_told.specs.declared.ends.Part.{Part}
use Rattle.pif_history_told.specs.declared.ends.Part.TheVariants.{Call, Object}
use Rattle.pif_history_told.specs.declared.verdicts.Began.{Began}

-- The condition variable that a call names, or else the mutex.
abbrev pub object_name : (mutex cond : Option ℕ) → List ℕ
object_name mutex (Some c) = codes " " ++ cond_name c
object_name (Some m) None = codes " " ++ mutex_name m
object_name None None = []

-- A part of what is told of an open call, after its thread: the call as in its begin, or what it names.
abbrev pub part_text : Part → Began → List ℕ
part_text Call b = codes " " ++ request_text b.request
part_text Object b = object_name (names_of b.request).mutex (names_of b.request).cond

abbrev pub call_text : Part → Began → List ℕ
call_text part b = thread_name b.thread ++ part_text part b

-- Calls in a line after these words, with a comma between them; nothing if there are none.
abbrev pub calls_line : (words : List ℕ) → Part → List Began → List ℕ
calls_line words part [] = []
calls_line words part (b ∷ bs) =
    words ++ call_text part b ++ flat_map (λ x. codes ", " ++ call_text part x) bs ++ codes "\n"

-- The line that says that none of the open calls can be answered.
abbrev pub deadlock_text : Bool → List Began → List ℕ
deadlock_text true calls = calls_line (codes "deadlock at the end: ") Object calls
deadlock_text false calls = []

-- Which calls are open, and whether none can be answered.
abbrev pub at_end_text : AtEnd → List ℕ
at_end_text x = calls_line (codes "open at the end: ") Call x.calls.items ++ deadlock_text x.deadlock x.calls.items
