-- The words by which a line writes the statements of a program that has no block, with `;` between them (docs/EXPLORE.md),
-- and the points that they become.
use Rattle.std.specs.Prelude.{ℕ, ◌≡◌, ◌+◌, ◌≤◌, ◌<◌, true, List, [], ◌∷◌, ◌++◌, flat_map, codes, decimal}
use Rattle.pif_text_model.specs.CommandTexts.{IsRequestWritten, request_text}
use Rattle.pif_text_model.specs.Replies.{thread_name}
use Rattle.pif_text_model.specs.Words.{words}
use Rattle.pif_explore_model.specs.declared.programs.Point.{Point}
use Rattle.pif_explore_text.specs.declared.names.Names.{Names}
use Rattle.pif_explore_text.specs.declared.programs.Action.{Action}
use Rattle.pif_explore_text.specs.declared.programs.Action.TheVariants.{Call, Set, Add, Choose, Join, Start, Exit}
use Rattle.pif_explore_text.specs.Names.{names_what_is}
use Rattle.pif_explore_text.specs.Points.{action_point}
use Rattle.pif_explore_text.specs.Trees.{Body, does, followed}
use Rattle.pif_explore_text.specs.Written.{IsCell, IsOperand, IsThread, cell_name, operand_word}

-- a statement that names only what is there, with numbers that a line can write
abbrev pub IsDone : Names → Action → Type 0
IsDone n (Call q) = IsRequestWritten q × (names_what_is n q ≡ true)
IsDone n (Set x o) = IsCell x × IsOperand o
IsDone n (Add x o) = IsCell x × IsOperand o
IsDone n (Choose x least most) = IsCell x × (least ≤ most) × (most < 256)
IsDone n (Join t) = IsThread n t
IsDone n (Start t) = IsThread n t
IsDone n Exit = Unit {0}

abbrev pub AreDone : Names → List Action → Type 0
AreDone n [] = Unit {0}
AreDone n (a ∷ more) = IsDone n a × AreDone n more

-- the word of the values from one to another, with `..` between the two
abbrev pub range_word : (least most : ℕ) → List ℕ
range_word least most = decimal least ++ 46 ∷ 46 ∷ decimal most

-- the words of a statement
abbrev pub action_words : Action → List (List ℕ)
action_words (Call q) = words (request_text q)
action_words (Set x o) = codes "set" ∷ cell_name x ∷ operand_word o ∷ []
action_words (Add x o) = codes "add" ∷ cell_name x ∷ operand_word o ∷ []
action_words (Choose x least most) = codes "choose" ∷ cell_name x ∷ range_word least most ∷ []
action_words (Join t) = codes "join" ∷ thread_name t ∷ []
action_words (Start t) = codes "start" ∷ thread_name t ∷ []
action_words Exit = codes "exit" ∷ []

-- words, each behind a space
abbrev pub behind_spaces : List (List ℕ) → List ℕ
behind_spaces ws = flat_map (λ word. 32 ∷ word) ws

-- the words of statements
abbrev pub statement_words : List Action → List (List ℕ)
statement_words [] = []
statement_words (a ∷ []) = action_words a
statement_words (a ∷ next ∷ more) = action_words a ++ codes ";" ∷ statement_words (next ∷ more)

-- a program, and these statements behind it
abbrev pub done_behind : Body → List Action → Body
done_behind before [] = before
done_behind before (a ∷ more) = done_behind (followed before (does a)) more

-- The points of statements that are numbered from `at`: each goes on at the next one, and the last at `exit`.
abbrev pub action_points : List Action → (at exit : ℕ) → List Point
action_points [] at exit = []
action_points (a ∷ []) at exit = action_point a exit ∷ []
action_points (a ∷ next ∷ more) at exit = action_point a (at + 1) ∷ action_points (next ∷ more) (at + 1) exit
