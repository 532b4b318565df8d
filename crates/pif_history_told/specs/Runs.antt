-- A run that shows a history, as lines of JSON: one for each line of the history, with the moves that come before it.
use Rattle.std.specs.Prelude.{ℕ, ◌+◌, ◌-◌, ◌%◌, ◌==◌, Bool, false, nat_lt, List, [], ◌∷◌, ◌++◌, get_or, codes, decimal, if◌then◌else◌}
use Rattle.pif_types.specs.Bounds.{Bounds}
use Rattle.pif_history_model.specs.declared.labels.Label.{Label}
use Rattle.pif_history_model.specs.declared.labels.Label.TheVariants.{Shown, Moves, Ends}
use Rattle.pif_history_model.specs.declared.lines.Line.{Line}
use Rattle.pif_rules_model.specs.declared.rules.Rules.{Rules}
use Rattle.pif_rules_model.specs.Rules.{Wide}
use Rattle.pif_history_model.specs.Searched.{Configuration, start_of}
use Rattle.pif_rules.specs.Sets.{names_of}
use Rattle.pif_history_told.specs.Steps.{IsStepBy}
use Rattle.pif_history_text.specs.Texts.{line_text}
use Rattle.pif_text.specs.Json.{bool_text, name_text, quoted}
use Rattle.pif_history_told.specs.StateObjects.{change_members, thread_letter}

-- How a run is told so far.
pub record Telling : Type 0 where
  -- how many lines of the history it has shown
  pub place : ℕ
  -- the lines of JSON
  pub done : List ℕ
  -- the moves after the last line of the history
  pub pending : List ℕ

-- Before the first step.
abbrev pub untold : Telling
untold = record { place = 0; done = []; pending = [] }

-- At each 256th line that is told the state stands whole, the first one among them.
abbrev pub is_whole : (from place : ℕ) → Bool
is_whole from place = (place - from) % 256 == 0

-- The names of the rules that a step needs, if it needs some, as a member. A space stands before each and between them.
abbrev pub rule_members : (names : List ℕ) → List ℕ
rule_members [] = []
rule_members (space ∷ names) = codes ",\"rule\":" ++ quoted names

-- A line of the history that has this text: its number in the file, the text, the moves before it, the rules that it
-- needs itself, and what it changes itself.
abbrev pub line_members : (whole : Bool) → (number : ℕ) → (text moves names : List ℕ) → Wide → Wide → List ℕ
line_members whole number text moves names w v =
    codes "{\"line\":" ++ decimal number ++ codes ",\"text\":" ++ quoted text ++ codes ",\"moves\":[" ++ moves
    ++ codes "],\"whole\":" ++ bool_text whole ++ rule_members names ++ change_members whole w v ++ codes "}\n"

-- The same of a line.
unfoldable pub line_object : (whole : Bool) → (number : ℕ) → Line → (moves names : List ℕ) → Wide → Wide → List ℕ
line_object whole number line moves names w v = line_members whole number (line_text line) moves names w v

-- A move that no line shows, of a thread: by its open call, or its end; and the rules that it needs.
unfoldable pub move_object : (name : List ℕ) → (t : ℕ) → (names : List ℕ) → Wide → Wide → List ℕ
move_object name t names w v =
    codes "{\"" ++ name ++ codes "\":" ++ name_text thread_letter t ++ rule_members names ++ change_members false w v
    ++ codes "}"

-- A comma after moves.
abbrev pub comma_behind : List ℕ → List ℕ
comma_behind [] = []
comma_behind (x ∷ xs) = codes ","

-- The line at a place of the history, if it is told: the first `from` lines are left out.
abbrev pub told_line : (from : ℕ) → (numbers : List ℕ) → (place : ℕ) → Line → (moves names : List ℕ) → Wide → Wide
    → List ℕ
told_line from numbers place line moves names w v =
    if nat_lt place from then [] else line_object (is_whole from place) (get_or numbers place 0) line moves names w v

-- With a line more.
abbrev pub with_line : (from : ℕ) → (numbers : List ℕ) → Line → (names : List ℕ) → Wide → Wide → Telling → Telling
with_line from numbers line names w v t = record {
  place = t.place + 1;
  done = t.done ++ told_line from numbers t.place line t.pending names w v;
  pending = [];
}

-- With a move more. Moves before the first line that is told are left out.
abbrev pub with_move : (from : ℕ) → (name : List ℕ) → (thread : ℕ) → (names : List ℕ) → Wide → Wide → Telling → Telling
with_move from name u names w v t = record t {
  pending = if nat_lt from t.place then t.pending ++ comma_behind t.pending ++ move_object name u names w v else t.pending;
}

-- With a step more, from w to v, by the rules of these names.
unfoldable pub with_step : (from : ℕ) → (numbers : List ℕ) → Label → (names : List ℕ) → Wide → Wide → Telling → Telling
with_step from numbers (Shown line) names w v t = with_line from numbers line names w v t
with_step from numbers (Moves u) names w v t = with_move from (codes "move") u names w v t
with_step from numbers (Ends u) names w v t = with_move from (codes "end") u names w v t

-- A run of these labels, newest first, which leads from the start to s, is told so. It may use these rules. The lines
-- of the history have these numbers in the file, and the first `from` of them are left out.
pub data IsTold (r : Rules) (l : Bounds) (numbers : List ℕ) (from : ℕ) : List Label → Configuration → Telling → Type 0 where
  start : IsTold r l numbers from [] (start_of l) untold
  then : {xs : List Label} {s : Configuration} {t : Telling} (x : Label) (by : Rules) (n : Configuration)
      → IsTold r l numbers from xs s t → IsStepBy r l s x by n
      → IsTold r l numbers from (x ∷ xs) n (with_step from numbers x (names_of by) s.wide n.wide t)
