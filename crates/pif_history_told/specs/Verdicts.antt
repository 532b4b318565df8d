-- Verdicts on histories, as lines of JSON.
use Rattle.std.specs.Prelude.{ℕ, ◌-◌, Bool, true, false, List, [], ◌∷◌, ◌++◌, Option, Some, None, get_or, flat_map, codes, decimal}
use Rattle.std.specs.Global.{Vec}
use Rattle.pif_history_model.specs.declared.lines.Line.{Line}
use Rattle.pif_history_model.specs.declared.lines.Line.TheVariants.{Begin}
use Rattle.pif_history_text.specs.Texts.{line_text}
use Rattle.pif_history_text.specs.Verdicts.{line_refusal_word}
use Rattle.pif_text.specs.Json.{number_or_null, quoted}
use Rattle.pif_text_model.specs.Errors.{error_of}
use Rattle.pif_history_told.specs.declared.unlisted.Unlisted.{Unlisted}
use Rattle.pif_history_told.specs.Clues.{clues_members}
use Rattle.pif_history_told.specs.Texts.{call_word, error_word}
use Rattle.pif_history_told.specs.declared.clues.Clues.{Clues}
use Rattle.pif_history_told.specs.declared.ends.AtEnd.{AtEnd}
use Rattle.pif_history_told.specs.declared.verdicts.Began.{Began}
use Rattle.pif_history_told.specs.declared.verdicts.Known.{Known}
use Rattle.pif_history_told.specs.declared.verdicts.Unfound.{Unfound}
use Rattle.pif_history_told.specs.declared.verdicts.Known.TheVariants.{Refused, Numbers, Nothing}

-- How many lines of the history, from its first one, are left out behind the verdict.
abbrev pub left_out_member : ℕ → List ℕ
left_out_member lines = codes ",\"left_out\":" ++ decimal lines

-- A number after what it counts or numbers, and how many lines are left out.
abbrev pub at_number : (head : List ℕ) → (number left_out : ℕ) → List ℕ
at_number head number left_out = head ++ decimal number ++ left_out_member left_out

-- The line of an answer that no page has, and the answer and the word of its call, as a member, if there is one. The
-- lines have these numbers in the text.
unfoldable pub but_for_member : (numbers : List ℕ) → Option Unlisted → List ℕ
but_for_member numbers None = []
but_for_member numbers (Some x) =
    codes ",\"but_for\":{\"line\":" ++ decimal (get_or numbers (x.line - 1) 0) ++ codes ",\"answer\":"
    ++ quoted (error_word (error_of x.answer)) ++ codes ",\"call\":" ++ quoted (call_word x.request) ++ codes "}"

-- A line of the history, after its number.
abbrev pub at_line : (number : ℕ) → Line → List ℕ
at_line number line = codes "\"line\":" ++ decimal number ++ codes ",\"text\":" ++ quoted (line_text line)

-- The begin of a call.
unfoldable pub begin_object : Began → List ℕ
begin_object b = codes "{" ++ at_line b.number (Begin b.thread b.request) ++ codes "}"

-- The calls that are open at the end, as a member, if there are some.
unfoldable pub open_member : List Began → List ℕ
open_member [] = []
open_member (b ∷ bs) = codes ",\"open\":[" ++ begin_object b ++ flat_map (λ x. codes "," ++ begin_object x) bs ++ codes "]"

-- That none of them can be answered, as a member.
unfoldable pub deadlock_member : Bool → List ℕ
deadlock_member true = codes ",\"deadlock\":true"
deadlock_member false = []

abbrev pub at_end_members : AtEnd → List ℕ
at_end_members x = open_member x.calls.items ++ deadlock_member x.deadlock

-- A history of so many lines, which begin so many calls, is legal, by a run with this answer that no page has, if it
-- has one; and what is told of its end.
abbrev pub legal_object : (lines calls left_out : ℕ) → (numbers : List ℕ) → Option Unlisted → AtEnd → List ℕ
legal_object lines calls left_out numbers found x =
    (codes "{\"verdict\":\"legal\",\"lines\":" ++ decimal lines ++ at_number (codes ",\"calls\":") calls left_out)
    ++ but_for_member numbers found ++ at_end_members x ++ codes "}\n"

-- Numbers, with a comma between them.
abbrev pub numbers_text : List ℕ → List ℕ
numbers_text [] = []
numbers_text (n ∷ ns) = decimal n ++ flat_map (λ k. codes "," ++ decimal k) ns

-- What is known of an illegal line, as a member: why it is refused whatever was answered, or the numbers that may stand
-- there; null if the search for them was given up.
unfoldable pub known_member : Known → List ℕ
known_member (Refused why) = codes ",\"refused\":" ++ quoted (line_refusal_word why)
known_member (Numbers (Some ns)) = codes ",\"possible\":[" ++ numbers_text ns.items ++ codes "]"
known_member (Numbers None) = codes ",\"possible\":null"
known_member Nothing = []

-- Where the open call of its thread began, if there is one.
unfoldable pub began_member : Option Began → List ℕ
began_member None = []
began_member (Some b) = codes ",\"began\":{" ++ at_line b.number (Begin b.thread b.request) ++ codes "}"

-- An illegal line, after its verdict.
unfoldable pub illegal_front : (number : ℕ) → Line → (left_out : ℕ) → List ℕ
illegal_front number line left_out =
    codes "{\"verdict\":\"illegal\"," ++ at_line number line ++ left_out_member left_out

-- What is known of it, and clues to what is wrong.
unfoldable pub illegal_end : Known → Option Began → Clues → List ℕ
illegal_end known began clues = known_member known ++ began_member began ++ clues_members clues ++ codes "}\n"

-- The line of this number is the first up to which there is no run.
abbrev pub illegal_object : (number : ℕ) → Line → Known → Option Began → Clues → (left_out : ℕ) → List ℕ
illegal_object number line known began clues left_out =
    illegal_front number line left_out ++ illegal_end known began clues

-- With these numbers, in place of an answer or a priority, a search found a run, if it looked. It claims nothing of
-- others.
unfoldable pub found_member : Option (Vec ℕ) → List ℕ
found_member None = []
found_member (Some ns) = codes ",\"found\":[" ++ numbers_text ns.items ++ codes "]"

-- The first line up to which the history may be legal or not, after the verdict; and the number of the last line up to
-- which it is legal, null if none is known.
unfoldable pub undecided_front : Unfound → (left_out : ℕ) → List ℕ
undecided_front u left_out =
    codes "{\"verdict\":\"undecided\"," ++ at_line u.number u.line ++ left_out_member left_out
    ++ codes ",\"legal_up_to\":" ++ number_or_null u.up_to

-- The verdict that it isn't known, and what a search found in place of the line's number.
abbrev pub undecided_object : Unfound → (left_out : ℕ) → List ℕ
undecided_object u left_out = undecided_front u left_out ++ found_member u.found ++ codes "}\n"
