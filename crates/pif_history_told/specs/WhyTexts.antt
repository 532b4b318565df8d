-- What is told in lines for a person of a line up to which there is no run, or none was found.
use Rattle.std.specs.Prelude.{ℕ, List, [], ◌++◌, Option, Some, None, codes, decimal}
use Rattle.std.specs.Global.{Vec}
use Rattle.pif_history_model.specs.declared.lines.Line.{Line}
use Rattle.pif_history_text.specs.Texts.{line_text}
use Rattle.pif_history_text.specs.Verdicts.{began_line, found_line, possible_line, possible_undecided, refused_line}
use Rattle.pif_history_told.specs.declared.verdicts.Began.{Began}
use Rattle.pif_history_told.specs.declared.verdicts.Known.{Known}
use Rattle.pif_history_told.specs.declared.verdicts.Known.TheVariants.{Refused, Numbers, Nothing}
use Rattle.pif_history_told.specs.declared.verdicts.Unfound.{Unfound}

-- The line that says what is known of a line.
abbrev pub known_text : Line → Known → List ℕ
known_text line (Refused why) = refused_line why
known_text line (Numbers (Some numbers)) = possible_line line numbers.items
known_text line (Numbers None) = possible_undecided
known_text line Nothing = []

-- The line that says where an open call began, if there is one.
abbrev pub began_text : Option Began → List ℕ
began_text (Some b) = began_line b.number b.thread b.request
began_text None = []

-- What is told of a line by what is known of it, and by the open call of its thread. The call is left out if the line
-- is refused.
abbrev pub why_text : Line → Known → Option Began → List ℕ
why_text line (Refused why) began = refused_line why
why_text line (Numbers numbers) began = known_text line (Numbers numbers) ++ began_text began
why_text line Nothing began = began_text began

-- The lines up to that of this number are legal, if one is known.
abbrev pub up_to_text : Option ℕ → List ℕ
up_to_text None = []
up_to_text (Some number) = codes "legal up to " ++ decimal number ++ codes "; "

-- With these numbers in place of a line's answer or priority a search found a run, if it looked; and the end of the
-- line.
abbrev pub found_text : Line → Option (Vec ℕ) → List ℕ
found_text line None = codes "\n"
found_text line (Some numbers) = codes "; " ++ found_line line numbers.items

-- Up to the line of this number the history may be legal or not.
abbrev pub undecided_from_text : (number : ℕ) → Line → List ℕ
undecided_from_text number line = codes "undecided from " ++ decimal number ++ codes ": " ++ line_text line

-- Up to which line a history is legal, and the next one.
abbrev pub legal_up_to_text : Unfound → List ℕ
legal_up_to_text u = up_to_text u.up_to ++ undecided_from_text u.number u.line ++ found_text u.line u.found
