-- Clues to what is wrong with an illegal line, which follow what is possible there.
use Rattle.std.specs.Prelude.{ℕ, List, [], ◌++◌, Option, Some, None, codes, decimal}
use Rattle.pif_history_text.specs.Verdicts.{answer_text}
use Rattle.pif_history_told.specs.declared.clues.Clues.{Clues}
use Rattle.pif_history_told.specs.declared.clues.LegalIf.{LegalIf}
use Rattle.pif_history_told.specs.InTheWay.{in_the_way_member, in_the_way_text}

-- The lines would be legal if the line of this number had this answer.
abbrev pub legal_if_text : Option LegalIf → List ℕ
legal_if_text None = []
legal_if_text (Some x) = codes "legal if line " ++ decimal x.number ++ codes " had " ++ answer_text x.answer ++ codes "\n"

-- All of them, line by line.
abbrev pub clues_text : Clues → List ℕ
clues_text clues = in_the_way_text clues.in_the_way ++ legal_if_text clues.legal_if

-- The same as a member.
unfoldable pub legal_if_member : Option LegalIf → List ℕ
legal_if_member None = []
legal_if_member (Some x) =
    codes ",\"legal_if\":{\"line\":" ++ decimal x.number ++ codes ",\"answer\":" ++ decimal x.answer ++ codes "}"

abbrev pub clues_members : Clues → List ℕ
clues_members clues = in_the_way_member clues.in_the_way ++ legal_if_member clues.legal_if
