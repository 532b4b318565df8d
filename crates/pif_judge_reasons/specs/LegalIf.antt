-- Another answer in lines, with which they would be legal.
use Rattle.std.specs.Prelude.{ℕ, ◌≡◌, ◌<◌, ◌+◌, List, length, set, slice_get, Some}
use Rattle.pif_types.specs.Bounds.{Bounds}
use Rattle.pif_rules_model.specs.declared.rules.Rules.{Rules}
use Rattle.pif_history_model.specs.declared.labels.Label.{Label}
use Rattle.pif_history_model.specs.declared.lines.Line.{Line}
use Rattle.pif_history_model.specs.declared.lines.Line.TheVariants.{Answer}
use Rattle.pif_history_model.specs.Verdicts.{IsLegal}
use Rattle.pif_judge_reasons.specs.declared.legal_if.OtherAnswer.{OtherAnswer}

-- Some run shows these lines with this one in the place of another.
abbrev pub IsLegalWith : Rules → Bounds → List Line → (place : ℕ) → Line → Type 0
IsLegalWith r l lines place line = (labels : List Label) × IsLegal r l (set lines place line) labels

-- Some run shows them with this answer of t, which is another.
abbrev pub IsOtherAnswer : Rules → Bounds → List Line → (place t answer other : ℕ) → Type 0
IsOtherAnswer r l lines place t answer other = (other ≡ answer → ⊥) × IsLegalWith r l lines place (Answer t other)

-- One of these lines, but not the last, is an answer. With this one, which is another, some run shows them all.
pub record IsLegalIf (r : Rules) (l : Bounds) (lines : List Line) (x : OtherAnswer) : Type 0 where
  pub thread : ℕ
  pub answer : ℕ
  pub earlier : x.place + 1 < length lines
  pub answers : slice_get lines x.place ≡ Some (Answer thread answer)
  pub legal : IsOtherAnswer r l lines x.place thread answer x.answer
