-- Another answer in a history, with which its lines would be legal up to the first one that isn't.
use Rattle.std.specs.Prelude.{ℕ, ◌≡◌, ◌+◌, take}
use Rattle.pif_judge_reasons.specs.declared.legal_if.OtherAnswer.{OtherAnswer}
use Rattle.pif_judge_reasons.specs.LegalIf.{IsLegalIf as IsMended}
use Rattle.pif_history_text.specs.Histories.{Heard, limits_of}
use Rattle.pif_history_told.specs.declared.clues.LegalIf.{LegalIf}
use Rattle.pif_history_told.specs.Why.{IsNumbered}

-- One of the first `before` lines of a history is an answer. With this one, which is another, the lines up to the one
-- after those would be legal.
pub record IsLegalIf (h : Heard) (before : ℕ) (x : LegalIf) : Type 0 where
  pub found : OtherAnswer
  pub mended : IsMended h.allowed (limits_of h) (take (before + 1) h.shown) found
  pub numbered : IsNumbered h (found.place + 1) x.number
  pub answer : x.answer ≡ found.answer
