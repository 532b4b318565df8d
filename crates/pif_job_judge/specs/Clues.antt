-- Clues to what is wrong with an illegal line.
use Rattle.std.specs.Prelude.{ℕ, IfSome}
use Rattle.pif_history_text.specs.Histories.{Heard}
use Rattle.pif_history_told.specs.declared.clues.Clues.{Clues}
use Rattle.pif_job_judge.specs.InTheWay.{IsInTheWay}
use Rattle.pif_job_judge.specs.LegalIf.{IsLegalIf}

-- Each that is told of the line after the first `before` lines of a history is so.
pub record AreClues (h : Heard) (before : ℕ) (clues : Clues) : Type 0 where
  pub in_the_way : IfSome clues.in_the_way (IsInTheWay h before)
  pub legal_if : IfSome clues.legal_if (IsLegalIf h before)
