use Rattle.std.proofs.Common.{subst}
use Rattle.pif_history_machine.specs.declared.verdicts.Verdict.{Verdict}
use Rattle.pif_history_machine.specs.Verdicts.{IsVerdictOf}
use Rattle.pif_history_text.specs.Histories.{limits_of}
use Rattle.pif_job_judge.specs.declared.mistakes.Outcome.{Outcome}
use Rattle.pif_job_judge.specs.Mistakes.{IsFound}
use Rattle.pif_job_judge.proofs.mistakes.run_of.Goals as goal

pub returns-in-Legal-clause-legal : goal.returns-in-Legal-clause-legal
returns-in-Legal-clause-legal c = λ h is.
    subst (λ (v : Verdict). IsVerdictOf h.allowed (limits_of h) h.shown v) c.in-Legal.is
    (subst (λ (x : Outcome). IsFound h x) c.in-Verdict.is is).0
