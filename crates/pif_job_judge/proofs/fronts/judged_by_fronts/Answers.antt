use Rattle.std.proofs.Common.{Option, Vec, Global, IfSome, subst}
use Rattle.pif_history_model.specs.declared.labels.Label.{Label}
use Rattle.pif_history_model.specs.Verdicts.{IsLegal}
use Rattle.pif_history_text.specs.Histories.{limits_of}
use Rattle.pif_history_text.specs.Reading.{heard_of}
use Rattle.pif_job_judge.proofs.fronts.judged_by_fronts.Goals as goal

pub returns-in-Some : goal.returns-in-Some
returns-in-Some g c =
    let h = heard_of c.args.history.now in
    (subst (λ (o : Option (Vec Label Global)). IfSome o (λ v. IsLegal h.allowed (limits_of h) h.shown v.items)) c.in-Some.is c.in_ok-labels.ensures, tt)
