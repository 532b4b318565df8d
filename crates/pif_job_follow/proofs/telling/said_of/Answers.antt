use Rattle.std.proofs.Common.{subst, sym}
use Rattle.std.proofs.lemmas.Result.{IfOk-weaker}
use Rattle.pif_job_follow.specs.Telling.{IsSaid}
use Rattle.pif_job_follow.proofs.telling.said_of.Goals as goal

pub returns-in-Illegal : goal.returns-in-Illegal
returns-in-Illegal c =
    IfOk-weaker c.said_illegal.result _ _
    (λ said says full x. subst (λ v. IsSaid full v said.text.items said.end) (sym c.in-Illegal.is) (says full x)) c.said_illegal.ensures

pub returns-in-Undecided : goal.returns-in-Undecided
returns-in-Undecided c =
    IfOk-weaker c.said_undecided.result _ _
    (λ said says full x. subst (λ v. IsSaid full v said.text.items said.end) (sym c.in-Undecided.is) (says full x))
    c.said_undecided.ensures
