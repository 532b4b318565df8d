-- Who is ready lives, and doesn't rest; and the first of them runs next.
use Rattle.std.proofs.Common.{◌∙◌, ap}
use Rattle.pif_model.specs.Calls.{ready_answer}
use Rattle.pif_core.proofs.Looks.{ready_answered, first_answered}
use Rattle.pif_core.proofs.cores.Core.ready.Goals as goal

pub returns-clause-runs : goal.returns-clause-runs
returns-clause-runs c = λ h r w st.
    ready_answered c.args.self.now h r w st c.args.place c.ready.result
    (c.ready.ensures ∙ ap (ready_answer c.args.place) c.self.view_is)

pub returns-clause-next : goal.returns-clause-next
returns-clause-next c = λ h r w st. λ zero.
    first_answered c.args.self.now h r w st c.args.place c.ready.result
    (c.ready.ensures ∙ ap (ready_answer c.args.place) c.self.view_is) zero
