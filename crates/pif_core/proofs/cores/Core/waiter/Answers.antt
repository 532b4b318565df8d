-- The waiters of a mutex stand in their order.
use Rattle.std.proofs.Common.{◌∙◌, ap}
use Rattle.pif_model.specs.Calls.{waiter_answer}
use Rattle.pif_core.proofs.Looks.{waiter_answered}
use Rattle.pif_core.proofs.cores.Core.waiter.Goals as goal

pub returns-clause-order : goal.returns-clause-order
returns-clause-order c = λ h r w st.
    waiter_answered c.args.self.now h r w st c.args.mutex c.args.place c.waiter.result
    (c.waiter.ensures ∙ ap (waiter_answer c.args.mutex c.args.place) c.self.view_is)
