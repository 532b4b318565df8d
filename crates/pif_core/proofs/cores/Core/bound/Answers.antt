-- Condition variables that were added are bound to a mutex.
use Rattle.std.proofs.Common.{◌∙◌, ap}
use Rattle.pif_model.specs.Table.{bound_to}
use Rattle.pif_model.specs.Calls.{bound_answer}
use Rattle.pif_core.proofs.StandsAfter.{variable_is_some}
use Rattle.pif_core.proofs.Looks.{bound_answered}
use Rattle.pif_core.proofs.cores.Core.bound.Goals as goal

pub returns-clause-added : goal.returns-clause-added
returns-clause-added c = λ h r w st.
    variable_is_some c.args.self.now (bound_to c.args.self.now c.args.cond) c.bound.result h r w st c.args.cond
    (c.bound.ensures ∙ ap (bound_answer c.args.cond) c.self.view_is)

pub returns-clause-bound : goal.returns-clause-bound
returns-clause-bound c = λ h r w st.
    bound_answered c.args.self.now h r w st c.args.cond c.bound.result
    (c.bound.ensures ∙ ap (bound_answer c.args.cond) c.self.view_is)
