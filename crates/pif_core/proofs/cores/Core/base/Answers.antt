-- Living threads have a base priority.
use Rattle.std.proofs.Common.{◌∙◌, ap}
use Rattle.pif_model.specs.PiKernel.{seat_at}
use Rattle.pif_model.specs.Calls.{base_answer}
use Rattle.pif_core.proofs.StandsAfter.{living_is_some}
use Rattle.pif_core.proofs.Looks.{base_answered}
use Rattle.pif_core.proofs.cores.Core.base.Goals as goal

pub returns-clause-added : goal.returns-clause-added
returns-clause-added c = λ h r w st.
    living_is_some c.args.self.now (seat_at c.args.self.now.kernel c.args.thread).base
    c.base.result h r w st c.args.thread
    (c.base.ensures ∙ ap (base_answer c.args.thread) c.self.view_is)

pub returns-clause-base : goal.returns-clause-base
returns-clause-base c = λ h r w st.
    base_answered c.args.self.now h r w st c.args.thread c.base.result
    (c.base.ensures ∙ ap (base_answer c.args.thread) c.self.view_is)
