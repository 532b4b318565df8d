-- Living threads have an effective priority, that of the subject.
use Rattle.std.proofs.Common.{◌∙◌, ap}
use Rattle.pif_model.specs.PiKernel.{effective_in}
use Rattle.pif_model.specs.Calls.{effective_answer}
use Rattle.pif_core.proofs.StandsAfter.{effective_answered, living_is_some}
use Rattle.pif_core.proofs.cores.Core.effective.Goals as goal

pub returns-clause-added : goal.returns-clause-added
returns-clause-added c = λ h r w st.
    living_is_some c.args.self.now (effective_in c.args.self.now.kernel c.args.thread)
    c.effective.result h r w st c.args.thread
    (c.effective.ensures ∙ ap (effective_answer c.args.thread) c.self.view_is)

pub returns-clause-priority : goal.returns-clause-priority
returns-clause-priority c = λ h r w st.
    effective_answered c.args.self.now c.args.thread c.effective.result h r w st
    (c.effective.ensures ∙ ap (effective_answer c.args.thread) c.self.view_is)
