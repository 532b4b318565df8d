-- Threads that were added do what their status says.
use Rattle.pif_model.specs.Table.{status_at}
use Rattle.pif_core.proofs.StandsAfter.{thread_is_some}
use Rattle.pif_core.proofs.Looks.{status_answered}
use Rattle.pif_core.proofs.cores.Core.status.Goals as goal

pub returns-clause-added : goal.returns-clause-added
returns-clause-added c = λ h r w st.
    thread_is_some c.args.self.now (status_at c.args.self.now c.args.thread) c.doing.result h r w st c.args.thread
    c.doing.ensures

pub returns-clause-doing : goal.returns-clause-doing
returns-clause-doing c = λ h r w st.
    status_answered c.args.self.now h r w st c.args.thread c.doing.result c.doing.ensures
