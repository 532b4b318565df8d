-- The open call is the thread's.
use Rattle.pif_core.proofs.Looks.{open_answered}
use Rattle.pif_core.proofs.cores.Core.open_call.Goals as goal

pub returns-clause-open : goal.returns-clause-open
returns-clause-open c = λ h r w st.
    open_answered c.args.self.now h r w st c.args.thread c.asked.result c.asked.ensures
