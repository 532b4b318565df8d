-- A living thread with a call open rests if it may not run.
use Rattle.pif_core.proofs.StandsAfter.{waiting_answered, waiting_is_some}
use Rattle.pif_core.proofs.cores.Core.waiting.Goals as goal

pub returns-clause-open : goal.returns-clause-open
returns-clause-open c = λ h r w st.
    waiting_is_some c.args.self.now c.args.thread c.resting.result h r w st c.resting.ensures

pub returns-clause-rests : goal.returns-clause-rests
returns-clause-rests c = λ h r w st.
    waiting_answered c.args.self.now c.args.thread c.resting.result h r w st c.resting.ensures
