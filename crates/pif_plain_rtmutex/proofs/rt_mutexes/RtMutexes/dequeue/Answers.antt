use Rattle.pif_kernel_model.proofs.OwnersLemmas.{sound-free}
use Rattle.pif_plain_rtmutex.proofs.rt_mutexes.RtMutexes.dequeue.Goals as goal

pub set_wait-requires : goal.set_wait-requires
set_wait-requires c = λ one s. sound-free c.args.t c.args.self.now one s
