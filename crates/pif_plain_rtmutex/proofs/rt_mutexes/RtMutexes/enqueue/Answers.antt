use Rattle.pif_kernel_model.proofs.OwnersLemmas.{sound-queued}
use Rattle.pif_plain_rtmutex.proofs.rt_mutexes.RtMutexes.enqueue.Goals as goal

pub set_wait-requires : goal.set_wait-requires
set_wait-requires c = λ one s. sound-queued c.args.t _ c.args.self.now c.requires.state c.requires.no_cycle c.get.ensures.low c.get.ensures.high one s
