-- Of the threads so far, the first that waits on this state.
use Rattle.pif_plain_rtmutex.proofs.TopLemmas.{IsFirst}
use Rattle.pif_plain_rtmutex.proofs.rt_mutexes.RtMutexes.top.Given as goal

abbrev pub invariant-loop-t : goal.invariant-loop-t
invariant-loop-t l = IsFirst l.self l.key l.t l.first
