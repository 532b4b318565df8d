-- Of the threads so far, the first that stands behind t.
use Rattle.pif_plain_rtmutex.proofs.BehindLemmas.{IsFirstBehind}
use Rattle.pif_plain_rtmutex.proofs.rt_mutexes.RtMutexes.behind.Given as goal

abbrev pub invariant-loop-u : goal.invariant-loop-u
invariant-loop-u l = IsFirstBehind l.self l.t l.u l.first
