use Rattle.pif_rtmutex.proofs.ChangeLemmas.{waiters-stay}
use Rattle.pif_rtmutex.proofs.rt_mutexes.RtMutexes.retop.Goals as goal

pub first_in-first-requires-clause-holds : goal.first_in-first-requires-clause-holds
first_in-first-requires-clause-holds c =
    waiters-stay c.args.self.now c.args.table.now c.take_top.new.table c.requires.waiters c.take_top.ensures.changes

pub put_top-requires-clause-waiters : goal.put_top-requires-clause-waiters
put_top-requires-clause-waiters c =
    waiters-stay c.args.self.now c.args.table.now c.take_top.new.table c.requires.waiters c.take_top.ensures.changes

pub put_top-requires-clause-but : goal.put_top-requires-clause-but
put_top-requires-clause-but c = c.take_top.ensures.but c.args.to
