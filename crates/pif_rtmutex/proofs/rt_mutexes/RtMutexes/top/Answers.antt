use Rattle.pif_rtmutex.proofs.ReadLemmas.{first-none, first-some, first-owned}
use Rattle.pif_rtmutex.proofs.rt_mutexes.RtMutexes.top.Goals as goal

pub returns-clause-none : goal.returns-clause-none
returns-clause-none c =
    first-none c.first.result c.args.self.now c.args.table.now c.args.key c.requires.waiters c.first.ensures

pub returns-clause-top : goal.returns-clause-top
returns-clause-top c =
    first-some c.first.result c.args.self.now c.args.table.now c.args.key c.requires.waiters c.first.ensures

pub returns-clause-state : goal.returns-clause-state
returns-clause-state c =
    first-owned c.first.result c.args.self.now c.args.table.now c.args.key c.requires.waiters c.first.ensures
