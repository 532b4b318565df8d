use Rattle.pif_rtmutex.proofs.BehindLemmas.{behind-none, behind-some}
use Rattle.pif_rtmutex.proofs.rt_mutexes.RtMutexes.behind.Goals as goal

pub returns-clause-last : goal.returns-clause-last
returns-clause-last c =
    behind-none c.next_to.result c.args.self.now c.args.table.now c.args.t c.requires.holds.waiters c.requires.queued
    c.next_to.ensures

pub returns-clause-behind : goal.returns-clause-behind
returns-clause-behind c =
    behind-some c.next_to.result c.args.self.now c.args.table.now c.args.t c.requires.holds.waiters c.requires.queued
    c.next_to.ensures
