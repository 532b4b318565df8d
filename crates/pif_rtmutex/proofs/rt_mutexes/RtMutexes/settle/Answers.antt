use Rattle.std.proofs.Common.{◌≡◌, ◌∙◌, sym, rules}
use Rattle.pif_rtmutex.proofs.rt_mutexes.RtMutexes.settle.Goals as goal

pub rerank-requires-clause-first : goal.rerank-requires-clause-first
rerank-requires-clause-first c =
    let same : c.first_in.result ≡ c.args.was = search rules in
    sym c.first_in.ensures ∙ same

pub retop-requires-clause-owner : goal.retop-requires-clause-owner
retop-requires-clause-owner c = c.requires.waiters.owned c.args.key c.args.state.owner c.requires.state.owner
