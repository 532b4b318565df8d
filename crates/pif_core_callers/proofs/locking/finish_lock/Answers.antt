-- Who has locked holds.
use Rattle.std.proofs.Common.{ap, ◌∙◌}
use Rattle.pif_core_callers.specs.Holding.{locked_by}
use Rattle.pif_core_callers.proofs.HoldLemmas.{finish_holds}
use Rattle.pif_core_callers.proofs.locking.finish_lock.Goals as goal

pub returns-clause-holds : goal.returns-clause-holds
returns-clause-holds c =
    finish_holds c.args.core.now c.finish.new.self c.args.thread c.args.mutex c.locked_by.result
    (c.locked_by.ensures ∙ ap locked_by c.finish.ensures.seen) c.finish.ensures.after
