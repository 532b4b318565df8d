-- Who has locked holds.
use Rattle.std.proofs.Common.{ap, ◌∙◌}
use Rattle.pif_core_callers.specs.Holding.{locked_by}
use Rattle.pif_core_callers.proofs.HoldLemmas.{lock_holds}
use Rattle.pif_core_callers.proofs.locking.lock_and_hold.Goals as goal

pub returns-clause-holds : goal.returns-clause-holds
returns-clause-holds c =
    lock_holds c.args.core.now c.call.new.self c.args.thread c.args.mutex c.locked_by.result
    (c.locked_by.ensures ∙ ap locked_by c.call.ensures.seen) c.call.ensures.after
