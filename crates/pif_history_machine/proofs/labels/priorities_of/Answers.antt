use Rattle.std.proofs.Common.{arith}
use Rattle.pif_history_model.proofs.Numbers.{priorities-next, no_priority}
use Rattle.pif_history_machine.proofs.labels.priorities_of.Goals as goal

pub loop-prio-init : goal.loop-prio-init
loop-prio-init c = no_priority _ _ c.new-labels.ensures.items

pub loop-prio-preserved : goal.loop-prio-preserved
loop-prio-preserved c = priorities-next _ c.loop-prio.prio _ _ (omega (arith, c.loop-prio.auto.prio)) c.loop-prio.invariant c.in_ok-push.ensures
