use Rattle.std.proofs.Common.{arith}
use Rattle.pif_history_model.proofs.Numbers.{numbers_in-next}
use Rattle.pif_history_machine.proofs.labels.numbers_of.Goals as goal

pub loop-label-preserved : goal.loop-label-preserved
loop-label-preserved c =
    numbers_in-next c.args.labels.now c.loop-label.label-index c.label-item.result _ _ _ (omega arith) c.loop-label.invariant c.label-item.is c.number_of.ensures c.in_ok-push_if.ensures
