-- Nothing is named.
use Rattle.pif_c.proofs.MachineSteps.{counts_unnamed}
use Rattle.pif_c.proofs.going.count_if.Goals as goal

pub returns-in-None : goal.returns-in-None
returns-in-None c = counts_unnamed _ c.args.machine.now _ (cc) c.refused.ensures
