-- Nothing is named.
use Rattle.pif_c.proofs.MachineSteps.{happens_unnamed}
use Rattle.pif_c.proofs.going.happen_if.Goals as goal

pub returns-in-None : goal.returns-in-None
returns-in-None c = happens_unnamed _ c.args.place c.args.machine.now (cc)
