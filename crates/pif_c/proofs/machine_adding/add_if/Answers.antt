-- Nothing is named.
use Rattle.pif_c.proofs.MachineSteps.{adds_unnamed}
use Rattle.pif_c.proofs.machine_adding.add_if.Goals as goal

pub returns-in-None : goal.returns-in-None
returns-in-None c = adds_unnamed c.args.why _ c.args.machine.now _ (cc) c.refused.ensures
