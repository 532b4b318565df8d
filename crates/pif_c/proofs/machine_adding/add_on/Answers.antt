-- A handle that holds no machine.
use Rattle.pif_c.specs.MachineHandles.{running}
use Rattle.pif_c.proofs.MachineSteps.{adds_on_none}
use Rattle.pif_c.proofs.machine_adding.add_on.Goals as goal

pub returns-in-None : goal.returns-in-None
returns-in-None c =
    adds_on_none c.args.why _ (running c.args.handle.now) _ _ c.in-None.ensures.machine c.in-None.ensures.empty c.refused.ensures
