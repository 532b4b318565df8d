-- A handle that holds no machine.
use Rattle.pif_c.specs.MachineHandles.{running}
use Rattle.pif_c.proofs.MachineSteps.{counts_on_none}
use Rattle.pif_c.proofs.going.count_on.Goals as goal

pub returns-in-None-clause-answer : goal.returns-in-None-clause-answer
returns-in-None-clause-answer c =
    counts_on_none _ (running c.args.handle.now) _ c.in-None.ensures.machine c.refused.ensures
