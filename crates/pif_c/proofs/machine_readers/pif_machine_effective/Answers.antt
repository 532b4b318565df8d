-- A handle that holds no machine.
use Rattle.pif_c.specs.MachineHandles.{running}
use Rattle.pif_c.proofs.MachineSteps.{effective_on_none}
use Rattle.pif_c.proofs.machine_readers.pif_machine_effective.Goals as goal

pub returns-in-None-clause-answer : goal.returns-in-None-clause-answer
returns-in-None-clause-answer c =
    effective_on_none c.args.thread (running c.args.handle.now) _ c.in-None.ensures.machine c.refused.ensures
