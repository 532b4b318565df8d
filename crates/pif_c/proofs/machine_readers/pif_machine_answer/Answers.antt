-- A handle that holds no machine.
use Rattle.pif_c.specs.MachineHandles.{running}
use Rattle.pif_c.proofs.MachineSteps.{answers_on_none}
use Rattle.pif_c.proofs.machine_readers.pif_machine_answer.Goals as goal

pub returns-in-None : goal.returns-in-None
returns-in-None c =
    answers_on_none c.args.thread (running c.args.handle.now) _ _ c.in-None.ensures.machine c.in-None.ensures.empty
    c.refused.ensures
