-- A machine was made, or the heap refused a request.
use Rattle.pif_c.specs.MachineHandles.{running}
use Rattle.pif_c.proofs.MachineSteps.{begun_on, none_left_on}
use Rattle.pif_c.proofs.machine_exports.make.Goals as goal

pub returns-in-Some : goal.returns-in-Some
returns-in-Some c =
    begun_on c.args.limits (running c.args.handle.now) (running c.put.new.self) c.in-Some.machine.value c.requires c.put.ensures
    c.in-Some.ensures

pub returns-in-None : goal.returns-in-None
returns-in-None c = none_left_on c.args.limits (running c.args.handle.now) c.requires
