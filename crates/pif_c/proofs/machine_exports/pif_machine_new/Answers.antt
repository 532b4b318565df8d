-- The handle holds a machine already.
use Rattle.std.proofs.Common.{sym, ◌∙◌}
use Rattle.pif_c.specs.MachineHandles.{running}
use Rattle.pif_c.proofs.MachineSteps.{there_on}
use Rattle.pif_c.proofs.machine_exports.pif_machine_new.Goals as goal

pub returns-then-is_full : goal.returns-then-is_full
returns-then-is_full c = there_on _ (running c.args.handle.now) (sym c.is_full.ensures ∙ c.if-is_full.true)
