-- There is no result yet, or no such thread.
use Rattle.std.proofs.Common.{sym, ◌∙◌}
use Rattle.pif_c.proofs.MachineSteps.{no_result_yet, nobody_asks}
use Rattle.pif_c.proofs.machine_readers.answer.Goals as goal

pub returns-in-None : goal.returns-in-None
returns-in-None c =
    no_result_yet c.args.thread c.args.machine.now _ (sym c.result_in.ensures ∙ c.in-None.is) c.refused-in-None.ensures

pub returns-in-None-new : goal.returns-in-None-new
returns-in-None-new c = nobody_asks c.args.thread c.args.machine.now _ c.in-None-new.ensures.valid.1 c.refused.ensures
