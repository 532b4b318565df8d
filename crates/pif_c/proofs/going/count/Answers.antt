-- Memory or numbers gave out.
use Rattle.std.proofs.Common.{refl}
use Rattle.pif_search.specs.declared.machine.Stop.TheVariants.{Many}
use Rattle.pif_c_numbers.specs.Codes as pif
use Rattle.pif_c.proofs.MachineSteps.{counts_given_up}
use Rattle.pif_c.proofs.going.count.Goals as goal

pub returns-in-Err-try_from : goal.returns-in-Err-try_from
returns-in-Err-try_from c = counts_given_up c.args.ask.now c.args.machine.now Many _ pif.too_many c.refused.ensures refl

pub returns-in-Err : goal.returns-in-Err
returns-in-Err c =
    counts_given_up c.args.ask.now c.args.machine.now c.in-Err.stop _ c.stop_number.result c.refused-in-Err.ensures
    c.stop_number.ensures
