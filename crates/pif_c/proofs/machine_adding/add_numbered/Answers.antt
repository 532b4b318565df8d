-- It is added, or memory or numbers gave out.
use Rattle.std.proofs.Common.{Some, ap, sym, ◌∙◌}
use Rattle.pif_c.specs.Running.{Running}
use Rattle.pif_c.proofs.MachineSteps.{added_at, added_given_up}
use Rattle.pif_c.proofs.machine_adding.add_numbered.Goals as goal

pub returns-in-Ok-Some : goal.returns-in-Ok-Some
returns-in-Ok-Some c =
    let fields : Running = record { wide = c.machine.inside.kept; rules = c.machine.inside.rules; limits = c.machine.inside.limits } in
    added_at c.args.number c.args.ask.now c.args.machine.now fields c.set.new.self c.machine.view_is
    (ap Some c.set.ensures ∙ sym c.in-Ok-Some.field-0-is ∙ c.in-Ok-Some.ensures)

pub returns-in-Err : goal.returns-in-Err
returns-in-Err c =
    added_given_up c.args.number c.args.ask.now c.args.machine.now c.in-Err.stop _ c.stop_number.result
    c.refused-in-Err.ensures c.stop_number.ensures
