-- It goes to the state at the place, or memory or numbers gave out.
use Rattle.std.proofs.Common.{Some, ap, sym, ◌∙◌}
use Rattle.pif_c.specs.Running.{Running}
use Rattle.pif_c.proofs.MachineSteps.{happened_at, happens_given_up}
use Rattle.pif_c.proofs.going.happen_copied.Goals as goal

pub returns-in-Ok-Some : goal.returns-in-Ok-Some
returns-in-Ok-Some c =
    let fields : Running = record { wide = c.machine.inside.kept; rules = c.machine.inside.rules; limits = c.machine.inside.limits } in
    happened_at c.args.ask.now c.args.place c.args.machine.now fields c.set.new.self c.machine.view_is
    (ap Some c.set.ensures ∙ sym c.in-Ok-Some.field-0-is ∙ c.in-Ok-Some.ensures)

pub returns-in-Err : goal.returns-in-Err
returns-in-Err c = happens_given_up c.args.ask.now c.args.place c.args.machine.now c.in-Err.stop _ c.stop_number.ensures
