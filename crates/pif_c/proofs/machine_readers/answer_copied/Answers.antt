-- It is answered, or memory or numbers gave out.
use Rattle.std.proofs.Common.{Some, ap, sym, ◌∙◌}
use Rattle.pif_c.specs.Running.{Running}
use Rattle.pif_c.proofs.MachineSteps.{answered_at, answers_given_up}
use Rattle.pif_c.proofs.machine_readers.answer_copied.Goals as goal

pub returns-in-Ok-Some : goal.returns-in-Ok-Some
returns-in-Ok-Some c =
    let fields : Running = record { wide = c.machine.inside.kept; rules = c.machine.inside.rules; limits = c.machine.inside.limits } in
    λ has. answered_at c.args.thread c.args.answer c.args.machine.now fields c.set.new.self c.machine.view_is has
    (ap Some c.set.ensures ∙ sym c.in-Ok-Some.field-0-is ∙ c.in-Ok-Some.ensures)

pub returns-in-Err : goal.returns-in-Err
returns-in-Err c =
    λ has. answers_given_up c.args.thread c.args.machine.now c.in-Err.stop _ c.stop_number.result c.refused-in-Err.ensures
    c.stop_number.ensures
