use Rattle.pif_history_told.proofs.StepLemmas.{steps_complete, steps_sound}
use Rattle.pif_history_told.proofs.leading.steps.Goals as goal

pub returns-clause-sound : goal.returns-clause-sound
returns-clause-sound c =
    rw c.in_ok-found.ensures (steps_sound c.args.rules.now c.args.limits c.args.from.now c.args.label.now)

pub returns-clause-complete : goal.returns-clause-complete
returns-clause-complete c =
    λ n a. rw c.in_ok-found.ensures (steps_complete c.args.rules.now c.args.limits c.args.from.now n c.args.label.now a)
