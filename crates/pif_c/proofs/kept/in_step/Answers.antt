-- The owners are the same, whichever state they are taken from.
use Rattle.std.proofs.Common.{◌∙◌, sym}
use Rattle.pif_c.proofs.InPlace.{in_step}
use Rattle.pif_c.proofs.kept.in_step.Goals as goal

pub returns-then-are_owned_alike : goal.returns-then-are_owned_alike
returns-then-are_owned_alike c =
    λ h. in_step c.args.thread c.args.hidden.now c.args.before c.args.state.now c.moved_unseen.result
    (sym c.are_owned_alike.ensures ∙ c.if-are_owned_alike.true) h c.moved_unseen.ensures
