use Rattle.std.proofs.Common.{◌∙◌, ap}
use Rattle.pif_rules_model.specs.Undefined.{leaves_unlock_undefined}
use Rattle.pif_posix.proofs.state.State.is_unlock_undefined.Goals as goal

pub returns : goal.returns
returns c =
    c.is_not_owned_and.ensures leaves_unlock_undefined
    (c.leaves_unlock_undefined-undefined.ensures ∙ ap leaves_unlock_undefined c.kind_or_normal.ensures)
