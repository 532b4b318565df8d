use Rattle.std.proofs.Common.{◌∙◌, ap}
use Rattle.pif_rules_model.specs.Undefined.{leaves_wait_undefined}
use Rattle.pif_posix.proofs.state.State.is_wait_undefined.Goals as goal

pub returns : goal.returns
returns c =
    c.is_not_owned_and.ensures leaves_wait_undefined
    (c.leaves_wait_undefined-undefined.ensures ∙ ap leaves_wait_undefined c.kind_or_normal.ensures)
