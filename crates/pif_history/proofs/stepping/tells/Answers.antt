use Rattle.std.proofs.Common.{◌∙◌, sym}
use Rattle.std.proofs.lemmas.Result.{IfOk-weaker}
use Rattle.pif_history.proofs.Playing.{tells}
use Rattle.pif_history.proofs.stepping.tells.Goals as goal

pub returns : goal.returns
returns c =
    IfOk-weaker c.is_seen.result _ _
    (λ b told h r.
    tells r c.args.limits.now c.args.line.now c.args.position.now c.requires.comes c.requires.among c.requires.kept
    (sym (rw c.wide.ensures at told) ∙ h)) c.is_seen.ensures
