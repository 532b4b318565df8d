use Rattle.std.proofs.Common.{◌∙◌, sym}
use Rattle.std.proofs.lemmas.Result.{IfOk-weaker}
use Rattle.pif_history.proofs.Playing.{enters_from}
use Rattle.pif_history.proofs.stepping.come_on.Goals as goal

pub returns : goal.returns
returns c =
    IfOk-weaker c.come.result _ _
    (λ b came h r. enters_from r c.args.limits.now c.args.wide.now _ c.args.entry.now c.come.new.self c.wide.view_is c.requires (sym c.has_all_again.ensures ∙ c.if-not-has_all_again.false) (came h))
    c.come.ensures.value
