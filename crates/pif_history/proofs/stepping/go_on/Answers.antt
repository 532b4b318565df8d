use Rattle.std.proofs.lemmas.Result.{IfOk-weaker}
use Rattle.pif_history.proofs.Playing.{moves_from}
use Rattle.pif_history.proofs.stepping.go_on.Goals as goal

pub returns : goal.returns
returns c =
    IfOk-weaker c.go.result _ _
    (λ b went h r. moves_from r c.args.wide.now _ c.args.thread c.go.new.self c.wide.view_is
    (c.inherits.ensures.0 c.if-not-inherits.false) (rw c.get.ensures.value at went h)) c.go.ensures.sound
