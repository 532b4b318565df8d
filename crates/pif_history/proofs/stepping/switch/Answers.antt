use Rattle.std.proofs.Common.{◌≡◌, ◌<◌, Ok, length, arith}
use Rattle.pif_history_model.specs.Searched.{Configuration, Advances}
use Rattle.pif_history.proofs.Guided.{All-read}
use Rattle.pif_history.proofs.stepping.switch.Goals as goal

pub returns : goal.returns
returns c = λ h.
    let made : c.behind-found.result ≡ Ok c.in-Some.positions = rw c.in-Some.is at c.in_ok-positions.ensures in
    let lt : c.best_of-place.result < length c.in-Some.positions.items = omega (arith, c.if-place-len.false, c.len.ensures, c.in-Some.positions.ok.0) in
    All-read (λ (t : Configuration). Advances c.args.machine.now.rules c.args.machine.now.limits c.args.position.now c.args.label.now t)
    c.in-Some.positions.items c.best_of-place.result c.remove.result lt c.remove.ensures.value (rw made at c.behind-found.ensures.sound)
