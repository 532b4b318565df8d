use Rattle.std.proofs.Common.{List, reverse, subst, sym, arith}
use Rattle.std.proofs.lemmas.List.{take_all}
use Rattle.pif_history_model.specs.declared.lines.Line.{Line}
use Rattle.pif_history_model.proofs.Judging.{labels_of}
use Rattle.pif_history.specs.Played.{IsPlayed}
use Rattle.pif_history.proofs.Playing.{one_line_more}
use Rattle.pif_history.proofs.player.Player.reach_all.Goals as goal

pub loop-place-preserved : goal.loop-place-preserved
loop-place-preserved g c =
    one_line_more c.args.machine.now.rules c.args.machine.now.limits c.args.lines.now c.loop-place.place c.index-lines-place.result c.loop-place.self c.reach.new.self
    (omega (arith, c.loop-place-test.true)) (sym c.index-lines-place.is) (c.in_ok-reach.ensures c.if-not-branch.false) c.loop-place.invariant

pub returns : goal.returns
returns g c = λ _.
    subst (λ (ls : List Line). IsPlayed c.args.machine.now.rules c.args.machine.now.limits (labels_of (reverse ls)) c.loop-place.self)
    (take_all c.loop-place.place c.args.lines.now (omega (arith, c.loop-place-test.false))) c.loop-place.invariant
