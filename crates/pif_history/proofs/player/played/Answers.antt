use Rattle.pif_history.proofs.Playing.{legal_by_play}
use Rattle.pif_history.proofs.player.played.Goals as goal

pub reach_all-requires : goal.reach_all-requires
reach_all-requires g c = rw (c.new-machine.ensures.rules, c.new-machine.ensures.limits) (c.in_ok-player.ensures c.args.rules.now)

pub returns : goal.returns
returns g c =
    legal_by_play c.args.rules.now c.args.limits c.args.lines.now c.into_labels.result.items c.reach_all.new.self c.into_labels.ensures
    (rw (c.new-machine.ensures.rules, c.new-machine.ensures.limits) at (c.in_ok-reach_all.ensures c.if-not-branch.false))
