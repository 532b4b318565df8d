use Rattle.std.proofs.lemmas.Result.{on_ok_weaker}
use Rattle.pif_explore_told.proofs.TellingLemmas.{stuck_more}
use Rattle.pif_explore_told.proofs.dangers.push_stuck_thread.Goals as goal

pub returns : goal.returns
returns c =
    on_ok_weaker c.push_way.result
    (stuck_more c.args.plan.now c.args.nodes.now c.args.stuck.now c.args.out.now.items _ _ _ _ c.in_ok-push_numbers.ensures
    c.in_ok-push_why.ensures c.in_ok-push_all.ensures)
    c.push_way.ensures
