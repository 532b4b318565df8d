use Rattle.std.proofs.lemmas.Result.{on_ok_weaker}
use Rattle.pif_explore_page.proofs.Pieces.{misuse_grown}
use Rattle.pif_explore_page.proofs.faults.push_misuse.Goals as goal

pub returns : goal.returns
returns c =
    on_ok_weaker c.push_way_member.result
    (misuse_grown c.args.plan.now c.args.nodes.now c.args.misuse.now c.args.out.now.items _ _ _ c.push_way_member.new.out.items
    c.in_ok-push_numbers.ensures c.in_ok-push_request.ensures c.in_ok-push_all.ensures)
    c.push_way_member.ensures
