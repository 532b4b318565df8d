use Rattle.std.proofs.lemmas.Result.{on_ok_weaker}
use Rattle.pif_explore_page.proofs.Pieces.{ruling_grown}
use Rattle.pif_explore_page.proofs.claims.push_ruling_object.Goals as goal

pub returns : goal.returns
returns c =
    on_ok_weaker c.push_verdict.result
    (ruling_grown c.args.plan.now c.args.nodes.now c.args.ruling.now c.from-number.result c.as_slice.result.now c.args.out.now.items _ _
    c.push_verdict.new.out.items c.from-number.ensures c.as_slice.ensures.value c.in_ok-push_numbers.ensures c.in_ok-push_escaped_between.ensures)
    c.push_verdict.ensures
