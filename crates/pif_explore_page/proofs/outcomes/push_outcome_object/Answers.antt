use Rattle.std.proofs.Common.{List, ℕ, ◌∙◌, ap}
use Rattle.std.proofs.lemmas.Result.{on_ok_weaker}
use Rattle.pif_explore_page.specs.Texts.{without_end}
use Rattle.pif_explore_page.proofs.Pieces.{outcome_grown}
use Rattle.pif_explore_page.proofs.outcomes.push_outcome_object.Goals as goal

pub returns : goal.returns
returns c =
    on_ok_weaker c.push_way_member.result
    (outcome_grown c.args.plan.now c.args.spans.now c.args.nodes.now c.args.told.now c.without_end.result.now c.args.out.now.items _
    c.push_way_member.new.out.items
    (c.without_end.ensures ∙ ap (λ (l : List ℕ). without_end l) (c.as_slice.ensures.value ∙ c.in_ok-line.ensures))
    c.in_ok-push_between.ensures)
    c.push_way_member.ensures
