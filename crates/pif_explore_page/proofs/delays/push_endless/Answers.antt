use Rattle.std.proofs.Common.{◌∙◌, List, [], ap}
use Rattle.std.proofs.lemmas.Result.{on_ok_weaker}
use Rattle.pif_explore.specs.declared.legs.Leg.{Leg}
use Rattle.pif_explore_page.specs.Objects.{way_member}
use Rattle.pif_explore_page.specs.Steps.{leg_steps, steps_told}
use Rattle.pif_explore_page.proofs.Pieces.{endless_grown}
use Rattle.pif_explore_page.proofs.StepLemmas.{none_told}
use Rattle.pif_explore_page.proofs.delays.push_endless.Goals as goal

pub returns : goal.returns
returns c =
    let p = c.args.plan.now in
    let nodes = c.args.nodes.now in
    on_ok_weaker c.push_way_member.result
    (endless_grown c.as_slice-2.result.now (steps_told p (leg_steps nodes c.args.stretch.now.legs.items)) (way_member p nodes c.args.stretch.now.place)
    c.args.out.now.items _ c.push_way_member.new.out.items
    (c.as_slice-2.ensures.value ∙ c.in_ok-push_legs.ensures [] (c.new-legs.ensures.items ∙ none_told p)
    ∙ ap (λ (gs : List Leg). steps_told p (leg_steps nodes gs)) c.as_slice.ensures.value)
    c.in_ok-push_between.ensures)
    c.push_way_member.ensures
