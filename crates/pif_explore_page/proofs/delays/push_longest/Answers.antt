use Rattle.std.proofs.Common.{◌∙◌, List, ◌++◌, ap}
use Rattle.std.proofs.lemmas.Result.{on_ok_weaker}
use Rattle.pif_explore.specs.declared.legs.Leg.{Leg}
use Rattle.pif_explore_page.specs.Steps.{leg_steps, steps_to, steps_told}
use Rattle.pif_explore_page.proofs.Pieces.{longest_grown}
use Rattle.pif_explore_page.proofs.delays.push_longest.Goals as goal

pub returns : goal.returns
returns c =
    let p = c.args.plan.now in
    let nodes = c.args.nodes.now in
    let stretch = c.args.stretch.now in
    let before = steps_to nodes stretch.place in
    on_ok_weaker c.push_scheduled.result
    (longest_grown stretch.count c.as_slice-2.result.now (steps_told p (before ++ leg_steps nodes stretch.legs.items))
    c.args.out.now.items _ c.push_scheduled.new.out.items
    (c.as_slice-2.ensures.value ∙ c.in_ok-push_legs.ensures before c.in_ok-steps.ensures
    ∙ ap (λ (gs : List Leg). steps_told p (before ++ leg_steps nodes gs)) c.as_slice.ensures.value)
    c.in_ok-push_numbers.ensures)
    c.push_scheduled.ensures
