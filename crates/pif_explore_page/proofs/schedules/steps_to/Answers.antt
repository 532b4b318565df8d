use Rattle.std.proofs.Common.{◌∙◌, [], ◌++◌}
use Rattle.pif_explore_page.specs.Steps.{step_to, steps_to}
use Rattle.pif_explore_page.proofs.StepLemmas.{none_told, step_passed, way_begins}
use Rattle.pif_explore_page.proofs.schedules.steps_to.Goals as goal

pub loop-at-init : goal.loop-at-init
loop-at-init c = (
  [],
  c.new-steps.ensures.items ∙ none_told c.args.plan.now,
  way_begins c.args.nodes.now c.args.place c.in_ok-back.back.items c.in_ok-back.ensures,
)

pub loop-at-preserved : goal.loop-at-preserved
loop-at-preserved c =
    let done = c.loop-at.invariant.0 in (
      done ++ step_to c.args.nodes.now c.in-Some.at,
      c.in_ok-add_step_to.ensures done c.loop-at.invariant.1,
      step_passed (step_to c.args.nodes.now) c.in-Some.at done (steps_to c.args.nodes.now c.args.place) _ _ c.in-Some.ensures.items
          c.loop-at.invariant.2,
    )
