use Rattle.std.specs.Prelude.{slice_get}
use Rattle.std.proofs.Common.{◌∙◌, List, ◌++◌, ap, refl, sym}
use Rattle.std.proofs.lemmas.Option.{slice_get_past, slice_get_read}
use Rattle.std.proofs.lemmas.Result.{on_ok_weaker}
use Rattle.pif_explore_page.specs.Steps.{Step, leg_step, steps_told}
use Rattle.pif_explore_page.proofs.StepLemmas.{none_from, none_to, not_added, one_between}
use Rattle.pif_explore_page.proofs.schedules.add_leg.Goals.{then-leg-nodes-via-then-leg-nodes, then-leg-nodes-via-else-leg-nodes+then-leg-nodes-2}
use Rattle.pif_explore_page.proofs.schedules.add_leg.Goals as goal

pub returns-then-leg-nodes : goal.returns-then-leg-nodes
returns-then-leg-nodes c =
    let nodes = c.args.nodes.now in
    let leg = c.args.leg.now in
    λ done is. not_added c.args.plan.now done (leg_step nodes leg) _
    (elim c.then-leg-nodes.branch [
      | then-leg-nodes-via-then-leg-nodes w ↦
          none_from leg.label (slice_get nodes leg.from) (slice_get nodes leg.to) (slice_get_past nodes leg.from w.if-leg-nodes.true)
      | then-leg-nodes-via-else-leg-nodes+then-leg-nodes-2 w ↦
          none_to leg.label (slice_get nodes leg.from) (slice_get nodes leg.to) (slice_get_past nodes leg.to w.if-leg-nodes-2.true)
    ])
    is

pub returns : goal.returns
returns c =
    let nodes = c.args.nodes.now in
    let leg = c.args.leg.now in
    on_ok_weaker c.add_step.result
    (λ more done is. more done is
    ∙ ap (λ (xs : List Step). steps_told c.args.plan.now (done ++ xs))
    (sym (one_between leg.label (slice_get nodes leg.from) (slice_get nodes leg.to) c.index-nodes-leg.result c.index-nodes-leg-2.result
    (slice_get_read _ _ _ _ refl c.if-leg-nodes.false c.index-nodes-leg.is)
    (slice_get_read _ _ _ _ refl c.if-leg-nodes-2.false c.index-nodes-leg-2.is))))
    c.add_step.ensures
