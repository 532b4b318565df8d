use Rattle.std.proofs.Common.{List, ap, length, refl}
use Rattle.std.proofs.lemmas.Result.{on_ok_weaker}
use Rattle.pif_reach.specs.declared.system.Edge.{Edge}
use Rattle.pif_explore_model.specs.declared.labels.Label.{Label}
use Rattle.pif_explore_page.proofs.Pieces.{objects_grown}
use Rattle.pif_explore_page.proofs.objects.push_objects.Goals as goal

pub returns : goal.returns
returns c =
    on_ok_weaker c.push_counts_object.result
    (objects_grown c.args.program.now c.args.plan.now c.args.spans.now c.args.explored.now c.args.rulings.now c.args.delays.now c.args.faults.now
    c.as_slice-nodes.result.now c.as_slice-outcomes.result.now _ _ _ _ _ _ _ _ _ _ c.as_slice-nodes.ensures.value
    c.as_slice-outcomes.ensures.value refl refl (ap (λ (es : List (Edge Label)). length es) c.as_slice-edges.ensures.value)
    c.in_ok-push_program.ensures c.in_ok-push_ruling_objects.ensures c.in_ok-push_delay_objects.ensures c.in_ok-push_faults.ensures
    c.in_ok-push_outcome_objects.ensures)
    c.push_counts_object.ensures
