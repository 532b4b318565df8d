use Rattle.std.proofs.Common.{◌∙◌, List, ◌++◌, ap, refl, sym}
use Rattle.std.proofs.lemmas.Option.{slice_get_read}
use Rattle.std.proofs.lemmas.Result.{on_ok_weaker}
use Rattle.pif_explore_page.specs.Steps.{Step, step_to, steps_told}
use Rattle.pif_explore_page.proofs.StepLemmas.{no_first, no_node, no_way, not_added, step_is}
use Rattle.pif_explore_page.proofs.schedules.add_step_to.Goals as goal

pub returns-then-at-nodes : goal.returns-then-at-nodes
returns-then-at-nodes c =
    λ done is. not_added c.args.plan.now done (step_to c.args.nodes.now c.args.at) _ (no_node c.args.nodes.now c.args.at c.if-at-nodes.true) is

pub returns-in_default : goal.returns-in_default
returns-in_default c =
    λ done is. not_added c.args.plan.now done (step_to c.args.nodes.now c.args.at) _
    (no_way c.args.nodes.now c.args.at c.index-nodes-at.result (slice_get_read _ _ _ _ refl c.if-at-nodes.false c.index-nodes-at.is) c.in_default.is)
    is

pub returns-then-way-nodes : goal.returns-then-way-nodes
returns-then-way-nodes c =
    λ done is. not_added c.args.plan.now done (step_to c.args.nodes.now c.args.at) _
    (no_first c.args.nodes.now c.args.at c.index-nodes-at.result c.in-Some.way
    (slice_get_read _ _ _ _ refl c.if-at-nodes.false c.index-nodes-at.is) c.in-Some.is c.if-way-nodes.true)
    is

pub returns : goal.returns
returns c =
    let nodes = c.args.nodes.now in
    on_ok_weaker c.add_step.result
    (λ more done is. more done is
    ∙ ap (λ (xs : List Step). steps_told c.args.plan.now (done ++ xs))
    (sym (step_is nodes c.args.at c.index-nodes-at.result c.in-Some.way c.index-nodes-way.result
    (slice_get_read _ _ _ _ refl c.if-at-nodes.false c.index-nodes-at.is) c.in-Some.is
    (slice_get_read _ _ _ _ refl c.if-way-nodes.false c.index-nodes-way.is))))
    c.add_step.ensures
