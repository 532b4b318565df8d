use Rattle.std.proofs.Common.{◌∙◌, ap}
use Rattle.pif_types.specs.Bounds.{Bounds}
use Rattle.pif_model.specs.Posix.{empty_world}
use Rattle.pif_job_explore.proofs.ExploringLemmas.{all_built, built_more, none_built}
use Rattle.pif_job_explore.proofs.starts.built.Goals as goal

pub loop-addition-init : goal.loop-addition-init
loop-addition-init c =
    none_built c.args.limits.now c.args.additions.now _
    (c.in_ok-world.ensures ∙ ap (λ (b : Bounds). empty_world b.signals) c.limits.view_is)

pub loop-addition-preserved : goal.loop-addition-preserved
loop-addition-preserved c =
    built_more c.args.limits.now c.args.additions.now c.loop-addition.addition-index c.addition-item.result
    c.loop-addition.world c.in_ok-next.next c.loop-addition-test.true c.addition-item.is c.loop-addition.invariant
    c.in_ok-next.ensures

pub returns : goal.returns
returns c =
    all_built c.args.limits.now c.args.additions.now c.loop-addition.addition-index c.loop-addition.world
    c.loop-addition-test.false c.loop-addition.invariant
