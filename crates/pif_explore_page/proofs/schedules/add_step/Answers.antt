use Rattle.std.proofs.lemmas.Result.{on_ok_weaker}
use Rattle.pif_explore_page.proofs.StepLemmas.{step_added}
use Rattle.pif_explore_page.proofs.schedules.add_step.Goals as goal

pub returns : goal.returns
returns c =
    on_ok_weaker c.push_step_object.result
    (λ more done is. step_added c.args.plan.now done (c.args.label.now, c.args.from.now, c.args.to.now) c.args.steps.now.items _
    c.push_step_object.new.out.items is c.in_ok-push_comma.ensures more)
    c.push_step_object.ensures
