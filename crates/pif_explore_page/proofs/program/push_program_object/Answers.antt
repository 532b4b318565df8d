use Rattle.std.proofs.Common.{◌++◌, ◌∙◌, ap}
use Rattle.std.proofs.lemmas.Result.{on_ok_weaker}
use Rattle.pif_explore_model.specs.Situations.{Plan}
use Rattle.pif_explore_page.specs.Objects.{limits_told}
use Rattle.pif_explore_page.proofs.Pieces.{program_grown}
use Rattle.pif_explore_page.proofs.program.push_program_object.Goals as goal

pub returns : goal.returns
returns c =
    on_ok_weaker c.push_all.result
    (program_grown c.args.program.now c.args.plan.now c.args.start.now c.args.out.now.items _ _ _ c.push_all.new.out.items
    c.in_ok-push_escaped_between.ensures
    (c.in_ok-push_limits.ensures ∙ ap (λ (p : Plan). c.push_escaped_between.new.out.items ++ limits_told p.limits) c.plan.view_is)
    c.in_ok-push_state.ensures)
    c.push_all.ensures
