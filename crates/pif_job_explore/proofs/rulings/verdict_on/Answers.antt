use Rattle.std.proofs.Common.{◌≡◌, IfOk, subst, sym, true}
use Rattle.pif_explore_model.specs.declared.conditions.Assertion.{Assertion}
use Rattle.pif_explore_model.specs.Situations.{Situation}
use Rattle.pif_explore.specs.Finding.{IsEnoughOf}
use Rattle.pif_job_explore.specs.Exploring.{IsFoundOf}
use Rattle.pif_job_explore.proofs.rulings.verdict_on.Goals as goal

pub returns-in-Of : goal.returns-in-Of
returns-in-Of c =
    subst (λ (a : Assertion). IfOk c.verdict_of.result (λ v. (start : Situation)
    → (c.args.explored.now.is_whole ≡ true → IsEnoughOf c.args.plan.now start c.args.explored.now.nodes.items a)
    → IsFoundOf c.args.plan.now start c.args.explored.now.nodes.items a v))
    (sym c.in-Of.is) c.verdict_of.ensures
