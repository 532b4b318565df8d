use Rattle.std.proofs.Common.{◌∷◌, ◌++◌, ◌∙◌, [], List, ap, reverse, subst, true}
use Rattle.std.proofs.lemmas.List.{reverse-append}
use Rattle.pif_history_model.specs.declared.lines.Line.{Line}
use Rattle.pif_history_model.specs.declared.lines.Line.TheVariants.{Asks}
use Rattle.pif_history_model.specs.Verdicts.{IsShownBy}
use Rattle.pif_history_machine.specs.declared.verdicts.Verdict.{Verdict}
use Rattle.pif_history_machine.specs.Verdicts.{IsVerdictOf}
use Rattle.pif_job_judge.proofs.undefined.is_found.Goals as goal

pub returns-in-Legal : goal.returns-in-Legal
returns-in-Legal g c =
    λ yes.
    let r = record c.args.rules.now { extra_lines = true } in
    let legal = subst (λ (v : Verdict). IsVerdictOf r c.args.limits c.as_slice.result.now v) c.in-Legal.is c.in_ok-judge_lines.ensures in
    let all = c.as_slice.ensures.value ∙ c.in_ok-push.ensures ∙ ap (λ (ls : List Line). ls ++ Asks c.args.fact.now true ∷ []) c.in_ok-lines.ensures.items in
    subst (λ (ls : List Line). IsShownBy r c.args.limits ls)
    (ap (λ (ls : List Line). reverse ls) all ∙ reverse-append c.args.before.now (Asks c.args.fact.now true ∷ [])) legal.legal
