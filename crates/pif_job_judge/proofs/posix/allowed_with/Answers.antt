use Rattle.std.proofs.Common.{◌∙◌, List, ap, subst, sym}
use Rattle.pif_rules_model.specs.declared.rules.Rules.{Rules}
use Rattle.pif_rules.specs.Sets.{both}
use Rattle.pif_history_model.specs.declared.labels.Label.{Label}
use Rattle.pif_history_model.specs.Verdicts.{IsLegal}
use Rattle.pif_job_judge.specs.declared.search.Needed.{Needed}
use Rattle.pif_job_judge.specs.declared.search.Needed.TheVariants.{Legal}
use Rattle.pif_job_judge.specs.LeastRules.{IsLeast}
use Rattle.pif_job_judge.proofs.posix.allowed_with.Goals as goal

pub returns-in-Legal : goal.returns-in-Legal
returns-in-Legal g c =
    subst (λ (a : Rules). IsLeast c.args.base.now a c.args.limits c.args.lines.now (Legal c.in-Legal.found)) c.posix_rules-posix.ensures
    (subst (λ (found : Needed). IsLeast c.args.base.now c.posix_rules-posix.result c.args.limits c.args.lines.now found) c.in-Legal.is
    c.in_ok-found.ensures)

pub least-requires : goal.least-requires
least-requires g c =
    let all = c.requires.all ∙ ap (λ (p : Rules). both p c.args.base.now) (sym c.posix_rules-posix.ensures) in
    subst (λ (ls : List Label). IsLegal (both c.posix_rules-posix.result c.args.base.now) c.args.limits c.args.lines.now ls)
    (sym c.as_slice.ensures.value)
    (subst (λ (r : Rules). IsLegal r c.args.limits c.args.lines.now c.args.labels.items) all c.requires.legal)
