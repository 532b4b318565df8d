use Rattle.std.proofs.Common.{IfSome, Option, refl, subst}
use Rattle.pif_rules_model.specs.declared.rules.Rules.{Rules}
use Rattle.pif_history_machine.specs.declared.verdicts.Verdict.{Verdict}
use Rattle.pif_history_machine.specs.Verdicts.{IsVerdictOf}
use Rattle.pif_job_judge.specs.LeastRules.{IsBoundAnew}
use Rattle.pif_job_judge.proofs.search.bounded.Goals as goal

pub returns-in_default-clause-enough : goal.returns-in_default-clause-enough
returns-in_default-clause-enough g c = ((c.args.labels.items, c.requires), refl, c.requires)

pub returns-in-Legal-clause-enough : goal.returns-in-Legal-clause-enough
returns-in-Legal-clause-enough g c = (
  (c.args.labels.items, c.requires),
  subst (λ (o : Option Rules). IfSome o (IsBoundAnew c.args.set.now)) c.in-Some.is c.in_ok-rules.ensures,
  subst (λ (v : Verdict). IsVerdictOf c.in-Some.rules c.args.limits c.args.lines.now v) c.in-Legal.is c.in_ok-witness.ensures,
)

pub returns-in-Illegal-clause-enough : goal.returns-in-Illegal-clause-enough
returns-in-Illegal-clause-enough g c = ((c.args.labels.items, c.requires), refl, c.requires)

pub returns-in-Undecided-clause-enough : goal.returns-in-Undecided-clause-enough
returns-in-Undecided-clause-enough g c = ((c.args.labels.items, c.requires), refl, c.requires)
