use Rattle.std.proofs.Common.{subst}
use Rattle.pif_rules_model.specs.declared.rules.Rules.{Rules}
use Rattle.pif_history_model.specs.Verdicts.{IsIllegal}
use Rattle.pif_job_judge.proofs.posix.forbidden_with.Goals as goal

pub returns-in-None : goal.returns-in-None
returns-in-None g c = (
  c.requires.within.0,
  c.requires.within.1,
  subst (λ (r : Rules). IsIllegal r c.args.limits c.args.lines.now c.args.count) c.requires.all c.requires.illegal,
)
