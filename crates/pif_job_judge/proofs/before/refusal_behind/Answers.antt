use Rattle.std.proofs.Common.{reverse, sym, ◌∙◌}
use Rattle.pif_job_judge.proofs.BeforeLemmas.{none_refused}
use Rattle.pif_job_judge.proofs.before.refusal_behind.Goals as goal

pub returns-then-may_come : goal.returns-then-may_come
returns-then-may_come c =
    λ come counted.
    none_refused c.args.limits (reverse c.args.before.now) c.args.threads.now c.args.counts.now c.args.line.now come counted
    (sym c.may_come.ensures ∙ c.if-may_come.true)
