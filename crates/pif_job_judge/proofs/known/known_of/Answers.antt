use Rattle.std.proofs.Common.{List, Some, take, ap}
use Rattle.pif_history_model.specs.declared.lines.Line.{Line}
use Rattle.pif_job_judge.proofs.JudgingLemmas.{refused_there}
use Rattle.pif_job_judge.proofs.known.known_of.Goals as goal

pub returns-in-Some : goal.returns-in-Some
returns-in-Some g c =
    refused_there _ _ _ _ c.args.line.now _ (Some c.in-Some.why) c.limits.ensures
    (ap (λ (ls : List Line). take c.args.before ls) c.as_slice.ensures.value) c.in-Some.is c.in_ok-why.ensures
