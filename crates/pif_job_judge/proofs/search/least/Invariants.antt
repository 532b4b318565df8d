use Rattle.std.proofs.Common.{All}
use Rattle.pif_history_told.specs.Sets.{sets_below}
use Rattle.pif_job_judge.specs.LeastRules.{IsIllegalSomewhere}
use Rattle.pif_job_judge.proofs.search.least.Given as goal

abbrev pub invariant-loop-size : goal.invariant-loop-size
invariant-loop-size g l = All (IsIllegalSomewhere l.limits l.lines) (sets_below l.asked l.size l.base l.rules.items)
