use Rattle.std.proofs.Common.{All, take}
use Rattle.pif_job_judge.specs.LeastRules.{IsIllegalSomewhere}
use Rattle.pif_job_judge.proofs.search.first_in.Given as goal

abbrev pub invariant-loop-place : goal.invariant-loop-place
invariant-loop-place g l = All (IsIllegalSomewhere l.limits l.lines) (take l.place l.sets.items)
