use Rattle.std.proofs.Common.{◌≡◌, ◌++◌, take}
use Rattle.std.specs.Prelude.{flat_map}
use Rattle.pif_job_explore.specs.Lines.{outcome_told}
use Rattle.pif_job_explore.proofs.telling.push_outcomes.Given as goal

abbrev pub invariant-loop-mark : goal.invariant-loop-mark
invariant-loop-mark l = l.out.items ≡ l.initial.out.items ++ flat_map outcome_told (take l.mark-index l.marks)
