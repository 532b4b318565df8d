use Rattle.std.proofs.Common.{◌≡◌, ◌++◌, take}
use Rattle.std.specs.List.{flat_map}
use Rattle.pif_job_parts.specs.Indexes.{run_row}
use Rattle.pif_job_parts.proofs.indexes.push_runs.Given as goal

abbrev pub invariant-loop-run : goal.invariant-loop-run
invariant-loop-run l = l.out.items ≡ l.initial.out.items ++ flat_map run_row (take l.run-index l.runs)
