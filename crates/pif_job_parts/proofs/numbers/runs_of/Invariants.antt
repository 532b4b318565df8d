use Rattle.std.proofs.Common.{◌≡◌, ◌++◌, take}
use Rattle.pif_job_parts.specs.Indexes.{numbers_from, numbers_of}
use Rattle.pif_job_parts.proofs.numbers.runs_of.Given as goal

-- the numbers so far are those of the runs, and of the run that may go on
abbrev pub invariant-loop-number : goal.invariant-loop-number
invariant-loop-number l =
    numbers_of l.runs.items ++ numbers_from l.run.number l.run.count ≡ take l.number-index l.numbers
