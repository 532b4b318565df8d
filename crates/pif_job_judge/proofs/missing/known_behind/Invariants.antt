use Rattle.std.proofs.Common.{◌≡◌, drop}
use Rattle.pif_job_judge.specs.Missing.{known_behind, known_from}
use Rattle.pif_job_judge.proofs.missing.known_behind.Given as goal

abbrev pub invariant-loop-line : goal.invariant-loop-line
invariant-loop-line l = known_behind l.lines ≡ known_from l.known (drop l.line-index l.lines)
