use Rattle.std.proofs.Common.{◌≡◌, drop}
use Rattle.pif_job_explore.specs.Exploring.{first_broken}
use Rattle.pif_job_explore.proofs.rulings.first_broken.Given as goal

abbrev pub invariant-loop-ruling : goal.invariant-loop-ruling
invariant-loop-ruling l = first_broken l.rulings ≡ first_broken (drop l.ruling-index l.rulings)
