use Rattle.std.proofs.Common.{◌≡◌, ◌++◌, take}
use Rattle.std.specs.Prelude.{flat_map}
use Rattle.pif_job_explore.specs.Lines.{claim_told}
use Rattle.pif_job_explore.proofs.telling.push_claims.Given as goal

abbrev pub invariant-loop-mark : goal.invariant-loop-mark
invariant-loop-mark l = l.out.items ≡ l.initial.out.items ++ flat_map claim_told (take l.mark-index l.marks)
