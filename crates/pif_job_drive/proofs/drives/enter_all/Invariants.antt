use Rattle.std.proofs.Common.{◌≡◌, length}
use Rattle.pif_job_drive.proofs.drives.enter_all.Given as goal

abbrev pub invariant-loop-index : goal.invariant-loop-index
invariant-loop-index g l = length l.clients.items ≡ l.index
