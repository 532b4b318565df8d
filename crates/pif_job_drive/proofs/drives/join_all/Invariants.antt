use Rattle.std.proofs.Common.{◌≡◌, length}
use Rattle.pif_job_drive.proofs.drives.join_all.Given as goal

abbrev pub invariant-loop-thread : goal.invariant-loop-thread
invariant-loop-thread g l = length l.endings.items ≡ length l.yielded
