use Rattle.std.proofs.Common.{◌≡◌, length}
use Rattle.pif_job_drive.proofs.drives.fn.run_all.scope.Given as goal

abbrev pub invariant-loop-client : goal.invariant-loop-client
invariant-loop-client g l = length l.threads.items ≡ length l.yielded
