use Rattle.std.proofs.Common.{◌≡◌, ℕ, length}
use Rattle.std.specs.List.{All}
use Rattle.pif_job_drive.specs.Driving.{IsServed}
use Rattle.pif_job_drive.proofs.drives.gather.Given as goal

abbrev pub invariant-loop-ending : goal.invariant-loop-ending
invariant-loop-ending l = record {
  len : length l.clients.items ≡ length l.yielded;
  served : All (λ c. (m : ℕ) × IsServed m c.log) l.clients.items;
}
