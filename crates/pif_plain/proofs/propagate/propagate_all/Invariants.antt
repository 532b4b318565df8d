-- The greatest base priority of the threads so far that reach each.
use Rattle.std.proofs.Common.{◌≡◌, ◌<◌, ◌+◌, ℕ, length}
use Rattle.pif_kernel_model.specs.Owners.{waits_for}
use Rattle.pif_kernel_model.specs.Boosts.{base_of, priority_at}
use Rattle.pif_plain.proofs.Propagation.{handed_by}
use Rattle.pif_plain.proofs.propagate.propagate_all.Given as goal

abbrev pub invariant-loop-place : goal.invariant-loop-place
invariant-loop-place l = (u : ℕ) → u < length l.owners.seats
    → priority_at l.greatest u ≡ handed_by (l.place + 1) (length l.owners.seats) (waits_for l.owners)
    (base_of l.owners) u
