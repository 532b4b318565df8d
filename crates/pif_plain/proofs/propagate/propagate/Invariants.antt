-- What is to stand by each thread over the hops that are left is what is to stand there over all.
use Rattle.std.proofs.Common.{◌≡◌, ◌<◌, ◌-◌, ℕ, suc, length}
use Rattle.pif_kernel_model.specs.Owners.{waits_for}
use Rattle.pif_kernel_model.specs.Boosts.{priority_at, after_propagation}
use Rattle.pif_plain.proofs.Propagation.{still_handed}
use Rattle.pif_plain.proofs.propagate.propagate.Given as goal

abbrev pub invariant-loop-hop : goal.invariant-loop-hop
invariant-loop-hop l = (u : ℕ) → u < length l.owners.seats
    → still_handed (suc (length l.owners.seats) - l._hop) (waits_for l.owners) l.prio l.at (priority_at l.greatest) u
    ≡ after_propagation (length l.owners.seats) (waits_for l.owners) l.prio l.fn.t (priority_at l.fn.greatest) u
