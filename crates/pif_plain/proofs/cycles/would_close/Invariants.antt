-- What is reached from here in the hops that are left is what is reached from the start.
use Rattle.std.proofs.Common.{◌≡◌, ◌-◌, suc, length}
use Rattle.pif_model.specs.Graph.{reaches_within}
use Rattle.pif_kernel_model.specs.Owners.{waits_for}
use Rattle.pif_plain.proofs.cycles.would_close.Given as goal

abbrev pub invariant-loop-hop : goal.invariant-loop-hop
invariant-loop-hop l =
    reaches_within (suc (length l.owners.seats) - l._hop) (waits_for l.owners) l.at l.t ≡ reaches_within (suc (length l.owners.seats)) (waits_for l.owners) l.fn.owner l.t
