use Rattle.std.proofs.Common.{◌+◌, ◌-◌, ◌≤◌, length}
use Rattle.pif_kernel_model.specs.Chained.{KeepsLevels}
use Rattle.pif_kernel_model.specs.Inside.{arrivals_in}
use Rattle.pif_kernel_model.specs.Tickets.{IsRenumbered}
use Rattle.pif_kernel.proofs.renumbering.number_anew.Given as goal

abbrev pub invariant-loop-t : goal.invariant-loop-t
invariant-loop-t g l =
    record {
      least : 1 ≤ l.ticket;
      most : l.ticket ≤ length (arrivals_in l.statuses (g.C.Chains.seen l.initial.chains).owners) + 1;
      tags : IsRenumbered (g.C.Chains.seen l.initial.chains).owners (g.C.Chains.seen l.chains).owners
          (arrivals_in l.statuses (g.C.Chains.seen l.initial.chains).owners) (l.ticket - 1);
      kept : KeepsLevels (g.C.Chains.seen l.initial.chains) (g.C.Chains.seen l.chains);
    }

abbrev pub decreases-loop-t : goal.decreases-loop-t
decreases-loop-t g l = length (arrivals_in l.statuses (g.C.Chains.seen l.initial.chains).owners) + 1 - l.ticket
