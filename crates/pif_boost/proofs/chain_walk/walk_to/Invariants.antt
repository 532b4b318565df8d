use Rattle.std.proofs.Common.{◌≡◌}
use Rattle.pif_boost.proofs.Walking.{IsWalkingTo}
use Rattle.pif_boost.proofs.chain_walk.walk_to.Given as goal

abbrev pub invariant-loop-hop : goal.invariant-loop-hop
invariant-loop-hop l =
    record {
      walking : IsWalkingTo l.fn.owners l.fn.table l.fn.start l.hop l.at l.owners l.table;
      queue : l.queue ≡ l.fn.queue;
    }
