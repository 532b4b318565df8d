use Rattle.pif_kernel_model.specs.States.{owners_in}
use Rattle.pif_boost.proofs.Chaining.{IsChaining}
use Rattle.pif_boost.proofs.cycles.would_close.Given as goal

abbrev pub invariant-loop-hop : goal.invariant-loop-hop
invariant-loop-hop l = IsChaining (owners_in l.owners l.table) l.fn.owner l.fn.t l._hop l.at
