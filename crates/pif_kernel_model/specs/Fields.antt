-- What the fields of a kernel stand for.
use Rattle.std.specs.Prelude.{ℕ, List}
use Rattle.pif_types.specs.Bounds.{Bounds}
use Rattle.pif_model.specs.declared.lines.Status.{Status}
use Rattle.pif_kernel_model.specs.Inside.{Inside, arrivals_in}
use Rattle.pif_kernel_model.specs.Chained.{Chained}

-- what is kept
abbrev pub inside_from : Bounds → List Status → Chained → ℕ → Inside
inside_from limits statuses chains next =
    record {
      limits = limits;
      statuses = statuses;
      keys = chains.keys;
      owners = chains.owners;
      queue = chains.queue;
      table = chains.table;
      arrivals = arrivals_in statuses chains.owners;
      parked = chains.parked;
      next = next;
    }

-- the owner states, the run queue, the keys and the parked threads in what is kept
abbrev pub chains_of : Inside → Chained
chains_of p = record { owners = p.owners; queue = p.queue; table = p.table; keys = p.keys; parked = p.parked }
