-- Chains of which a call touched the owner states alone.
use Rattle.std.proofs.Common.{◌≡◌, ap}
use Rattle.pif_nodes_model.specs.Table.{NodeLists}
use Rattle.pif_nodes_model.specs.Levels.{Queue, Holds, level_of}
use Rattle.pif_kernel_model.specs.Owners.{Owners}
use Rattle.pif_plain.specs.Rows.{PlainRows}
use Rattle.pif_kernel_model.specs.Chained.{Chained, KeepsLevels}

pub kept_chains : (v w : Owners) (q : Queue) (t : NodeLists) (r : PlainRows) (was : Chained)
    → record { owners = v; queue = q; table = t; keys = r.keys; parked = r.parked } ≡ was → Holds q t
    → KeepsLevels was (record { owners = w; queue = q; table = t; keys = r.keys; parked = r.parked })
kept_chains v w q t r was is holds = record {
  levels = λ r lr. ap (λ (x : Chained). level_of x.queue x.table r) is;
  queue = ap (λ (x : Chained). x.queue) is;
  holds = holds;
  keys = ap (λ (x : Chained). x.keys) is;
  parked = ap (λ (x : Chained). x.parked) is;
}
