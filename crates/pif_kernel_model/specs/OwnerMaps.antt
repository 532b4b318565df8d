-- The owners that a slab holds, as a map.
use Rattle.std.specs.Prelude.{ℕ}
use Rattle.std.specs.Ordering.{nat_cmp}
use Rattle.std.specs.FinMap.{FinMap, from_entries}
use Rattle.slab.specs.Slab.{Slab, entries}

-- the owner of each state, from the slab that has the owners under the states' keys
abbrev pub owners_of : Slab ℕ → FinMap nat_cmp ℕ
owners_of s = from_entries (entries s)
