-- What C holds of a core, and what it owns.
use base.Fml.{Fml, ftrue}
use base.Stored.{Coded}
use denote.RawPtr.{Ptr}
use Rattle.std.specs.Prelude.{Bool, true, false}
use Rattle.std.specs.Box.Ownership.{box_owns}
use Rattle.std.specs.Global.{Global}
use Rattle.std_heap.specs.contracts.GlobalAllocator.TheImpl.{ghosts}
use Rattle.pif_core.specs.contracts.cores.Core.{the_row}
use Rattle.pif_model.specs.Table.{Table, new_table}

-- if there is a core, what its box owned: the core at the pointer, and the right to free its block
abbrev pub owned_where : Bool → Global → Ptr → the_row.Denot → Fml
owned_where true alloc at core = box_owns (ghosts.dealloc_token alloc) the_row at core
owned_where false alloc at core = ftrue

-- how the logic stores what a core comes to
abbrev pub core_coded : Coded the_row.Denot
core_coded = the_row.coded

-- what stands in the place of a table if there is no core
abbrev pub no_table : Table
no_table = new_table (record { threads = 1; mutexes = 0; conds = 0; signals = 1 })
