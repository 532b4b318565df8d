-- What C holds of a machine, and what it owns.
use base.Fml.{Fml, ftrue}
use base.Stored.{Coded}
use denote.RawPtr.{Ptr}
use Rattle.std.specs.Prelude.{Bool, true, false}
use Rattle.std.specs.Box.Ownership.{box_owns}
use Rattle.std.specs.Global.{Global}
use Rattle.std_heap.specs.contracts.GlobalAllocator.TheImpl.{ghosts}
use Rattle.pif_c.specs.contracts.machines.Machine.{the_row}
use Rattle.pif_c.specs.Running.{Running}
use Rattle.pif_c.specs.Machines.{new_running}

-- if there is a machine, what its box owned: the machine at the pointer, and the right to free its block
abbrev pub machine_owned_where : Bool → Global → Ptr → the_row.Denot → Fml
machine_owned_where true alloc at machine = box_owns (ghosts.dealloc_token alloc) the_row at machine
machine_owned_where false alloc at machine = ftrue

-- how the logic stores what a machine comes to
abbrev pub machine_coded : Coded the_row.Denot
machine_coded = the_row.coded

-- what stands in the place of a machine if there is no machine
abbrev pub no_running : Running
no_running = new_running (record { threads = 1; mutexes = 0; conds = 0; signals = 1 })
