-- A loose core may cross to another thread: if it holds a core, it owns what the box of a core owns, which may cross;
-- if it holds none, it owns nothing.
use mathlib.Core.List.{[]}
use base.Shift.{Keyless}
use denote.RawPtr.{Ptr}
use denote.Struct.Struct.{exits_of}
use denote.Struct.Owning.{shape, fields, to}
use denote.Param.Send.{IsSend, AllSend, owning_send, struct_send, sendable}
use Rattle.std.specs.Prelude.{Bool, true, false}
use Rattle.std.specs.Global.{Global}
use Rattle.std.proofs.Crossing.{Box-send}
use Rattle.std_alloc.proofs.SendSync.{quiet}
use Rattle.std_heap.proofs.Global.TheSendSync as heap
use Rattle.pif_core.specs.contracts.cores.Core as Core
use Rattle.pif_core.proofs.cores.Core.TheSendSync.{the_send as core}
use Rattle.pif_c.specs.Loose.{owned_where}
use Rattle.pif_c.specs.contracts.loose.Loose.{the_row, the_type}

-- what it owns besides its fields may cross
crosses : (holds : Bool) (alloc : Global) (at : Ptr) (table : (Core.the_row).Denot) → Keyless (owned_where holds alloc at table)
crosses true alloc at table = ((Box-send Core.the_row core).owned (record { ptr = at; alloc = alloc; value = table }) []).1
crosses false alloc at table = tt

pub send : IsSend the_row
send =
    let all : AllSend (fields the_type) = (search sendable, (heap.the_field_send, tt)) in
    owning_send the_type all (λ l. crosses l.holds l.alloc l.at l.table)
    (λ k. quiet (to the_type) (exits_of k (fields the_type)) ((struct_send (shape the_type) all).leaving k))
