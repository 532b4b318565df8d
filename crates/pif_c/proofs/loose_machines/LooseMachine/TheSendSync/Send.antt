-- A loose machine may cross to another thread: if it holds a machine, it owns what the box of a machine owns, which may cross;
-- if it holds none, it owns nothing.
use mathlib.Core.List.{[]}
use base.Shift.{Keyless}
use denote.RawPtr.{Ptr}
use denote.Struct.Struct.{exits_of}
use denote.Struct.Owning.{shape, fields, to}
use denote.Param.Send.{IsSend, AllSend, owning_send, struct_send, sendable}
use Rattle.std.specs.Prelude.{Bool, true, false}
use Rattle.std.specs.Global.{Global}
use Rattle.std.proofs.Crossing.{Box-send}
use Rattle.std_alloc.proofs.SendSync.{quiet}
use Rattle.std_heap.proofs.Global.TheSendSync as heap
use Rattle.pif_c.specs.contracts.machines.Machine as Machine
use Rattle.pif_c.proofs.machines.Machine.TheSendSync.{the_send as machine}
use Rattle.pif_c.specs.LooseMachines.{machine_owned_where}
use Rattle.pif_c.specs.contracts.loose_machines.LooseMachine.{the_row, the_type}

-- what it owns besides its fields may cross
crosses : (holds : Bool) (alloc : Global) (at : Ptr) (running : (Machine.the_row).Denot) → Keyless (machine_owned_where holds alloc at running)
crosses true alloc at running = ((Box-send Machine.the_row machine).owned (record { ptr = at; alloc = alloc; value = running }) []).1
crosses false alloc at running = tt

pub send : IsSend the_row
send =
    let all : AllSend (fields the_type) = (search sendable, (heap.the_field_send, tt)) in
    owning_send the_type all (λ l. crosses l.holds l.alloc l.at l.running)
    (λ k. quiet (to the_type) (exits_of k (fields the_type)) ((struct_send (shape the_type) all).leaving k))
