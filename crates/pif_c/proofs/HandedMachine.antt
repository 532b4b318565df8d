-- A machine as C is handed it: the box in which it lies, and the rows of an opened box and of a loose machine.
use mir.Syntax.{impl, tnil}
use Rattle.pif_c.proofs.Words.{Bx, RattleType, Slot, plain, dnil, []}
use Rattle.std_heap.specs.contracts.Global as Heap
use Rattle.std_heap.specs.contracts.GlobalAllocator.TheImpl.{ghosts, dict}
use Rattle.std_heap.proofs.Global.TheLaws as heap
use Rattle.pif_c.specs.contracts.machines.Machine as Machine
use Rattle.pif_c.proofs.machines.Machine.TheLaws as machine
use Rattle.pif_c.specs.contracts.loose.Opened as Opened
use Rattle.pif_c.specs.contracts.loose_machines.LooseMachine as Loose

-- the box of a machine on the C library's heap
abbrev pub the_box : Bx
the_box = record {
  row = Machine.the_row;
  laws = machine.the_row_laws;
  al = record { row = Heap.the_row; laws = heap.the_row_laws; g = ghosts; d = dict; drops = impl [] tnil dnil };
}

-- that box taken apart
abbrev pub opened_row : RattleType
opened_row = Opened.the_row Machine.the_row Heap.the_row ghosts

abbrev pub opened : Slot 0
opened = plain (λ _. opened_row)

-- what C holds of it
abbrev pub loose_row : RattleType
loose_row = Loose.the_row

abbrev pub loose : Slot 0
loose = plain (λ _. loose_row)

-- the C library's heap
abbrev pub heap_row : RattleType
heap_row = Heap.the_row

abbrev pub heap_slot : Slot 0
heap_slot = plain (λ _. heap_row)
