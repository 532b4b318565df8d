-- A core that stands after the empty history stands after an empty journal.
use Rattle.std.proofs.Common.{[], arith}
use Rattle.pif_desk.proofs.room.Room.new.Goals as goal

pub invariant_of-result : goal.invariant_of-result
invariant_of-result c = (
  omega arith,
  rw c.new.ensures.items (record { states = []; last = c.requires.0; stands = c.requires.1 }),
)
