-- What callers see of a desk itself; what stands behind its lock they see as a room.
use Rattle.std.specs.Prelude.{ℕ, vec_len}
use Rattle.pif_desk.specs.declared.desk.Desk.{Desk}

module _ {P : Type 0} where
  -- how many threads may have a client that sleeps: those with the numbers from 1 to this one
  abbrev pub bells_of : Desk P → ℕ
  bells_of d = vec_len d.bells.bells
