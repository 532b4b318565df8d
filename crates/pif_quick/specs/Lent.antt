-- What is held, after a write to its value.
use Rattle.std.specs.Borrow.{Lends, MutBor, Fml}
use denote.RattleType.{RattleType}
use Rattle.pif_quick.specs.declared.quick.Held.{Held}
use Rattle.pif_quick.specs.contracts.quick.Held.{the_row}

-- what is held, with another value
abbrev pub with_value : {T : Type 0} → Held T → T → Held T
with_value h v = record h { value = v }

-- what is held ends with the last value behind r, and is the same in all else
abbrev pub LendsValue : (R : RattleType) → MutBor (Held R.Denot) → MutBor R.Denot → Fml
LendsValue R h r = Lends (the_row R) R h r (with_value h.now)
