use Rattle.std.proofs.Common.{◌≡◌, ◌-◌, ◌∷◌, ◌++◌, replicate, Some, None}
use Rattle.pif_quick.proofs.quick.open.push_spaced.Given as goal

abbrev pub invariant-loop : goal.invariant-loop
invariant-loop g l = l.slots.items ≡ l.fn.slots.items ++ Some l.fn.value ∷ replicate (l.counter - 1) None
