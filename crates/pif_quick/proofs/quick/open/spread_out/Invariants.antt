use Rattle.std.proofs.Common.{◌≡◌}
use Rattle.pif_quick.specs.Quick.{spread}
use Rattle.pif_quick.proofs.quick.open.spread_out.Given as goal

abbrev pub invariant-loop-value : goal.invariant-loop-value
invariant-loop-value g l = l.slots.items ≡ spread l.yielded
