use Rattle.std.proofs.Common.{ℕ, ◌<◌}
use Rattle.pif_quick.specs.Turns.{Agree}
use Rattle.pif_quick.specs.Quick.{record_at, IsPassOf, IsUnchanged}
use Rattle.pif_quick.proofs.quick.Quick.meet.Given as goal

abbrev pub invariant-loop-m : goal.invariant-loop-m
invariant-loop-m g l = record {
  own : IsPassOf l.self l.one;
  other_own : IsPassOf l.self l.other;
  kept : IsUnchanged l.fn.one l.one;
  other_kept : IsUnchanged l.fn.other l.other;
  agree : (k : ℕ) → k < l.m → Agree (record_at l.one k) (record_at l.other k);
}
