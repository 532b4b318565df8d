use Rattle.std.proofs.Common.{◌≡◌, map, take}
use Rattle.pif_parts.specs.Resting.{unused_cond}
use Rattle.pif_parts.proofs.resting.are_bound_alike.Given as goal

abbrev pub invariant-loop-place : goal.invariant-loop-place
invariant-loop-place l = map unused_cond (take l.place l.conds) ≡ map unused_cond (take l.place l.others)
