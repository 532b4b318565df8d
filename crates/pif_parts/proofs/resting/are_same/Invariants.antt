use Rattle.std.proofs.Common.{◌≡◌, take}
use Rattle.pif_parts.proofs.resting.are_same.Given as goal

abbrev pub invariant-loop-place : goal.invariant-loop-place
invariant-loop-place g l = take l.place l.items ≡ take l.place l.others
