use Rattle.std.proofs.Common.{reverse, take}
use Rattle.pif_parts.specs.Standing.{IsPast}
use Rattle.pif_parts.proofs.past.past_of.Given as goal

abbrev pub invariant-loop-place : goal.invariant-loop-place
invariant-loop-place l = IsPast (reverse (take l.place l.lines)) l.past
