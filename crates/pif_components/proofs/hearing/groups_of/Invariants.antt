use Rattle.std.proofs.Common.{reverse, take}
use Rattle.pif_components.specs.Groups.{AreGroupsOf}
use Rattle.pif_components.proofs.hearing.groups_of.Given as goal

abbrev pub invariant-loop-place : goal.invariant-loop-place
invariant-loop-place l = AreGroupsOf (reverse (take l.place l.lines)) l.groups
