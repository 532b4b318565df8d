use Rattle.std.proofs.Common.{◌≡◌, ◌++◌, take, drop, map}
use Rattle.pif_components.specs.Groups.{relabelled}
use Rattle.pif_components.proofs.groups.relabel.Given as goal

abbrev pub invariant-loop-group : goal.invariant-loop-group
invariant-loop-group l =
    l.groups ≡ map (relabelled l.low l.high l.last) (take l.group-index l.initial.groups) ++ drop l.group-index l.initial.groups
