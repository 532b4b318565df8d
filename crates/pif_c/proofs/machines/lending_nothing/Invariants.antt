use Rattle.std.proofs.Common.{◌≡◌, map}
use Rattle.pif_c.specs.Machines.{lending_nothing}
use Rattle.pif_c.proofs.machines.lending_nothing.Given as goal

abbrev pub invariant-loop-wide : goal.invariant-loop-wide
invariant-loop-wide l = l.all.items ≡ map (lending_nothing l.mutex) l.yielded
