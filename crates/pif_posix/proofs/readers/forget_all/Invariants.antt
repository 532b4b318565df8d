use Rattle.std.proofs.Common.{◌≡◌, ◌++◌, take, drop, map}
use Rattle.pif_model.specs.World.{Variable}
use Rattle.pif_posix.proofs.readers.forget_all.Given as goal

abbrev pub invariant-loop-variable : goal.invariant-loop-variable
invariant-loop-variable l =
    l.variables ≡ map (λ (x : Variable). record x { uses = 0 }) (take l.variable-index l.initial.variables) ++ drop l.variable-index l.initial.variables
