-- Which steps are those of calls on condition variables.
use Rattle.std.specs.Prelude.{Bool, true, false}
use Rattle.pif_types.specs.declared.requests.Request.TheVariants.{Wait, Signal, Broadcast}
use Rattle.pif_model.specs.declared.lines.Line.{Line}
use Rattle.pif_model.specs.declared.lines.Line.TheVariants.{At}

-- whether a wait, a signal or a broadcast is open at this line
abbrev pub is_of_conditions : Line → Bool
is_of_conditions (At (Wait c m) p) = true
is_of_conditions (At (Signal c) p) = true
is_of_conditions (At (Broadcast c) p) = true
is_of_conditions _ = false
