-- A state of the POSIX machine with what rules remember beside it.
use Rattle.std.specs.Prelude.{ℕ, List}
use Rattle.pif_model.specs.World.{World}
use Rattle.pif_rules_model.specs.Rules.{Wide}

-- these variables, threads, mutexes and threads beside a state
abbrev pub with_lists : (lost apart prio_none given : List ℕ) → World → Wide
with_lists lost apart prio_none given w =
    record { world = w; lost = lost; apart = apart; prio_none = prio_none; given = given }
