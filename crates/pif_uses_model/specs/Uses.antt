-- How often variables were used, by signals and broadcasts, and how often they may be. A signal or a broadcast of a
-- variable that was used as often as it may be is answered EOVERFLOW (`Uses` of Posix.antt; this project's choice, since
-- POSIX, pthread_cond_signal, knows no such limit). Nothing else that a call does depends on how often it was.
use Rattle.std.specs.Prelude.{ℕ, ◌≡◌, ◌<◌, List, get_or, map, Option, Some, None, if◌then◌else◌}
use Rattle.std.specs.List.{sum_by}
use Rattle.pif_types.specs.declared.requests.Request.{Request}
use Rattle.pif_model.specs.Posix.{World, Thread, Variable, Call, Progress, no_variable, is_use}
use Rattle.pif_model.specs.World.Progress.{Fresh}

-- USES

-- a variable that was not used yet
abbrev pub unused : Variable → Variable
unused x = record x { uses = 0 }

-- the state in which none was
abbrev pub without_uses : World → World
without_uses w = record w { variables = map unused w.variables }

-- how often a variable was used
abbrev pub uses_in : List Variable → ℕ → ℕ
uses_in xs c = (get_or xs c no_variable).uses

-- the variables are the same but for their uses
abbrev pub AreButForUses : List Variable → List Variable → Type 0
AreButForUses xs ys = map unused xs ≡ map unused ys

-- each variable may be used once more
abbrev pub NoneIsUsedUp : World → Type 0
NoneIsUsedUp w = (c : ℕ) → uses_in w.variables c < w.signals

-- USES TO COME

-- how many uses are to come of a call of this request that has come this far: one of a signal or a broadcast that has
-- had no effect yet
abbrev pub to_come_at : Request → Progress → ℕ
to_come_at q Fresh = if is_use q then 1 else 0
to_come_at q _ = 0

abbrev pub to_come_of : Option Call → ℕ
to_come_of None = 0
to_come_of (Some x) = to_come_at x.request x.progress

-- how many are to come of the calls that are open
abbrev pub uses_to_come : World → ℕ
uses_to_come w = sum_by (λ (x : Thread). to_come_of x.call) w.threads
