-- Which steps are those on mutexes.
use Rattle.std.specs.Prelude.{Bool, true, false}
use Rattle.pif_types.specs.declared.requests.Request.TheVariants.{Wait, Signal, Broadcast}
use Rattle.pif_model.specs.declared.lines.Line.{Line}
use Rattle.pif_model.specs.declared.lines.Line.TheVariants.{Idle, At}
use Rattle.pif_model.specs.declared.lines.Place.{Place}
use Rattle.pif_model.specs.declared.lines.Place.TheVariants.{Give}
use Rattle.pif_model.specs.Soundness.{is_locking}

-- whether a wait takes a step on its mutex at this place: it gives the mutex up, or locks it again
abbrev pub is_on_mutex : Place → Bool
is_on_mutex (Give x y) = true
is_on_mutex p = is_locking p

-- whether a call is open at this line whose next step is one on mutexes: a call on mutexes, a change of priority, or a
-- wait at a place where it gives its mutex up, or of lock from the exchange on. A timed request is open nowhere, since
-- a begin splits it; a step of one is that of any request at a place of another
abbrev pub is_of_mutexes : Line → Bool
is_of_mutexes Idle = false
is_of_mutexes (At (Wait c m) p) = is_on_mutex p
is_of_mutexes (At (Signal c) p) = false
is_of_mutexes (At (Broadcast c) p) = false
is_of_mutexes (At q p) = true
