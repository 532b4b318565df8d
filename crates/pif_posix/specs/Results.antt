-- What comes of a function that changes a state by a rule with one result at most, and says whether it did.
use Rattle.std.specs.Prelude.{List, [], ◌∷◌, Bool, if◌then◌else◌}
use Rattle.pif_types.specs.Bounds.{Bounds}
use Rattle.pif_model.specs.declared.events.Event.{Event}
use Rattle.pif_model.specs.declared.events.Event.TheVariants.{End}
use Rattle.pif_model.specs.declared.events.Seen.{Seen}
use Rattle.pif_model.specs.declared.events.Entry.{Entry}
use Rattle.pif_model.specs.declared.events.Entry.TheVariants.{Step}
use Rattle.pif_model.specs.World.{World}
use Rattle.pif_posix_steps.specs.Doing.{happened, entered}

-- the state, if it did
abbrev pub if_done : Bool → World → List World
if_done did w = if did then w ∷ [] else []

-- an event happens and this is seen, but for the end of a thread: all results, at most one
abbrev pub happened_in_place : Event → Seen → World → List World
happened_in_place (End t) seen w = []
happened_in_place x seen w = happened x seen w

-- an entry that a line shows, but for the end of a thread: all results, at most one
abbrev pub entered_in_place : Bounds → World → Entry → List World
entered_in_place l w (Step x seen) = happened_in_place x seen w
entered_in_place l w x = entered l w x
