-- It happens in place, or by a copy.
use Rattle.pif_c.proofs.InPlace.{happens_in_place, happens_otherwise}
use Rattle.pif_c.proofs.going.happen.Goals as goal

pub returns-then-happens_in_place : goal.returns-then-happens_in_place
returns-then-happens_in_place c =
    happens_in_place c.args.ask.now c.args.place c.args.machine.now _ _ c.happens_in_place.ensures c.if-happens_in_place.true

pub returns-else-happens_in_place : goal.returns-else-happens_in_place
returns-else-happens_in_place c =
    happens_otherwise c.args.ask.now c.args.place c.args.machine.now _ _ _ _ c.happens_in_place.ensures c.if-happens_in_place.false
    c.happen_copied.ensures
