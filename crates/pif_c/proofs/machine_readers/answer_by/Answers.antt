-- It is answered in place, or by a copy.
use Rattle.pif_c.proofs.InPlace.{answers_in_place, answers_otherwise}
use Rattle.pif_c.proofs.machine_readers.answer_by.Goals as goal

pub returns-then-happens_in_place : goal.returns-then-happens_in_place
returns-then-happens_in_place c =
    answers_in_place c.args.thread c.args.answer c.args.machine.now _ _ c.happens_in_place.ensures c.if-happens_in_place.true

pub returns-else-happens_in_place : goal.returns-else-happens_in_place
returns-else-happens_in_place c =
    answers_otherwise c.args.thread c.args.answer c.args.machine.now _ _ _ _ c.happens_in_place.ensures c.if-happens_in_place.false
    c.answer_copied.ensures
