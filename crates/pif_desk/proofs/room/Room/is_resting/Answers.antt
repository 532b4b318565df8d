-- Who rests lives, and has a number that limits allow.
use Rattle.std.proofs.Common.{◌∙◌, Bool, false, Option, unwrap_or, sym, ap}
use Rattle.pif_desk.proofs.Sleeping.{resting_number}
use Rattle.pif_desk.proofs.room.Room.is_resting.Goals as goal

pub returns-clause-number : goal.returns-clause-number
returns-clause-number c = λ h.
    resting_number c.self.inside.core c.self.inside.journal.items c.self.invariant.1 c.args.t
    (ap (λ (o : Option Bool). unwrap_or o false) (sym c.waiting.ensures.value) ∙ sym c.unwrap_or.ensures ∙ h)
