-- A call that has begun is gone back over.
use Rattle.pif_desk.proofs.walk.Walk.back.Goals as goal

pub returns-in-Begun-clause-goes_on : goal.returns-in-Begun-clause-goes_on
returns-in-Begun-clause-goes_on c = rw c.in-Begun.is c.back_over_call.ensures.goes_on
