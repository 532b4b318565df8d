use Rattle.pif_choose.proofs.Choosing.{stays-present, stays-next, stays-first}
use Rattle.pif_choose.proofs.choice.stay.Goals as goal

pub returns-in-Some : goal.returns-in-Some
returns-in-Some c = stays-present c.args.present c.args.can.now _ _ c.first_with.ensures c.in-Some.is

pub returns-in-Some-first_with : goal.returns-in-Some-first_with
returns-in-Some-first_with c = stays-next c.args.present c.args.can.now _ _ _ c.first_with.ensures c.in-None.is c.first_with-in-None.ensures c.in-Some-first_with.is

pub returns-in-None-first_with : goal.returns-in-None-first_with
returns-in-None-first_with c =
    stays-first c.args.present c.args.can.now _ _ _ c.first_with.ensures c.in-None.is c.first_with-in-None.ensures c.in-None-first_with.is
    c.first_with-in-None-first_with.ensures
