use Rattle.pif_quick.proofs.PlaceSteps.{look_allowed}
use Rattle.pif_quick.proofs.place.look.Goals as goal

pub load-requires : goal.load-requires
load-requires g c = (c.requires.table, c.requires.inside.0, look_allowed _ _ _ _ c.requires _)
