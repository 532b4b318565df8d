use Rattle.pif_quick.proofs.PlaceSteps.{take_allowed}
use Rattle.pif_quick.proofs.place.take.Goals as goal

pub compare_exchange-found-requires : goal.compare_exchange-found-requires
compare_exchange-found-requires g c = (
  c.requires.table,
  c.requires.inside.0,
  take_allowed _ _ _ _ c.requires _ c.from.ensures _,
)
