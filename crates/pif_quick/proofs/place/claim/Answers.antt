use Rattle.pif_quick.proofs.PlaceSteps.{claim_allowed}
use Rattle.pif_quick.proofs.place.claim.Goals as goal

pub load-found-requires : goal.load-found-requires
load-found-requires g c =
    let h = c.requires.place in
    (h.table, h.inside.0, claim_allowed _ _ _ _ h c.requires.quiet _)
