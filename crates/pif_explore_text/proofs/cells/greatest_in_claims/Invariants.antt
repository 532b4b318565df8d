use Rattle.std.proofs.Common.{◌≡◌, drop, map}
use Rattle.pif_explore_text.specs.Cells.{greatest_in_claims}
use Rattle.pif_explore_text.specs.Names.{greater}
use Rattle.pif_explore_text.specs.Views.{claim_view}
use Rattle.pif_explore_text.proofs.cells.greatest_in_claims.Given as goal

abbrev pub invariant-loop-claim : goal.invariant-loop-claim
invariant-loop-claim l =
    greater l.greatest (greatest_in_claims (map claim_view (drop l.claim-index l.claims)))
    ≡ greatest_in_claims (map claim_view l.claims)
