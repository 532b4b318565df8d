use Rattle.std.proofs.Common.{◌≡◌, All, map, take, true}
use Rattle.pif_explore_model.specs.Situations.{Situation}
use Rattle.pif_explore_text.specs.Views.{claim_view}
use Rattle.pif_explore.specs.Finding.{IsEnoughOf}
use Rattle.pif_explore_text.specs.declared.sheets.Claim.{Claim}
use Rattle.pif_job_explore.specs.Exploring.{AreRuled}
use Rattle.pif_job_explore.proofs.rulings.rulings.Given as goal

abbrev pub invariant-loop-claim : goal.invariant-loop-claim
invariant-loop-claim l =
    (start : Situation)
    → (l.explored.is_whole ≡ true → All (λ (x : Claim). IsEnoughOf l.plan start l.explored.nodes.items x.assertion) l.claims)
    → AreRuled l.plan start l.explored.nodes.items (map claim_view (take l.claim-index l.claims)) l.all.items
