use Rattle.std.proofs.Common.{List, ap}
use Rattle.std.proofs.lemmas.Result.{on_ok_weaker}
use Rattle.std.specs.Prelude.{flat_map}
use Rattle.pif_explore.specs.declared.legs.Leg.{Leg}
use Rattle.pif_explore_told.specs.DelayLines.{leg_told}
use Rattle.pif_explore_told.proofs.TellingLemmas.{three_more}
use Rattle.pif_explore_told.proofs.delays.push_round.Goals as goal

pub returns : goal.returns
returns c =
    on_ok_weaker c.push_legs.result
    (λ more. three_more c.args.out.now.items _ _ _ _ _ _ _ c.in_ok-push_schedule.ensures c.in_ok-push_all.ensures more
    (ap (λ (legs : List Leg). flat_map (leg_told c.args.plan.now c.args.nodes.now) legs) c.as_slice.ensures.value))
    c.push_legs.ensures
