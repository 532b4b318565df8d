use Rattle.std.proofs.Common.{ap, ◌∙◌}
use Rattle.pif_kernel_model.specs.Chained.{Chained}
use Rattle.pif_kernel_model.specs.Takings.{have_target}
use Rattle.pif_chains_linked.proofs.ParkingLists.{target_seen}
use Rattle.pif_chains_linked.proofs.chains.LinkedChainsChains.match_requeue.Goals as goal

pub returns : goal.returns
returns c =
    target_seen c.self.inside.buckets.parked c.self.inside.table c.self.inside.next c.self.invariant.stand.buckets.parked.stand c.self.invariant.parked.parked c.args.c c.args.m c.match_requeue.result c.match_requeue.ensures
    ∙ ap (λ (x : Chained). have_target x.parked c.args.c c.args.m) c.self.view_is
