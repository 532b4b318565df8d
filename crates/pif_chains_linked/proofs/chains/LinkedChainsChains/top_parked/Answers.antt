use Rattle.std.proofs.Common.{ap, ◌∙◌}
use Rattle.pif_model.specs.PiKernel.{parked_pairs}
use Rattle.pif_kernel_model.specs.States.{owners_in}
use Rattle.pif_kernel_model.specs.Boosts.{local_of}
use Rattle.pif_kernel_model.specs.Chained.{Chained}
use Rattle.pif_kernel_model.specs.Takings.{first_parked}
use Rattle.pif_chains_linked.proofs.ParkingLists.{first_seen}
use Rattle.pif_chains_linked.proofs.chains.LinkedChainsChains.top_parked.Goals as goal

pub returns : goal.returns
returns c =
    first_seen c.self.inside.buckets.parked c.self.inside.table c.self.inside.next c.self.invariant.stand.buckets.parked.stand c.self.invariant.parked.parked
    (local_of (owners_in c.self.inside.owners c.self.inside.table)) c.self.invariant.parked.ranked c.args.c c.top_parked.result
    c.top_parked.ensures.none c.top_parked.ensures.top
    ∙ ap (λ (x : Chained). first_parked (local_of x.owners) (parked_pairs x.parked) c.args.c) c.self.view_is
