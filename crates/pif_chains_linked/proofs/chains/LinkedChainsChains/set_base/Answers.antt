use Rattle.std.proofs.Common.{subst, sym, ap, ◌∙◌}
use Rattle.pif_kernel_model.specs.Owners.{with_base}
use Rattle.pif_kernel_model.proofs.BoostFrameLemmas.{outside-none}
use Rattle.pif_kernel_model.specs.Chained.{Chained}
use Rattle.pif_kernel_model.specs.Owners.{Owners}
use Rattle.pif_kernel_model.specs.States.{States, owners_in}
use Rattle.pif_kernel_model.specs.Parked.{parked_at}
use Rattle.pif_chains_linked.specs.Parkings.{parkings_in}
use Rattle.pif_chains_linked.specs.Linked.{keys_in, FitsParked}
use Rattle.pif_chains_linked.proofs.Fits.{fits_based}
use Rattle.pif_kernel_model.proofs.SamePlace.{same_place}
use Rattle.pif_chains_linked.proofs.Standing.{linked_owners}
use Rattle.pif_chains_linked.proofs.chains.LinkedChainsChains.set_base.Goals as goal

pub set_base-requires : goal.set_base-requires
set_base-requires c = record { holds = c.self.invariant.stand.owners }

pub invariant_of-self : goal.invariant_of-self
invariant_of-self c =
    linked_owners c.self.inside.owners c.self.inside.queue c.self.inside.buckets c.self.inside.table c.self.inside.next c.self.invariant
    c.set_base.new.self c.self.inside.table (same_place _ _ c.set_base.ensures.place) (ap (λ (x : States). x.places) c.set_base.ensures.place)
    (outside-none c.self.inside.owners c.self.inside.table) c.set_base.ensures.holds
    (subst (λ (x : Owners). FitsParked x (parked_at c.self.inside.buckets.parked c.self.inside.table) c.self.inside.buckets.parked.threads c.self.inside.next)
    (sym c.set_base.ensures.changed)
    (fits_based (owners_in c.self.inside.owners c.self.inside.table) (parked_at c.self.inside.buckets.parked c.self.inside.table)
    c.self.inside.buckets.parked.threads c.self.inside.next c.self.invariant.parked c.args.t c.args.prio))

pub returns : goal.returns
returns c =
    (λ i. record {
      owners = c.set_base.ensures.changed i;
      queue = c.self.inside.queue;
      table = c.self.inside.table;
      keys = keys_in c.self.inside.buckets.entries c.self.inside.table;
      parked = parkings_in c.self.inside.buckets.parked c.self.inside.table;
    })
    ∙ ap (λ (x : Chained). record x { owners = with_base c.args.t c.args.prio x.owners }) c.self.view_is
