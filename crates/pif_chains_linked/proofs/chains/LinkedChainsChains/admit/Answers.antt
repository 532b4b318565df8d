use Rattle.std.proofs.Common.{false, subst, ◌≡◌, ◌<◌, None, length, sym, ap, ◌∙◌}
use Rattle.pif_kernel_model.specs.Owners.{waits_on, with_task}
use Rattle.pif_kernel_model.proofs.BoostFrameLemmas.{outside-none}
use Rattle.pif_kernel_model.specs.Chained.{Chained}
use Rattle.pif_kernel_model.specs.States.{States}
use Rattle.pif_model.specs.PiKernel.{parked_pairs}
use Rattle.pif_kernel_model.specs.Tickets.{is_named}
use Rattle.pif_chains_linked.specs.Parkings.{parkings_in}
use Rattle.pif_chains_linked.specs.Linked.{keys_in}
use Rattle.pif_kernel_model.proofs.SamePlace.{same_place}
use Rattle.pif_chains_linked.proofs.Standing.{unparked, linked_seated}
use Rattle.pif_chains_linked.proofs.chains.LinkedChainsChains.admit.Goals as goal

pub admit-requires-clause-holds : goal.admit-requires-clause-holds
admit-requires-clause-holds c = c.self.invariant.stand.owners

pub admit-requires-clause-row : goal.admit-requires-clause-row
admit-requires-clause-row c = subst (λ (x : Chained). c.args.t < length x.owners.seats) (sym c.self.view_is) c.requires.row

pub admit-requires-clause-free : goal.admit-requires-clause-free
admit-requires-clause-free c = subst (λ (x : Chained). waits_on x.owners c.args.t ≡ None) (sym c.self.view_is) c.requires.free

pub invariant_of-self : goal.invariant_of-self
invariant_of-self c =
    linked_seated c.self.inside.owners c.self.inside.queue c.self.inside.buckets c.self.inside.table c.self.inside.next c.self.invariant
    c.admit.new.self c.self.inside.table (same_place _ _ c.admit.ensures.place) (ap (λ (x : States). x.places) c.admit.ensures.place)
    (outside-none c.self.inside.owners c.self.inside.table) c.admit.ensures.holds c.args.t _
    (unparked c.self.inside.owners c.self.inside.queue c.self.inside.buckets c.self.inside.table c.self.inside.next c.self.invariant c.args.t
    (subst (λ (x : Chained). is_named c.args.t (parked_pairs x.parked) ≡ false) (sym c.self.view_is) c.requires.unparked))
    c.admit.ensures.admitted

pub returns : goal.returns
returns c =
    (λ i. record {
      owners = c.admit.ensures.admitted i;
      queue = c.self.inside.queue;
      table = c.self.inside.table;
      keys = keys_in c.self.inside.buckets.entries c.self.inside.table;
      parked = parkings_in c.self.inside.buckets.parked c.self.inside.table;
    })
    ∙ ap (λ (x : Chained). record x { owners = with_task c.args.t (record { base = c.args.prio; local = c.args.prio; wait = None }) x.owners }) c.self.view_is
