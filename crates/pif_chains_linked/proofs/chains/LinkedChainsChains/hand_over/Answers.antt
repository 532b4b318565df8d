use Rattle.std.proofs.Common.{◌≡◌, ℕ, Some, None, subst, sym, ap, ◌∙◌}
use Rattle.pif_kernel_model.specs.Owners.{waits_on, IsTop, with_owner, with_wait}
use Rattle.pif_kernel_model.specs.Chained.{Chained, KeepsLevels}
use Rattle.std.specs.FinMap.{insert}
use Rattle.pif_kernel_model.specs.Owners.{Owners, task_at}
use Rattle.pif_kernel_model.specs.States.{States, owners_in}
use Rattle.pif_kernel_model.specs.Parked.{parked_at}
use Rattle.pif_chains_linked.specs.Linked.{FitsParked}
use Rattle.pif_chains_linked.proofs.Fits.{fits_but, fits_owned}
use Rattle.pif_chains_linked.proofs.Standing.{linked, waits_off, linked_owners, owners_kept}
use Rattle.pif_kernel_model.proofs.SamePlace.{same_place_handed}
use Rattle.pif_chains_linked.proofs.chains.LinkedChainsChains.hand_over.Goals as goal

pub hand_over-requires-clause-holds : goal.hand_over-requires-clause-holds
hand_over-requires-clause-holds c = c.self.invariant.stand.owners

pub hand_over-requires-clause-waiter : goal.hand_over-requires-clause-waiter
hand_over-requires-clause-waiter c = subst (λ (x : Chained). (t : ℕ) × (waits_on x.owners t ≡ Some c.args.key)) (sym c.self.view_is) c.requires.waiter

pub invariant_of-self : goal.invariant_of-self
invariant_of-self c =
    let v = owners_in c.self.inside.owners c.self.inside.table in
    let free : Owners = with_wait c.hand_over.result None v in
    let waits : waits_on v c.hand_over.result ≡ Some c.args.key = c.hand_over.ensures.top.waits in
    linked_owners c.self.inside.owners c.self.inside.queue c.self.inside.buckets c.self.inside.table c.self.inside.next c.self.invariant
    c.hand_over.new.self c.hand_over.new.table (same_place_handed _ _ c.hand_over.ensures.place) (ap (λ (x : States). x.places) c.hand_over.ensures.place)
    c.hand_over.ensures.outside c.hand_over.ensures.holds
    (subst (λ (x : Owners). FitsParked x (parked_at c.self.inside.buckets.parked c.self.inside.table) c.self.inside.buckets.parked.threads c.self.inside.next)
    (sym c.hand_over.ensures.handed)
    (fits_owned free (parked_at c.self.inside.buckets.parked c.self.inside.table) c.self.inside.buckets.parked.threads c.self.inside.next
    (fits_but v (parked_at c.self.inside.buckets.parked c.self.inside.table) c.self.inside.buckets.parked.threads c.self.inside.next c.self.invariant.parked
    c.hand_over.result (record (task_at v c.hand_over.result) { wait = None })
    (waits_off c.self.inside.owners c.self.inside.queue c.self.inside.buckets c.self.inside.table c.self.inside.next c.self.invariant c.hand_over.result c.args.key waits))
    (insert free.owners c.args.key c.hand_over.result)))

pub returns : goal.returns
returns c = record {
  top = subst (λ (x : Chained). IsTop x.owners c.args.key c.hand_over.result) c.self.view_is c.hand_over.ensures.top;
  handed = c.hand_over.ensures.handed
      ∙ ap (λ (x : Chained). with_owner c.args.key c.hand_over.result (with_wait c.hand_over.result None x.owners)) c.self.view_is;
  kept = subst (λ (x : Chained). KeepsLevels x (linked c.hand_over.new.self c.self.inside.queue c.self.inside.buckets c.hand_over.new.table)) c.self.view_is
      (owners_kept c.self.inside.owners c.self.inside.queue c.self.inside.buckets c.self.inside.table c.self.inside.next c.self.invariant
      c.hand_over.new.self c.hand_over.new.table (same_place_handed _ _ c.hand_over.ensures.place) (ap (λ (x : States). x.places) c.hand_over.ensures.place)
      c.hand_over.ensures.outside c.hand_over.ensures.holds);
}
