use Rattle.std.proofs.Common.{◌≡◌, Some, None, subst, sym, ap, ◌∙◌}
use Rattle.pif_kernel_model.specs.Owners.{waits_on, with_wait}
use Rattle.pif_kernel_model.specs.Chained.{Chained, KeepsLevels}
use Rattle.pif_kernel_model.specs.States.{States}
use Rattle.pif_chains_linked.proofs.Standing.{linked, waits_off, linked_seated, owners_kept}
use Rattle.pif_kernel_model.proofs.SamePlace.{same_place}
use Rattle.pif_chains_linked.proofs.chains.LinkedChainsChains.dequeue.Goals as goal

pub dequeue-requires-clause-holds : goal.dequeue-requires-clause-holds
dequeue-requires-clause-holds c = c.self.invariant.stand.owners

pub dequeue-requires-clause-queued : goal.dequeue-requires-clause-queued
dequeue-requires-clause-queued c = subst (λ (x : Chained). waits_on x.owners c.args.t ≡ Some c.args.key) (sym c.self.view_is) c.requires

pub invariant_of-self : goal.invariant_of-self
invariant_of-self c =
    linked_seated c.self.inside.owners c.self.inside.queue c.self.inside.buckets c.self.inside.table c.self.inside.next
    c.self.invariant c.dequeue.new.self c.dequeue.new.table (same_place _ _ c.dequeue.ensures.place)
    (ap (λ (x : States). x.places) c.dequeue.ensures.place) c.dequeue.ensures.outside c.dequeue.ensures.holds c.args.t _
    (waits_off c.self.inside.owners c.self.inside.queue c.self.inside.buckets c.self.inside.table c.self.inside.next c.self.invariant c.args.t c.args.key
    (subst (λ (x : Chained). waits_on x.owners c.args.t ≡ Some c.args.key) (sym c.self.view_is) c.requires)) c.dequeue.ensures.free

pub returns : goal.returns
returns c = record {
  free = c.dequeue.ensures.free ∙ ap (λ (x : Chained). with_wait c.args.t None x.owners) c.self.view_is;
  kept = subst (λ (x : Chained). KeepsLevels x (linked c.dequeue.new.self c.self.inside.queue c.self.inside.buckets c.dequeue.new.table)) c.self.view_is
      (owners_kept c.self.inside.owners c.self.inside.queue c.self.inside.buckets c.self.inside.table c.self.inside.next c.self.invariant
      c.dequeue.new.self c.dequeue.new.table (same_place _ _ c.dequeue.ensures.place) (ap (λ (x : States). x.places) c.dequeue.ensures.place)
      c.dequeue.ensures.outside c.dequeue.ensures.holds);
}
