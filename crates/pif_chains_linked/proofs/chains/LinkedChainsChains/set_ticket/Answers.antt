use Rattle.std.proofs.Common.{IsSome, subst, sym, ap, ◌∙◌}
use Rattle.pif_kernel_model.specs.Owners.{waits_on, KeepsOrder, with_ticket}
use Rattle.pif_kernel_model.specs.Chained.{Chained, KeepsLevels}
use Rattle.pif_kernel_model.specs.States.{States}
use Rattle.pif_chains_linked.proofs.Standing.{linked, waiting_off, linked_seated, owners_kept}
use Rattle.pif_kernel_model.proofs.SamePlace.{unmoved}
use Rattle.pif_chains_linked.proofs.chains.LinkedChainsChains.set_ticket.Goals as goal

pub set_ticket-requires-clause-holds : goal.set_ticket-requires-clause-holds
set_ticket-requires-clause-holds c = c.self.invariant.stand.owners

pub set_ticket-requires-clause-queued : goal.set_ticket-requires-clause-queued
set_ticket-requires-clause-queued c = subst (λ (x : Chained). IsSome (waits_on x.owners c.args.t)) (sym c.self.view_is) c.requires.queued

pub set_ticket-requires-clause-order : goal.set_ticket-requires-clause-order
set_ticket-requires-clause-order c = subst (λ (x : Chained). KeepsOrder x.owners c.args.t c.args.ticket) (sym c.self.view_is) c.requires.order

pub invariant_of-self : goal.invariant_of-self
invariant_of-self c =
    linked_seated c.self.inside.owners c.self.inside.queue c.self.inside.buckets c.self.inside.table c.self.inside.next
    c.self.invariant c.set_ticket.new.self c.set_ticket.new.table (unmoved _ _ c.set_ticket.ensures.place)
    (ap (λ (x : States). x.places) c.set_ticket.ensures.place) c.set_ticket.ensures.outside c.set_ticket.ensures.holds c.args.t _
    (waiting_off c.self.inside.owners c.self.inside.queue c.self.inside.buckets c.self.inside.table c.self.inside.next c.self.invariant c.args.t
    (subst (λ (x : Chained). IsSome (waits_on x.owners c.args.t)) (sym c.self.view_is) c.requires.queued)) c.set_ticket.ensures.changed

pub returns : goal.returns
returns c = record {
  changed = c.set_ticket.ensures.changed
      ∙ ap (λ (x : Chained). with_ticket c.args.t c.args.ticket x.owners) c.self.view_is;
  kept = subst (λ (x : Chained). KeepsLevels x (linked c.set_ticket.new.self c.self.inside.queue c.self.inside.buckets c.set_ticket.new.table)) c.self.view_is
      (owners_kept c.self.inside.owners c.self.inside.queue c.self.inside.buckets c.self.inside.table c.self.inside.next c.self.invariant
      c.set_ticket.new.self c.set_ticket.new.table (unmoved _ _ c.set_ticket.ensures.place) (ap (λ (x : States). x.places) c.set_ticket.ensures.place)
      c.set_ticket.ensures.outside c.set_ticket.ensures.holds);
}
