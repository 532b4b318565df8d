use Rattle.std.proofs.Common.{false, ◌≡◌, ◌<◌, ℕ, IsSome, Some, None, length, subst, sym, ap, ◌∙◌, arith, rules}
use Rattle.pif_model.specs.Graph.{Reaches}
use Rattle.pif_kernel_model.specs.Owners.{owner_at, waits_on, WaitsFor, with_wait}
use Rattle.pif_kernel_model.specs.States.{owners_in}
use Rattle.pif_kernel_model.proofs.ViewLemmas.{length-seats, waits_on-owners_in}
use Rattle.pif_kernel_model.specs.Chained.{Chained, KeepsLevels}
use Rattle.pif_kernel_model.specs.States.{States}
use Rattle.pif_model.specs.PiKernel.{parked_pairs}
use Rattle.pif_kernel_model.specs.Tickets.{is_named}
use Rattle.pif_chains_linked.proofs.Standing.{linked, idle_node, unparked, linked_seated, owners_kept}
use Rattle.pif_kernel_model.proofs.SamePlace.{same_place}
use Rattle.pif_chains_linked.proofs.chains.LinkedChainsChains.enqueue.Goals as goal

pub enqueue-requires-clause-holds : goal.enqueue-requires-clause-holds
enqueue-requires-clause-holds c = c.self.invariant.stand.owners

pub enqueue-requires-clause-node : goal.enqueue-requires-clause-node
enqueue-requires-clause-node c =
    let free : waits_on (owners_in c.self.inside.owners c.self.inside.table) c.args.t ≡ None =
    subst (λ (x : Chained). waits_on x.owners c.args.t ≡ None) (sym c.self.view_is) c.requires.free in
    let row : c.args.t < length (owners_in c.self.inside.owners c.self.inside.table).seats =
    subst (λ (x : Chained). c.args.t < length x.owners.seats) (sym c.self.view_is) c.requires.row in
    idle_node c.self.inside.owners c.self.inside.queue c.self.inside.buckets c.self.inside.table c.self.invariant.stand c.args.t (
      search rules,
      omega (
        arith,
        row,
        length-seats c.self.inside.owners c.self.inside.table,
        c.self.invariant.stand.owners.waiters.rows,
      ),
    )
    (sym (waits_on-owners_in c.self.inside.owners c.self.inside.table c.args.t) ∙ free)
    (unparked c.self.inside.owners c.self.inside.queue c.self.inside.buckets c.self.inside.table c.self.inside.next c.self.invariant c.args.t
    (subst (λ (x : Chained). is_named c.args.t (parked_pairs x.parked) ≡ false) (sym c.self.view_is) c.requires.unparked))

pub enqueue-requires-clause-state : goal.enqueue-requires-clause-state
enqueue-requires-clause-state c = subst (λ (x : Chained). IsSome (owner_at x.owners c.args.key)) (sym c.self.view_is) c.requires.state

pub enqueue-requires-clause-row : goal.enqueue-requires-clause-row
enqueue-requires-clause-row c = subst (λ (x : Chained). c.args.t < length x.owners.seats) (sym c.self.view_is) c.requires.row

pub enqueue-requires-clause-free : goal.enqueue-requires-clause-free
enqueue-requires-clause-free c = subst (λ (x : Chained). waits_on x.owners c.args.t ≡ None) (sym c.self.view_is) c.requires.free

pub enqueue-requires-clause-no_cycle : goal.enqueue-requires-clause-no_cycle
enqueue-requires-clause-no_cycle c = subst (λ (x : Chained). (n : ℕ) → owner_at x.owners c.args.key ≡ Some n → Reaches (WaitsFor x.owners) n c.args.t → ⊥) (sym c.self.view_is) c.requires.no_cycle

pub invariant_of-self : goal.invariant_of-self
invariant_of-self c =
    linked_seated c.self.inside.owners c.self.inside.queue c.self.inside.buckets c.self.inside.table c.self.inside.next
    c.self.invariant c.enqueue.new.self c.enqueue.new.table (same_place _ _ c.enqueue.ensures.place)
    (ap (λ (x : States). x.places) c.enqueue.ensures.place) c.enqueue.ensures.outside c.enqueue.ensures.holds c.args.t _
    (unparked c.self.inside.owners c.self.inside.queue c.self.inside.buckets c.self.inside.table c.self.inside.next c.self.invariant c.args.t
    (subst (λ (x : Chained). is_named c.args.t (parked_pairs x.parked) ≡ false) (sym c.self.view_is) c.requires.unparked)) c.enqueue.ensures.queued

pub returns : goal.returns
returns c = record {
  queued = c.enqueue.ensures.queued
      ∙ ap (λ (x : Chained). with_wait c.args.t
      (Some (record { state = c.args.key; rank = record { prio = c.args.prio; ticket = c.args.ticket } })) x.owners) c.self.view_is;
  kept = subst (λ (x : Chained). KeepsLevels x (linked c.enqueue.new.self c.self.inside.queue c.self.inside.buckets c.enqueue.new.table)) c.self.view_is
      (owners_kept c.self.inside.owners c.self.inside.queue c.self.inside.buckets c.self.inside.table c.self.inside.next c.self.invariant
      c.enqueue.new.self c.enqueue.new.table (same_place _ _ c.enqueue.ensures.place) (ap (λ (x : States). x.places) c.enqueue.ensures.place)
      c.enqueue.ensures.outside c.enqueue.ensures.holds);
}
