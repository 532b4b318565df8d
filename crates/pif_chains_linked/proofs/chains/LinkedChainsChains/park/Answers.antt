use Rattle.std.proofs.Common.{◌≡◌, ◌<◌, ◌≤◌, ◌++◌, ℕ, false, [], ◌∷◌, length, Option, None, IfSome, subst, sym, ap, ◌∙◌, arith, rules}
use Rattle.pif_model.specs.PiKernel.{parked_pairs}
use Rattle.pif_kernel_model.specs.Owners.{waits_on}
use Rattle.pif_kernel_model.specs.States.{owners_in}
use Rattle.pif_kernel_model.proofs.ViewLemmas.{length-seats}
use Rattle.pif_kernel_model.specs.Boosts.{local_of}
use Rattle.pif_kernel_model.specs.Chained.{Chained, KeepsLevels}
use Rattle.pif_kernel_model.specs.Tickets.{is_named}
use Rattle.pif_chains_linked.specs.Linked.{IsLinked}
use Rattle.pif_chains_linked.proofs.ParkSteps.{ticket_admitted, ticket_thread, ticket_node, linked_park, park_owners, park_kept}
use Rattle.pif_chains_linked.proofs.Standing.{linked}
use Rattle.pif_chains_linked.proofs.chains.LinkedChainsChains.park.Goals as goal

pub take_ticket-ticket-requires-clause-few : goal.take_ticket-ticket-requires-clause-few
take_ticket-ticket-requires-clause-few c =
    omega (
      arith,
      c.self.invariant.stand.laid.parked,
      c.self.invariant.stand.owners.waiters.sound.most,
      c.self.invariant.stand.owners.waiters.rows,
      length-seats c.self.inside.owners c.self.inside.table,
    )

pub unwrap-prio-requires : goal.unwrap-prio-requires
unwrap-prio-requires c =
    c.local.ensures.given.1 (ticket_admitted c.self.inside.owners c.self.inside.queue c.self.inside.buckets c.self.inside.table c.self.inside.next c.self.invariant c.args.t
    (search rules)
    (subst (λ (x : Chained). c.args.t < length x.owners.seats) (sym c.self.view_is) c.requires.row)
    (subst (λ (x : Chained). waits_on x.owners c.args.t ≡ None) (sym c.self.view_is) c.requires.free)
    (subst (λ (x : Chained). is_named c.args.t (parked_pairs x.parked) ≡ false) (sym c.self.view_is) c.requires.unparked)
    (subst (λ (x : Chained). 1 ≤ local_of x.owners c.args.t) (sym c.self.view_is) c.requires.admitted)
    c.take_ticket-ticket.new.buckets c.take_ticket-ticket.new.table c.take_ticket-ticket.result
    c.take_ticket-ticket.ensures.numbered c.take_ticket-ticket.ensures.order c.take_ticket-ticket.ensures.same
    c.take_ticket-ticket.ensures.words c.take_ticket-ticket.ensures.place c.take_ticket-ticket.ensures.outside
    c.take_ticket-ticket.ensures.holds)

pub park-requires-clause-thread : goal.park-requires-clause-thread
park-requires-clause-thread c =
    ticket_thread c.self.inside.owners c.self.inside.queue c.self.inside.buckets c.self.inside.table c.self.inside.next c.self.invariant c.args.t
    (search rules)
    (subst (λ (x : Chained). c.args.t < length x.owners.seats) (sym c.self.view_is) c.requires.row)
    (subst (λ (x : Chained). waits_on x.owners c.args.t ≡ None) (sym c.self.view_is) c.requires.free)
    (subst (λ (x : Chained). is_named c.args.t (parked_pairs x.parked) ≡ false) (sym c.self.view_is) c.requires.unparked)
    (subst (λ (x : Chained). 1 ≤ local_of x.owners c.args.t) (sym c.self.view_is) c.requires.admitted)
    c.take_ticket-ticket.new.buckets c.take_ticket-ticket.new.table c.take_ticket-ticket.result
    c.take_ticket-ticket.ensures.numbered c.take_ticket-ticket.ensures.order c.take_ticket-ticket.ensures.same
    c.take_ticket-ticket.ensures.words c.take_ticket-ticket.ensures.place c.take_ticket-ticket.ensures.outside
    c.take_ticket-ticket.ensures.holds

pub park-requires-clause-node : goal.park-requires-clause-node
park-requires-clause-node c =
    ticket_node c.self.inside.owners c.self.inside.queue c.self.inside.buckets c.self.inside.table c.self.inside.next c.self.invariant c.args.t
    (search rules)
    (subst (λ (x : Chained). c.args.t < length x.owners.seats) (sym c.self.view_is) c.requires.row)
    (subst (λ (x : Chained). waits_on x.owners c.args.t ≡ None) (sym c.self.view_is) c.requires.free)
    (subst (λ (x : Chained). is_named c.args.t (parked_pairs x.parked) ≡ false) (sym c.self.view_is) c.requires.unparked)
    (subst (λ (x : Chained). 1 ≤ local_of x.owners c.args.t) (sym c.self.view_is) c.requires.admitted)
    c.take_ticket-ticket.new.buckets c.take_ticket-ticket.new.table c.take_ticket-ticket.result
    c.take_ticket-ticket.ensures.numbered c.take_ticket-ticket.ensures.order c.take_ticket-ticket.ensures.same
    c.take_ticket-ticket.ensures.words c.take_ticket-ticket.ensures.place c.take_ticket-ticket.ensures.outside
    c.take_ticket-ticket.ensures.holds

ranked : (c : goal.After-park) → c.unwrap-prio.result ≡ local_of (owners_in c.self.inside.owners c.take_ticket-ticket.new.table) c.args.t
ranked c = (subst (λ (o : Option ℕ). IfSome o (λ p. p ≡ local_of (owners_in c.self.inside.owners c.take_ticket-ticket.new.table) c.args.t)) c.unwrap-prio.ensures c.local.ensures.value)

pub invariant_of-self : goal.invariant_of-self
invariant_of-self c =
    subst (λ (n : ℕ). IsLinked c.self.inside.owners c.self.inside.queue c.park.new.self c.park.new.table n)
    (sym c.take_ticket-ticket.ensures.next)
    (linked_park c.self.inside.owners c.self.inside.queue c.self.inside.buckets c.self.inside.table c.self.inside.next c.self.invariant c.args.t
    (search rules)
    (subst (λ (x : Chained). c.args.t < length x.owners.seats) (sym c.self.view_is) c.requires.row)
    (subst (λ (x : Chained). waits_on x.owners c.args.t ≡ None) (sym c.self.view_is) c.requires.free)
    (subst (λ (x : Chained). is_named c.args.t (parked_pairs x.parked) ≡ false) (sym c.self.view_is) c.requires.unparked)
    (subst (λ (x : Chained). 1 ≤ local_of x.owners c.args.t) (sym c.self.view_is) c.requires.admitted)
    c.take_ticket-ticket.new.buckets c.take_ticket-ticket.new.table c.take_ticket-ticket.result
    c.take_ticket-ticket.ensures.numbered c.take_ticket-ticket.ensures.order c.take_ticket-ticket.ensures.same
    c.take_ticket-ticket.ensures.words c.take_ticket-ticket.ensures.place c.take_ticket-ticket.ensures.outside
    c.take_ticket-ticket.ensures.holds c.args.c c.args.m c.unwrap-prio.result
    (search rules)
    (omega (arith, c.local.ensures.most, ranked c)) (ranked c) c.park.new.self c.park.new.table c.park.ensures.parked
    c.park.ensures.words c.park.ensures.place c.park.ensures.outside c.park.ensures.holds)

pub returns-clause-owners : goal.returns-clause-owners
returns-clause-owners c =
    park_owners c.self.inside.owners c.self.inside.queue c.self.inside.buckets c.self.inside.table c.self.inside.next c.self.invariant c.args.t
    (search rules)
    (subst (λ (x : Chained). c.args.t < length x.owners.seats) (sym c.self.view_is) c.requires.row)
    (subst (λ (x : Chained). waits_on x.owners c.args.t ≡ None) (sym c.self.view_is) c.requires.free)
    (subst (λ (x : Chained). is_named c.args.t (parked_pairs x.parked) ≡ false) (sym c.self.view_is) c.requires.unparked)
    (subst (λ (x : Chained). 1 ≤ local_of x.owners c.args.t) (sym c.self.view_is) c.requires.admitted)
    c.take_ticket-ticket.new.buckets c.take_ticket-ticket.new.table c.take_ticket-ticket.result
    c.take_ticket-ticket.ensures.numbered c.take_ticket-ticket.ensures.order c.take_ticket-ticket.ensures.same
    c.take_ticket-ticket.ensures.words c.take_ticket-ticket.ensures.place c.take_ticket-ticket.ensures.outside
    c.take_ticket-ticket.ensures.holds c.args.c c.args.m c.unwrap-prio.result
    (search rules)
    (omega (arith, c.local.ensures.most, ranked c)) (ranked c) c.park.new.self c.park.new.table c.park.ensures.parked
    c.park.ensures.words c.park.ensures.place c.park.ensures.outside c.park.ensures.holds
    ∙ ap (λ (x : Chained). x.owners) c.self.view_is

pub returns-clause-kept : goal.returns-clause-kept
returns-clause-kept c =
    subst (λ (x : Chained). KeepsLevels (record x { parked = x.parked ++ record { thread = c.args.t; cond = c.args.c; target = c.args.m } ∷ [] })
    (linked c.self.inside.owners c.self.inside.queue c.park.new.self c.park.new.table)) c.self.view_is
    (park_kept c.self.inside.owners c.self.inside.queue c.self.inside.buckets c.self.inside.table c.self.inside.next c.self.invariant c.args.t
    (search rules)
    (subst (λ (x : Chained). c.args.t < length x.owners.seats) (sym c.self.view_is) c.requires.row)
    (subst (λ (x : Chained). waits_on x.owners c.args.t ≡ None) (sym c.self.view_is) c.requires.free)
    (subst (λ (x : Chained). is_named c.args.t (parked_pairs x.parked) ≡ false) (sym c.self.view_is) c.requires.unparked)
    (subst (λ (x : Chained). 1 ≤ local_of x.owners c.args.t) (sym c.self.view_is) c.requires.admitted)
    c.take_ticket-ticket.new.buckets c.take_ticket-ticket.new.table c.take_ticket-ticket.result
    c.take_ticket-ticket.ensures.numbered c.take_ticket-ticket.ensures.order c.take_ticket-ticket.ensures.same
    c.take_ticket-ticket.ensures.words c.take_ticket-ticket.ensures.place c.take_ticket-ticket.ensures.outside
    c.take_ticket-ticket.ensures.holds c.args.c c.args.m c.unwrap-prio.result
    (search rules)
    (omega (arith, c.local.ensures.most, ranked c)) (ranked c) c.park.new.self c.park.new.table c.park.ensures.parked
    c.park.ensures.words c.park.ensures.place c.park.ensures.outside c.park.ensures.holds)
