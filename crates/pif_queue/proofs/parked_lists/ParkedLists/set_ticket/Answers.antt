use Rattle.std.proofs.Common.{◌≡◌, ◌∙◌, ℕ, Some, ap, sym, subst}
use Rattle.pif_nodes_model.specs.Table.{NodeLists, with_key}
use Rattle.pif_nodes_model.specs.Order.{IsSorted, OthersStaySorted, key_with_ticket}
use Rattle.pif_kernel_model.specs.Parked.{Place, place_at, IsCond, parking_node}
use Rattle.pif_queue.proofs.ParkedCalls.{IsCall, ticket-seen, ticket-holds, ticket-sorted}
use Rattle.pif_queue.proofs.parked_lists.ParkedLists.set_ticket.Goals as goal

pub list-requires : goal.list-requires
list-requires c =
    let at : place_at c.args.self.now c.args.t ≡ Some c.in-Some.place = sym c.place.ensures ∙ c.in-Some.is in
    subst (IsCond c.args.self.now) (ap (λ (z : Place). z.cond) (sym c.place-in-Some.view_is))
    (c.requires.holds.stand.parked c.args.t c.in-Some.place at).is_cond

pub set_ticket-requires-clause-sorted : goal.set_ticket-requires-clause-sorted
set_ticket-requires-clause-sorted c =
    let at : place_at c.args.self.now c.args.t ≡ Some c.in-Some.place = sym c.place.ensures ∙ c.in-Some.is in
    subst (IsSorted c.args.table.now) (sym c.list.ensures)
    (c.requires.holds.stand.sorted c.place-in-Some.inside.cond
    (subst (IsCond c.args.self.now) (ap (λ (z : Place). z.cond) (sym c.place-in-Some.view_is))
    (c.requires.holds.stand.parked c.args.t c.in-Some.place at).is_cond))

pub set_ticket-requires-clause-stays_sorted : goal.set_ticket-requires-clause-stays_sorted
set_ticket-requires-clause-stays_sorted c =
    let t : NodeLists = c.args.table.now in
    let at : place_at c.args.self.now c.args.t ≡ Some c.in-Some.place = sym c.place.ensures ∙ c.in-Some.is in
    subst (λ (x : ℕ × ℕ). IsSorted (with_key t x.0 (key_with_ticket t x.0 c.args.ticket)) x.1)
    (λ i. (sym c.node-node.ensures i, sym c.list.ensures i))
    (ticket-sorted c.args.self.now t c.place-in-Some.inside.cond c.args.t c.args.ticket c.in-Some.place
    c.requires.holds.stand at (ap (λ (z : Place). z.cond) (sym c.place-in-Some.view_is)) c.requires.order)

-- the call, by the names of the definitions
called : (c : goal.After-set_ticket)
    → IsCall c.args.self.now c.args.table.now c.set_ticket.new.table c.place-in-Some.inside.cond c.args.t
called c =
    let at : place_at c.args.self.now c.args.t ≡ Some c.in-Some.place = sym c.place.ensures ∙ c.in-Some.is in
    let stands = c.requires.holds.stand.parked c.args.t c.in-Some.place at in
    record {
      holds = c.requires.holds;
      thread = stands.is_thread;
      cond = subst (IsCond c.args.self.now) (ap (λ (z : Place). z.cond) (sym c.place-in-Some.view_is)) stands.is_cond;
      own = subst (IsSorted c.set_ticket.new.table) c.list.ensures c.set_ticket.ensures.sorted;
      others = subst (OthersStaySorted c.args.table.now c.set_ticket.new.table) c.list.ensures c.set_ticket.ensures.others;
      apart = c.set_ticket.ensures.apart;
    }

renamed : (c : goal.After-set_ticket)
    → c.set_ticket.new.table
    ≡ with_key c.args.table.now (parking_node c.args.self.now c.args.t)
    (key_with_ticket c.args.table.now (parking_node c.args.self.now c.args.t) c.args.ticket)
renamed c =
    c.set_ticket.ensures.ticketed
    ∙ (λ i. with_key c.args.table.now (c.node-node.ensures i)
    (key_with_ticket c.args.table.now (c.node-node.ensures i) c.args.ticket))

pub returns-in-Some-clause-changed : goal.returns-in-Some-clause-changed
returns-in-Some-clause-changed c =
    ticket-seen c.args.self.now c.args.table.now c.set_ticket.new.table c.place-in-Some.inside.cond c.args.t (called c)
    c.in-Some.place (sym c.place.ensures ∙ c.in-Some.is) (ap (λ (z : Place). z.cond) (sym c.place-in-Some.view_is))
    c.args.ticket (renamed c)

pub returns-in-Some-clause-holds : goal.returns-in-Some-clause-holds
returns-in-Some-clause-holds c =
    ticket-holds c.args.self.now c.args.table.now c.set_ticket.new.table c.place-in-Some.inside.cond c.args.t (called c)
    c.in-Some.place (sym c.place.ensures ∙ c.in-Some.is) (ap (λ (z : Place). z.cond) (sym c.place-in-Some.view_is))
    c.args.ticket (renamed c)
