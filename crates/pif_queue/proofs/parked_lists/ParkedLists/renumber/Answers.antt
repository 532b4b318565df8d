use Rattle.std.proofs.Common.{◌≡◌, ◌+◌, ◌-◌, ◌<◌, Some, None, refl, sym, ap, subst, ◌∙◌, arith}
use Rattle.pif_nodes_model.specs.Table.{NodeLists, holder}
use Rattle.pif_kernel_model.specs.QueueFrames.{KeepsOthers}
use Rattle.pif_kernel_model.specs.Parked.{ParkedLists, IsThread, parking_node, parked_at, StandParked}
use Rattle.pif_kernel_model.specs.Tickets.{HasFirstTicketFrom}
use Rattle.pif_queue.specs.Numbered.{ticket_by}
use Rattle.pif_queue.proofs.Numbering.{IsNumbering, numbering-start, numbering-more, numbering-ends, numbering-keeps, nodes-stay, others-same, others-then, parked-known}
use Rattle.pif_queue.proofs.parked_lists.ParkedLists.renumber.Goals as goal

pub loop-t-init : goal.loop-t-init
loop-t-init c =
    let p : ParkedLists = c.args.self.now in
    let t : NodeLists = c.args.table.now in
    record {
      same = refl;
      numbering = numbering-start (parked_at p t) p.threads c.requires.tickets;
      outside = others-same p.first_list p.conds p.first_node p.threads t;
      nodes = λ u is. refl;
      holds = c.requires.holds;
    }

-- who is the first of those that are left, by the value at the start
first_is : (c : goal.After-set_ticket) → HasFirstTicketFrom (ticket_by (parked_at c.loop-t.self c.loop-t.table)) c.loop-t.ticket
    (c.args.self.now.threads + 1) (Some c.in-Some.t)
first_is c =
    subst (λ (p : ParkedLists). HasFirstTicketFrom (ticket_by (parked_at c.loop-t.self c.loop-t.table)) c.loop-t.ticket (p.threads + 1)
    (Some c.in-Some.t)) c.loop-t.invariant.same c.in-Some.ensures

pub set_ticket-requires-clause-order : goal.set_ticket-requires-clause-order
set_ticket-requires-clause-order c =
    numbering-keeps c.loop-t.self c.loop-t.table (parked_at c.args.self.now c.args.table.now) c.args.self.now.threads
    c.loop-t.ticket c.in-Some.t c.requires.tickets
    (parked-known c.args.self.now c.args.table.now c.requires.holds.stand) c.loop-t.invariant.numbering
    (subst (λ (p : ParkedLists). HasFirstTicketFrom (ticket_by (parked_at c.loop-t.self c.loop-t.table)) c.loop-t.ticket
    (p.threads + 1) (Some c.in-Some.t)) c.loop-t.invariant.same c.in-Some.ensures)

-- one more has its number
more : (c : goal.After-set_ticket) → IsNumbering (parked_at c.args.self.now c.args.table.now)
    (parked_at c.set_ticket.new.self c.set_ticket.new.table) c.args.self.now.threads (c.loop-t.ticket + 1)
more c =
    numbering-more (parked_at c.args.self.now c.args.table.now) (parked_at c.loop-t.self c.loop-t.table)
    c.args.self.now.threads c.loop-t.ticket c.requires.tickets
    (parked-known c.args.self.now c.args.table.now c.requires.holds.stand) c.loop-t.invariant.numbering c.in-Some.t
    (first_is c) (parked_at c.set_ticket.new.self c.set_ticket.new.table) c.set_ticket.ensures.changed

-- the same lists stand in the new table
stand : (c : goal.After-set_ticket) → StandParked c.loop-t.self c.set_ticket.new.table
stand c =
    subst (λ (q : ParkedLists). StandParked q c.set_ticket.new.table) c.set_ticket.ensures.place
    c.set_ticket.ensures.holds.stand

pub overflow_add-ticket : goal.overflow_add-ticket
overflow_add-ticket c =
    let threads : c.self.inside.threads ≡ c.args.self.now.threads = ap (λ (p : ParkedLists). p.threads) c.self.view_is in
    omega (arith, c.loop-t.invariant.numbering.few, threads, c.self.invariant.most)

pub loop-t-smaller : goal.loop-t-smaller
loop-t-smaller c =
    let less : c.args.self.now.threads + 1 - (c.loop-t.ticket + 1) < c.args.self.now.threads + 1 - c.loop-t.ticket
    = omega (arith, (more c).few) in
    less

pub loop-t-preserved : goal.loop-t-preserved
loop-t-preserved c =
    let p : ParkedLists = c.args.self.now in
    let t : NodeLists = c.args.table.now in
    let same : c.loop-t.self ≡ p = c.loop-t.invariant.same in
    record {
      same = c.set_ticket.ensures.place ∙ same;
      numbering = more c;
      outside = others-then p.first_list p.conds p.first_node p.threads t c.loop-t.table c.set_ticket.new.table
          c.loop-t.invariant.outside
          (subst (λ (q : ParkedLists). KeepsOthers q.first_list q.conds q.first_node q.threads c.loop-t.table c.set_ticket.new.table)
          same c.set_ticket.ensures.outside);
      nodes = λ u is. subst (λ (q : ParkedLists). holder c.set_ticket.new.table (parking_node q u) ≡ holder c.loop-t.table (parking_node q u))
          same (nodes-stay c.loop-t.self c.loop-t.table c.set_ticket.new.table (parked_at p t) p.threads c.loop-t.ticket
          c.in-Some.t c.loop-t.invariant.holds.stand (stand c) c.loop-t.invariant.numbering (first_is c)
          c.set_ticket.ensures.nodes u (subst (λ (q : ParkedLists). IsThread q u) (sym same) is))
          ∙ c.loop-t.invariant.nodes u is;
      holds = c.set_ticket.ensures.holds;
    }

pub returns-clause-numbered : goal.returns-clause-numbered
returns-clause-numbered c =
    numbering-ends (parked_at c.args.self.now c.args.table.now) (parked_at c.loop-t.self c.loop-t.table)
    c.args.self.now.threads c.loop-t.ticket c.requires.tickets
    (parked-known c.args.self.now c.args.table.now c.requires.holds.stand) c.loop-t.invariant.numbering
    (subst (λ (p : ParkedLists). HasFirstTicketFrom (ticket_by (parked_at c.loop-t.self c.loop-t.table)) c.loop-t.ticket (p.threads + 1)
    None) c.loop-t.invariant.same c.in_default.ensures)
