use Rattle.std.proofs.Common.{◌≡◌, ◌∙◌, ap, sym, refl, subst, ℕ, Some, None, IsSome, arith}
use Rattle.std.proofs.lemmas.Bool.{false≢true}
use Rattle.pif_nodes_model.specs.Table.{NodeLists, holder}
use Rattle.pif_nodes_model.specs.Order.{IsSorted}
use Rattle.pif_kernel_model.specs.States.{States, wait_of}
use Rattle.pif_kernel_model.proofs.ViewLemmas.{waits_on-owners_in}
use Rattle.pif_kernel_model.proofs.WaiterLemmas.{waits-state, waits-thread}
use Rattle.pif_rtmutex.proofs.ReadLemmas.{row-below}
use Rattle.pif_rtmutex.proofs.CallLemmas.{ticket-sorted, ticketed}
use Rattle.pif_rtmutex.proofs.rt_mutexes.RtMutexes.set_ticket.Goals as goal

pub state-state-requires : goal.state-state-requires
state-state-requires c =
    waits-state c.args.self.now c.args.table.now c.args.t c.in-Some.key c.requires.holds.waiters
    (sym c.wait_of.ensures ∙ c.in-Some.is)

pub waiters-requires : goal.waiters-requires
waiters-requires c =
    row-below c.args.self.now c.args.table.now c.in-Some.key c.state-state.result.row c.requires.holds.waiters
    c.state-state.ensures.row

pub set_ticket-requires : goal.set_ticket-requires
set_ticket-requires c =
    let m : States = c.args.self.now in
    let t : NodeLists = c.args.table.now in
    let on : wait_of m c.args.t ≡ Some c.in-Some.key = sym c.wait_of.ensures ∙ c.in-Some.is in
    let row : ℕ = c.state-state.result.row in
    let place = c.state-state.ensures.row in
    let below = row-below m t c.in-Some.key row c.requires.holds.waiters place in
    record {
      node_in = omega (
        arith,
        waits-thread m t c.args.t c.in-Some.key c.requires.holds.waiters on,
        c.wait_node-node.ensures.node,
        c.requires.holds.waiters.nodes,
      );
      held = ap (holder t) c.wait_node-node.ensures.node
          ∙ c.requires.holds.waiters.queued c.args.t c.in-Some.key row on place ∙ ap Some (sym c.waiters.ensures);
      sorted = subst (IsSorted t) (sym c.waiters.ensures) (c.requires.holds.waiters.sorted row below);
      stays_sorted = ticket-sorted m t c.in-Some.key c.args.t row c.args.ticket c.requires.holds.waiters on place below
          c.requires.order c.wait_node-node.result c.waiters.result c.wait_node-node.ensures.node c.waiters.ensures;
    }

pub returns-in-Some : goal.returns-in-Some
returns-in-Some c =
    let m : States = c.args.self.now in
    let t : NodeLists = c.args.table.now in
    let end =
    ticketed m t c.set_ticket.new.table c.in-Some.key c.args.t c.waiters.result c.wait_node-node.result c.state-state.result
    (record {
      holds = c.requires.holds;
      stored = c.state-state.ensures;
      list = c.waiters.ensures;
      node = c.wait_node-node.ensures.node;
      own = c.set_ticket.ensures.sorted;
      others = c.set_ticket.ensures.others;
      apart = c.set_ticket.ensures.apart;
    })
    (waits_on-owners_in m t c.args.t ∙ sym c.wait_of.ensures ∙ c.in-Some.is) c.args.ticket
    c.set_ticket.ensures.ticketed in
    record { changed = end.view; place = refl; outside = end.outside; nodes = end.nodes; holds = end.holds }

pub returns-in_default-clause-changed : goal.returns-in_default-clause-changed
returns-in_default-clause-changed c =
    let none : wait_of c.args.self.now c.args.t ≡ None = sym c.wait_of.ensures ∙ c.in_default.is in
    let some : IsSome {T = ℕ} None =
    subst IsSome (waits_on-owners_in c.args.self.now c.args.table.now c.args.t ∙ none) c.requires.queued in
    absurd (false≢true some)
