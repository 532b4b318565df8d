use Rattle.std.proofs.Common.{◌∙◌, ap, sym, subst, Some, None}
use Rattle.pif_nodes_model.specs.Table.{NodeLists, holder}
use Rattle.pif_kernel_model.specs.Owners.{with_wait}
use Rattle.pif_kernel_model.specs.States.{States, owners_in}
use Rattle.pif_kernel_model.proofs.ViewLemmas.{waits_on-owners_in}
use Rattle.pif_kernel_model.proofs.WaiterLemmas.{waits-thread}
use Rattle.pif_kernel_model.proofs.ListChanges.{in-no_list}
use Rattle.pif_rtmutex.specs.Steps.{IsStep}
use Rattle.pif_rtmutex.proofs.ReadLemmas.{row-below}
use Rattle.pif_rtmutex.proofs.CallLemmas.{dequeued}
use Rattle.pif_rtmutex.proofs.rt_mutexes.RtMutexes.take_waiter.Goals as goal

pub wait_node-node-requires : goal.wait_node-node-requires
wait_node-node-requires c =
    (waits-thread c.args.self.now c.args.table.now c.args.t c.args.key c.requires.holds.waiters
    (sym (waits_on-owners_in c.args.self.now c.args.table.now c.args.t) ∙ c.requires.queued)).1

pub waiters-requires : goal.waiters-requires
waiters-requires c =
    row-below c.args.self.now c.args.table.now c.args.key c.args.state.row c.requires.holds.waiters c.requires.state.row

pub remove-requires-clause-held : goal.remove-requires-clause-held
remove-requires-clause-held c =
    ap (holder c.args.table.now) c.wait_node-node.ensures.node
    ∙ c.requires.holds.waiters.queued c.args.t c.args.key c.args.state.row
    (sym (waits_on-owners_in c.args.self.now c.args.table.now c.args.t) ∙ c.requires.queued) c.requires.state.row
    ∙ ap Some (sym c.waiters.ensures)

pub returns : goal.returns
returns c =
    let m : States = c.args.self.now in
    let t : NodeLists = c.args.table.now in
    let now : NodeLists = c.remove.new.table in
    record {
      node = ap (holder now) (sym c.wait_node-node.ensures.node)
          ∙ in-no_list t now c.wait_node-node.result c.remove.ensures.holders;
      step = subst (λ (n : States). IsStep m n t now c.args.key c.args.state.owner c.args.t
          (with_wait c.args.t None (owners_in m t))) (sym c.set_wait.ensures)
          (dequeued m t now c.args.key c.args.t c.waiters.result c.wait_node-node.result c.args.state
          (record {
            holds = c.requires.holds;
            stored = c.requires.state;
            list = c.waiters.ensures;
            node = c.wait_node-node.ensures.node;
            own = c.remove.ensures.sorted;
            others = c.remove.ensures.others;
            apart = c.remove.ensures.apart;
          })
          c.requires.queued c.remove.ensures.taken c.remove.ensures.holders);
    }
