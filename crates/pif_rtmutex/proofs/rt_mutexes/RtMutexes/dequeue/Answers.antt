use Rattle.std.proofs.Common.{◌∙◌, sym, refl, subst}
use Rattle.pif_nodes_model.specs.Table.{NodeLists}
use Rattle.pif_kernel_model.specs.States.{States}
use Rattle.pif_kernel_model.specs.Holds.{IsToppedBut}
use Rattle.pif_kernel_model.proofs.ViewLemmas.{waits_on-owners_in}
use Rattle.pif_kernel_model.proofs.WaiterLemmas.{waits-thread}
use Rattle.pif_rtmutex.specs.Fields.{State}
use Rattle.pif_rtmutex.proofs.StepLemmas.{done, rows_only, still_free, still_stored}
use Rattle.pif_rtmutex.proofs.rt_mutexes.RtMutexes.dequeue.Goals as goal

pub settle-requires : goal.settle-requires
settle-requires c =
    let m : States = c.args.self.now in
    let n : States = c.take_waiter.new.self in
    let t : NodeLists = c.args.table.now in
    let now : NodeLists = c.take_waiter.new.table in
    let s : State = c.state-state.result in
    record {
      waiters = c.take_waiter.ensures.step.waiters;
      state = still_stored m n t now c.args.key s.owner c.args.t _ c.take_waiter.ensures.step refl s c.state-state.ensures;
      but = subst (IsToppedBut n now c.args.key s.owner) (sym c.first_in-was.ensures) c.take_waiter.ensures.step.but;
    }

pub returns : goal.returns
returns c =
    let m : States = c.args.self.now in
    let n : States = c.take_waiter.new.self in
    let t : NodeLists = c.args.table.now in
    let now : NodeLists = c.take_waiter.new.table in
    let o = c.state-state.result.owner in
    let last : NodeLists = c.settle.new.table in
    let end =
    done m n t now c.args.key o c.args.t _ c.take_waiter.ensures.step last c.settle.ensures.changes
    c.settle.ensures.tops in
    record {
      free = end.view;
      place = rows_only m n t now c.args.key o c.args.t _ c.take_waiter.ensures.step refl;
      outside = end.outside;
      node = still_free m n t now c.args.key o c.args.t _ c.take_waiter.ensures.step last c.settle.ensures.changes
          (waits-thread m t c.args.t c.args.key c.requires.holds.waiters (sym (waits_on-owners_in m t c.args.t)
          ∙ c.requires.queued))
          c.take_waiter.ensures.node;
      nodes = end.nodes;
      holds = end.holds;
    }
