use Rattle.std.proofs.Common.{sym, refl, subst}
use Rattle.pif_nodes_model.specs.Table.{NodeLists}
use Rattle.pif_kernel_model.specs.States.{States}
use Rattle.pif_kernel_model.specs.Holds.{IsToppedBut}
use Rattle.pif_rtmutex.specs.Fields.{State}
use Rattle.pif_rtmutex.proofs.StepLemmas.{done, rows_only, still_stored}
use Rattle.pif_rtmutex.proofs.rt_mutexes.RtMutexes.enqueue.Goals as goal

pub settle-requires : goal.settle-requires
settle-requires c =
    let m : States = c.args.self.now in
    let n : States = c.put_waiter.new.self in
    let t : NodeLists = c.args.table.now in
    let now : NodeLists = c.put_waiter.new.table in
    let s : State = c.state-state.result in
    record {
      waiters = c.put_waiter.ensures.waiters;
      state = still_stored m n t now c.args.key s.owner c.args.t _ c.put_waiter.ensures refl s c.state-state.ensures;
      but = subst (IsToppedBut n now c.args.key s.owner) (sym c.first_in-was.ensures) c.put_waiter.ensures.but;
    }

pub returns : goal.returns
returns c =
    let m : States = c.args.self.now in
    let n : States = c.put_waiter.new.self in
    let t : NodeLists = c.args.table.now in
    let now : NodeLists = c.put_waiter.new.table in
    let end =
    done m n t now c.args.key c.state-state.result.owner c.args.t _ c.put_waiter.ensures c.settle.new.table
    c.settle.ensures.changes c.settle.ensures.tops in
    record {
      queued = end.view;
      place = rows_only m n t now c.args.key c.state-state.result.owner c.args.t _ c.put_waiter.ensures refl;
      outside = end.outside;
      nodes = end.nodes;
      holds = end.holds;
    }
