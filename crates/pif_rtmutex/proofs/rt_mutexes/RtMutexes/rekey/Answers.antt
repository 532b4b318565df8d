use Rattle.std.proofs.Common.{sym, refl, subst}
use Rattle.pif_kernel_model.specs.Holds.{IsToppedBut}
use Rattle.pif_rtmutex.proofs.StepLemmas.{done}
use Rattle.pif_rtmutex.proofs.rt_mutexes.RtMutexes.rekey.Goals as goal

pub settle-requires : goal.settle-requires
settle-requires c = record {
  waiters = c.move_waiter.ensures.waiters;
  state = c.state-state.ensures;
  but = subst (IsToppedBut c.args.self.now c.move_waiter.new.table c.args.key c.state-state.result.owner)
      (sym c.first_in-was.ensures) c.move_waiter.ensures.but;
}

pub returns : goal.returns
returns c =
    let end =
    done c.args.self.now c.args.self.now c.args.table.now c.move_waiter.new.table c.args.key c.state-state.result.owner c.args.t _
    c.move_waiter.ensures c.settle.new.table c.settle.ensures.changes c.settle.ensures.tops in
    record { changed = end.view; place = refl; outside = end.outside; nodes = end.nodes; holds = end.holds }
