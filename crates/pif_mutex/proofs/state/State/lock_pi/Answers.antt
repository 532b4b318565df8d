-- The parts fit together after the call.
use Rattle.pif_mutex.proofs.Assembly.{lock_assembled}
use Rattle.pif_mutex.proofs.state.State.lock_pi.Goals as goal

pub invariant_of-self : goal.invariant_of-self
invariant_of-self g c = record {
  assembled = lock_assembled c.self.invariant.assembled c.args.t c.args.m c.lock_pi.result _ _ c.lock_pi.ensures.words
      c.lock_pi.ensures.after c.lock_pi.ensures.kept;
  lines = c.self.invariant.lines;
  timers = c.self.invariant.timers;
  mutexes = c.self.invariant.mutexes;
  conds = c.self.invariant.conds;
}
