-- The parts fit together after the call.
use Rattle.pif_mutex.proofs.Assembly.{stop_assembled}
use Rattle.pif_mutex.proofs.state.State.stop.Goals as goal

pub invariant_of-self : goal.invariant_of-self
invariant_of-self g c = record {
  assembled = stop_assembled c.self.invariant.assembled c.args.t _ c.stop.ensures.after c.stop.ensures.kept;
  lines = c.self.invariant.lines;
  timers = c.self.invariant.timers;
  mutexes = c.self.invariant.mutexes;
  conds = c.self.invariant.conds;
}
