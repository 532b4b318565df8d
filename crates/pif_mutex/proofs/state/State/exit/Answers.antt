-- The parts fit together after the end.
use Rattle.pif_model.specs.RobustList.{robust_at, walk_of}
use Rattle.pif_mutex.proofs.Assembly.{exit_assembled}
use Rattle.pif_mutex.proofs.state.State.exit.Goals as goal

pub invariant_of-self : goal.invariant_of-self
invariant_of-self g c = record {
  assembled = exit_assembled c.self.invariant.assembled c.args.t
      (walk_of (robust_at c.self.inside.lists c.args.t)) _ _ _
      c.exit.ensures.words c.exit.ensures.after c.exit.ensures.lists c.exit.ensures.kept;
  lines = c.self.invariant.lines;
  timers = c.self.invariant.timers;
  mutexes = c.self.invariant.mutexes;
  conds = c.self.invariant.conds;
}
