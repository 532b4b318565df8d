-- The parts fit together after the call.
use Rattle.pif_mutex.proofs.Assembly.{requeue_assembled}
use Rattle.pif_mutex.proofs.state.State.cmp_requeue_pi.Goals as goal

pub invariant_of-self : goal.invariant_of-self
invariant_of-self g c = record {
  assembled = requeue_assembled c.self.invariant.assembled c.args.c c.args.m c.args.more c.cmp_requeue_pi.result _ _
      c.cmp_requeue_pi.ensures.words c.cmp_requeue_pi.ensures.after c.cmp_requeue_pi.ensures.kept;
  lines = c.self.invariant.lines;
  timers = c.self.invariant.timers;
  mutexes = c.self.invariant.mutexes;
  conds = c.self.invariant.conds;
}
