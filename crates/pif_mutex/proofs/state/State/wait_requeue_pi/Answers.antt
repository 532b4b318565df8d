-- The parts fit together after the call.
use Rattle.pif_kernel_calls.specs.Answers.{unit_answer}
use Rattle.pif_mutex.proofs.Assembly.{wait_requeue_assembled}
use Rattle.pif_mutex.proofs.state.State.wait_requeue_pi.Goals as goal

pub invariant_of-self : goal.invariant_of-self
invariant_of-self g c = record {
  assembled = wait_requeue_assembled c.self.invariant.assembled c.args.t c.args.c c.args.m
      (unit_answer c.wait_requeue_pi.result) _ c.wait_requeue_pi.ensures.after c.wait_requeue_pi.ensures.kept;
  lines = c.self.invariant.lines;
  timers = c.self.invariant.timers;
  mutexes = c.self.invariant.mutexes;
  conds = c.self.invariant.conds;
}
