-- The parts fit together after the call.
use Rattle.pif_kernel_calls.specs.Answers.{unit_answer}
use Rattle.pif_mutex.proofs.Assembly.{unlock_assembled}
use Rattle.pif_mutex.proofs.state.State.unlock_pi.Goals as goal

pub invariant_of-self : goal.invariant_of-self
invariant_of-self g c = record {
  assembled = unlock_assembled c.self.invariant.assembled c.args.m (unit_answer c.unlock_pi.result) _ _
      c.unlock_pi.ensures.words c.unlock_pi.ensures.after c.unlock_pi.ensures.kept;
  lines = c.self.invariant.lines;
  timers = c.self.invariant.timers;
  mutexes = c.self.invariant.mutexes;
  conds = c.self.invariant.conds;
}
