-- The parts fit together after the call.
use Rattle.pif_kernel_calls.specs.Answers.{unit_answer}
use Rattle.pif_mutex.proofs.Assembly.{try_lock_assembled}
use Rattle.pif_mutex.proofs.state.State.trylock_pi.Goals as goal

pub invariant_of-self : goal.invariant_of-self
invariant_of-self g c = record {
  assembled = try_lock_assembled c.self.invariant.assembled c.args.t c.args.m (unit_answer c.trylock_pi.result) _
      c.trylock_pi.ensures.words;
  lines = c.self.invariant.lines;
  timers = c.self.invariant.timers;
  mutexes = c.self.invariant.mutexes;
  conds = c.self.invariant.conds;
}
