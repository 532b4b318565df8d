-- The parts fit together after the call.
use Rattle.pif_kernel_calls.specs.Answers.{unit_answer}
use Rattle.pif_mutex.proofs.Assembly.{set_prio_assembled}
use Rattle.pif_mutex.proofs.state.State.set_prio.Goals as goal

pub invariant_of-self : goal.invariant_of-self
invariant_of-self g c = record {
  assembled = set_prio_assembled c.self.invariant.assembled c.args.t c.args.p (unit_answer c.set_prio.result) _
      c.set_prio.ensures.after c.set_prio.ensures.kept;
  lines = c.self.invariant.lines;
  timers = c.self.invariant.timers;
  mutexes = c.self.invariant.mutexes;
  conds = c.self.invariant.conds;
}
