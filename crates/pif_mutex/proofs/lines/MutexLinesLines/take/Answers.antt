-- The next step of a thread may be taken.
use Rattle.pif_model_simulation.proofs.events.Stepping.{may_step}
use Rattle.pif_mutex.proofs.lines.MutexLinesLines.take.Goals as goal

pub go-requires-clause-call : goal.go-requires-clause-call
go-requires-clause-call g c =
    may_step c.args.state.now c.args.t c.args.request c.args.place c.requires.sound c.requires.living c.requires.line
