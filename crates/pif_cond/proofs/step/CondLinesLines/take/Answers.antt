-- The next step of a thread may be taken.
use Rattle.pif_model_simulation.proofs.events.Stepping.{may_step}
use Rattle.pif_cond.proofs.Stepping.{belongs_here, below_limit}
use Rattle.pif_cond.proofs.step.CondLinesLines.take.Goals as goal

pub go-requires-clause-call : goal.go-requires-clause-call
go-requires-clause-call g c =
    may_step c.args.state.now c.args.t c.args.request c.args.place c.requires.sound c.requires.living c.requires.line

pub go-requires-clause-belongs : goal.go-requires-clause-belongs
go-requires-clause-belongs g c =
    belongs_here c.args.state.now c.args.t c.args.request c.args.place c.requires.sound c.requires.living c.requires.line

pub go-requires-clause-below : goal.go-requires-clause-below
go-requires-clause-below g c =
    below_limit c.args.state.now c.args.t c.args.request c.args.place c.requires.sound c.requires.living c.requires.line
