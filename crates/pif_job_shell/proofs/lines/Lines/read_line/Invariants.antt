use Rattle.pif_job_shell.specs.Lines.{Reads}
use Rattle.pif_job_shell.proofs.lines.Lines.read_line.Given as goal

abbrev pub invariant-loop-turn : goal.invariant-loop-turn
invariant-loop-turn g l = Reads (g.R.Read.remaining l.initial.reader) (g.R.Read.remaining l.reader)
