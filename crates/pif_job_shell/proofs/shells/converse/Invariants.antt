use Rattle.pif_text_model.specs.Extends.{Stays}
use Rattle.pif_job_shell.specs.Lines.{Reads}
use Rattle.pif_job_shell.proofs.shells.converse.Given as goal

abbrev pub invariant-loop-turn : goal.invariant-loop-turn
invariant-loop-turn g l =
    Reads (g.R.Read.remaining l.fn.reader) (g.R.Read.remaining l.reader)
    × Stays (g.W.Write.contents l.fn.writer) (g.W.Write.contents l.writer)
