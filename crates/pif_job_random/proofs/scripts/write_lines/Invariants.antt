use Rattle.pif_job_random.proofs.LineLemmas.{Written}
use Rattle.pif_job_random.proofs.scripts.write_lines.Given as goal

abbrev pub invariant-loop-line : goal.invariant-loop-line
invariant-loop-line g l = Written l.line (g.W.Write.contents l.initial.output) (g.W.Write.contents l.output)
