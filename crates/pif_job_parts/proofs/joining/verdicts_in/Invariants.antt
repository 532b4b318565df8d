use Rattle.std.proofs.Common.{take}
use Rattle.pif_job_parts.specs.Told.{AreTold}
use Rattle.pif_job_parts.proofs.joining.verdicts_in.Given as goal

abbrev pub invariant-loop-number : goal.invariant-loop-number
invariant-loop-number l = AreTold l.text 0 (take l.number l.spans) l.verdicts.items
