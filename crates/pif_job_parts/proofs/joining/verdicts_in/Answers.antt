use Rattle.std.proofs.Common.{subst}
use Rattle.std.proofs.lemmas.List.{take_all}
use Rattle.pif_parts.specs.declared.parts.Span.{Span}
use Rattle.pif_job_parts.specs.Told.{AreTold}
use Rattle.pif_job_parts.proofs.ToldLemmas.{told_more}
use Rattle.pif_job_parts.proofs.joining.verdicts_in.Goals as goal

-- past the end of the parts
abbrev no_span : Span
no_span = record { first = 0; count = 0; before = 0 }

pub loop-number-preserved : goal.loop-number-preserved
loop-number-preserved c =
    told_more c.args.text.now c.args.spans.now c.loop-number.number no_span c.loop-number-test.true _ _ _
    c.loop-number.invariant c.in_ok-verdict.ensures c.in_ok-push.ensures

pub returns : goal.returns
returns c =
    subst (λ ss. AreTold c.args.text.now 0 ss c.loop-number.verdicts.items)
    (take_all c.loop-number.number c.args.spans.now c.loop-number-test.false) c.loop-number.invariant
