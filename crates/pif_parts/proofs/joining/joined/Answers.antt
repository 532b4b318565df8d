use Rattle.std.proofs.Common.{get_or}
use Rattle.std.proofs.lemmas.List.{drop_more}
use Rattle.pif_parts.specs.declared.parts.Span.{Span}
use Rattle.pif_parts.specs.declared.joining.PartVerdict.TheVariants as part
use Rattle.pif_parts.proofs.PartLemmas.{joined_first, joined_illegal, joined_more}
use Rattle.pif_parts.proofs.joining.joined.Goals as goal

-- past the end of the parts
abbrev no_span : Span
no_span = record { first = 0; count = 0; before = 0 }

pub loop-number-init : goal.loop-number-init
loop-number-init c = λ limits lines parts p s v. joined_first limits lines parts c.args.verdicts.now p v

pub returns-in-Illegal : goal.returns-in-Illegal
returns-in-Illegal c = λ limits lines parts p s v.
    joined_illegal limits lines parts c.args.verdicts.now c.args.spans.now s c.loop-number.number
    (c.loop-number.invariant limits lines parts p s v)
    (get_or c.args.spans.now c.loop-number.number no_span) (get_or c.args.verdicts.now c.loop-number.number part.Legal)
    (drop_more c.args.spans.now c.loop-number.number no_span c.loop-number-test.true)
    (drop_more c.args.verdicts.now c.loop-number.number part.Legal c.if-number-verdicts.false) c.in-Illegal.line c.illegal_in.result
    c.in-Illegal.is c.illegal_in.ensures

pub loop-number-preserved : goal.loop-number-preserved
loop-number-preserved c = λ limits lines parts p s v.
    joined_more limits lines parts c.args.verdicts.now c.args.spans.now s c.loop-number.number
    (c.loop-number.invariant limits lines parts p s v)
    (get_or c.args.spans.now c.loop-number.number no_span) (get_or c.args.verdicts.now c.loop-number.number part.Legal)
    (drop_more c.args.spans.now c.loop-number.number no_span c.loop-number-test.true)
    (drop_more c.args.verdicts.now c.loop-number.number part.Legal c.if-number-verdicts.false) c.in-Legal.is
