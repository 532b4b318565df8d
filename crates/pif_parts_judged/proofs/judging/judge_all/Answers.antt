use Rattle.std.proofs.Common.{◌∙◌, List, ap, map, subst, sym}
use Rattle.std.proofs.lemmas.List.{take_all}
use Rattle.pif_parts.specs.declared.parts.Part.{Part}
use Rattle.pif_parts.specs.Parts.{AreOfParts, span_of}
use Rattle.pif_parts_judged.proofs.JudgedLemmas.{spans_more, verdicts_more}
use Rattle.pif_parts_judged.proofs.judging.judge_all.Goals as goal

pub loop-number-preserved : goal.loop-number-preserved
loop-number-preserved g c = (
  spans_more c.args.parts.now c.loop-number.number c.index-parts-number.result c.loop-number-test.true c.index-parts-number.is _ _ _
      c.loop-number.invariant.0 c.span_of.ensures c.in_ok-push-2.ensures,
  verdicts_more c.args.limits c.args.lines.now c.args.parts.now c.loop-number.number c.index-parts-number.result
      c.loop-number-test.true c.index-parts-number.is _ _ c.in_ok-verdict.verdict c.loop-number.invariant.1 c.in_ok-verdict.ensures
      c.in_ok-push.ensures,
)

pub returns : goal.returns
returns g c = λ p.
    let all = take_all c.loop-number.number c.args.parts.now c.loop-number-test.false in
    c.joined.ensures c.args.limits c.args.lines.now c.args.parts.now p
    (c.as_slice.ensures.value ∙ c.loop-number.invariant.0 ∙ ap (map span_of) all)
    (subst (λ ws. AreOfParts c.args.limits c.args.lines.now c.args.parts.now ws) (sym c.as_slice-2.ensures.value)
    (subst (λ (qs : List Part). AreOfParts c.args.limits c.args.lines.now qs c.loop-number.verdicts.items) all c.loop-number.invariant.1))
