use Rattle.std.proofs.Common.{List, arith, refl, reverse, subst, sym, take}
use Rattle.pif_history_model.specs.declared.lines.Line.{Line}
use Rattle.pif_parts.specs.Standing.{IsPast}
use Rattle.pif_parts.proofs.PartLemmas.{next_heard}
use Rattle.pif_parts.proofs.parts.parts_of.Goals as goal

pub loop-place-init : goal.loop-place-init
loop-place-init c = (c.in_ok-past.ensures, c.new-cutting.ensures.cut c.args.limits c.args.lines.now, omega (arith, c.new-cutting.ensures.first))

pub loop-place-preserved : goal.loop-place-preserved
loop-place-preserved c = (
  subst (λ (ls : List Line). IsPast ls c.hear.new.self)
      (sym (next_heard c.args.lines.now c.loop-place.place c.index-lines-place.result c.loop-place-test.true c.index-lines-place.is))
      (c.in_ok-hear.ensures (reverse (take c.loop-place.place c.args.lines.now)) c.loop-place.invariant.0),
  c.in_ok-cut_if_quiet.ensures.1 c.args.lines.now refl c.loop-place.invariant.1 c.loop-place.invariant.0,
  let first = c.in_ok-cut_if_quiet.ensures.0 in omega (arith, first),
)
