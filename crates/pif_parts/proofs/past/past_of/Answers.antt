use Rattle.std.proofs.Common.{List, ap, reverse, subst, sym, take}
use Rattle.std.proofs.lemmas.List.{take_all}
use Rattle.pif_history_model.specs.declared.lines.Line.{Line}
use Rattle.pif_parts.specs.Standing.{IsPast}
use Rattle.pif_parts.proofs.PartLemmas.{next_heard}
use Rattle.pif_parts.proofs.past.past_of.Goals as goal

pub returns : goal.returns
returns c =
    subst (λ (ls : List Line). IsPast ls c.loop-place.past)
    (ap reverse (take_all c.loop-place.place c.args.lines.now c.loop-place-test.false)) c.loop-place.invariant

pub loop-place-preserved : goal.loop-place-preserved
loop-place-preserved c =
    subst (λ (ls : List Line). IsPast ls c.hear.new.self)
    (sym (next_heard c.args.lines.now c.loop-place.place c.index-lines-place.result c.loop-place-test.true c.index-lines-place.is))
    (c.in_ok-hear.ensures (reverse (take c.loop-place.place c.args.lines.now)) c.loop-place.invariant)
