use Rattle.std.proofs.Common.{List, ap, reverse, subst, sym, take}
use Rattle.std.proofs.lemmas.List.{take_all}
use Rattle.pif_history_model.specs.declared.lines.Line.{Line}
use Rattle.pif_components.specs.Groups.{AreGroupsOf}
use Rattle.pif_components.proofs.HearingLemmas.{heard_nothing, next_heard}
use Rattle.pif_components.proofs.hearing.groups_of.Goals as goal

pub returns : goal.returns
returns c =
    subst (λ (ls : List Line). AreGroupsOf ls c.loop-place.groups)
    (ap reverse (take_all c.loop-place.place c.args.lines.now c.loop-place-test.false)) c.loop-place.invariant

pub loop-place-init : goal.loop-place-init
loop-place-init c = heard_nothing c.in_ok-groups.groups c.in_ok-groups.ensures

pub loop-place-preserved : goal.loop-place-preserved
loop-place-preserved c =
    subst (λ (ls : List Line). AreGroupsOf ls c.hear.new.groups)
    (sym (next_heard c.args.lines.now c.loop-place.place c.index-lines-place.result c.loop-place-test.true c.index-lines-place.is))
    (c.in_ok-hear.ensures (reverse (take c.loop-place.place c.args.lines.now)) c.if-not-branch.false c.loop-place.invariant)
