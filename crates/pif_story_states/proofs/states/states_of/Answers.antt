use Rattle.std.proofs.Common.{◌∙◌, None}
use Rattle.pif_story_states.proofs.StateLemmas.{told_from, told_on, told_out, told_same, told_whole}
use Rattle.pif_story_states.proofs.states.states_of.Goals as goal

pub returns-then-not-branch : goal.returns-then-not-branch
returns-then-not-branch g c = λ numbered same.
    told_out c.args.names.now (told_from c.args.names.now None c.args.rows.now) c.loop-place.text.items c.args.rows.now
    c.loop-place.place c.loop-place.core c.loop-place.invariant c.index-rows-place.result c.loop-place-test.true
    c.index-rows-place.is c.append_row.new.core c.append_row.new.out.items c.in_ok-append_row.field-0
    c.in_ok-append_row.ensures c.if-not-branch.true
    ∙ told_same c.args.names.now None numbered c.args.rows.now same

pub loop-place-preserved : goal.loop-place-preserved
loop-place-preserved g c =
    told_on c.args.names.now (told_from c.args.names.now None c.args.rows.now) c.loop-place.text.items c.args.rows.now
    c.loop-place.place c.loop-place.core c.loop-place.invariant c.index-rows-place.result c.loop-place-test.true
    c.index-rows-place.is c.append_row.new.core c.append_row.new.out.items c.in_ok-append_row.field-0
    c.in_ok-append_row.ensures c.if-not-branch.false

pub returns : goal.returns
returns g c = λ numbered same.
    told_whole c.args.names.now (told_from c.args.names.now None c.args.rows.now) c.loop-place.text.items c.args.rows.now
    c.loop-place.place c.loop-place.core c.loop-place.invariant c.loop-place-test.false
    ∙ told_same c.args.names.now None numbered c.args.rows.now same
