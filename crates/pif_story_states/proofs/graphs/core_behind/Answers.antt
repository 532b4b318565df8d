use Rattle.std.proofs.Common.{None, map}
use Rattle.pif_script_model.specs.Rows.{asked_in}
use Rattle.pif_story_states.specs.Stories.{core_behind}
use Rattle.pif_story_states.proofs.CoreLemmas.{core_lost, core_on, core_whole}
use Rattle.pif_story_states.proofs.graphs.core_behind.Goals as goal

pub returns-then-is_none : goal.returns-then-is_none
returns-then-is_none g c =
    core_lost (core_behind None (map asked_in c.args.rows.now)) c.args.rows.now c.loop-place.place c.loop-place.core
    c.loop-place.invariant c.index-rows-place.result c.loop-place-test.true c.index-rows-place.is c.obey.new.core
    c.is_none.result c.in_ok-obey.ensures c.is_none.ensures c.if-is_none.true

pub loop-place-preserved : goal.loop-place-preserved
loop-place-preserved g c =
    core_on (core_behind None (map asked_in c.args.rows.now)) c.args.rows.now c.loop-place.place c.loop-place.core
    c.loop-place.invariant c.index-rows-place.result c.loop-place-test.true c.index-rows-place.is c.obey.new.core
    c.is_none.result c.in_ok-obey.ensures c.is_none.ensures c.if-is_none.false

pub returns : goal.returns
returns g c =
    core_whole (core_behind None (map asked_in c.args.rows.now)) c.args.rows.now c.loop-place.place c.loop-place.core
    c.loop-place.invariant c.loop-place-test.false
