use Rattle.std.proofs.lemmas.Result.{on_ok_weaker}
use Rattle.pif_story_states.proofs.LineLemmas.{things_appended}
use Rattle.pif_story_states.proofs.PieceLemmas.{grown_first, grown_more}
use Rattle.pif_story_states.proofs.lines.append_things.Goals as goal

pub returns : goal.returns
returns c =
    let h1 = grown_first c.args.out.now.items _ _ c.in_ok-append_array.ensures in
    let h2 = grown_more _ _ _ _ _ h1 c.in_ok-append_array-2.ensures in
    on_ok_weaker c.append_array-3.result
    (λ e.
    things_appended c.args.names.now c.args.core.now c.args.out.now.items c.append_array-3.new.out.items c.threads.result
    c.mutexes_added.result c.conds_added.result c.threads.ensures.value c.mutexes_added.ensures c.conds_added.ensures
    (grown_more _ _ _ _ _ h2 e).is)
    c.append_array-3.ensures
