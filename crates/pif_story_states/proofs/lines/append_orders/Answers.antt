use Rattle.std.proofs.lemmas.Result.{on_ok_weaker}
use Rattle.pif_story_states.proofs.LineLemmas.{orders_appended}
use Rattle.pif_story_states.proofs.PieceLemmas.{grown_first, grown_more}
use Rattle.pif_story_states.proofs.lines.append_orders.Goals as goal

pub returns : goal.returns
returns c =
    let h1 = grown_first c.args.out.now.items _ _ c.in_ok-append_order.ensures in
    on_ok_weaker c.append_array.result
    (λ e.
    orders_appended c.args.core.now c.args.out.now.items c.append_array.new.out.items c.threads.result
    c.threads.ensures.value (grown_more _ _ _ _ _ h1 e).is)
    c.append_array.ensures
