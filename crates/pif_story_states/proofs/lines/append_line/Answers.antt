use Rattle.std.proofs.lemmas.Result.{on_ok_weaker}
use Rattle.pif_story_states.proofs.LineLemmas.{line_appended}
use Rattle.pif_story_states.proofs.PieceLemmas.{grown_first, grown_more, on_ok_grown}
use Rattle.pif_story_states.proofs.lines.append_line.Goals as goal

pub returns : goal.returns
returns c =
    let h1 = grown_first c.args.out.now.items _ _ c.in_ok-append_members.ensures in
    let h2 = grown_more _ _ _ _ _ h1 c.in_ok-extend_from_slice.ensures.items in
    let h3 = grown_more _ _ _ _ _ h2 c.in_ok-append_answer.ensures in
    let h4 = grown_more _ _ _ _ _ h3 c.in_ok-append_members-2.ensures in
    let h5 = grown_more _ _ _ _ _ h4 c.in_ok-append_things.ensures in
    let h6 = grown_more _ _ _ _ _ h5 c.in_ok-append_orders.ensures in
    on_ok_weaker c.extend_from_slice-2.result
    (λ e.
    line_appended c.args.names.now c.args.line c.args.words.now c.args.reply c.args.core.now c.args.out.now.items
    c.extend_from_slice-2.new.self.items c.time.result c.time.ensures.value (grown_more _ _ _ _ _ h6 e).is)
    (on_ok_grown c.extend_from_slice-2.result _ _ _ c.extend_from_slice-2.ensures.items)
