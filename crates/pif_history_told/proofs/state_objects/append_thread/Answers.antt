use Rattle.std.proofs.Common.{◌∙◌, ap}
use Rattle.std.specs.Prelude.{decimal}
use Rattle.std.proofs.lemmas.Result.{on_ok_weaker}
use Rattle.pif_text.specs.Json.{bool_text, name_text}
use Rattle.pif_history_told.specs.StateObjects.{call_members}
use Rattle.pif_history_told.proofs.Appending.{grown_first, grown_more, grown_same, on_ok_grown, thread_appended}
use Rattle.pif_history_told.proofs.Pieces.{thread_pieces}
use Rattle.pif_history_told.proofs.state_objects.append_thread.Goals as goal

pub returns : goal.returns
returns c =
    let h1 = grown_first c.args.out.now.items _ _ c.in_ok-append_members.ensures in
    let h2 = grown_more _ _ _ _ _ h1 c.in_ok-extend_from_slice.ensures.items in
    let call = c.as_slice.ensures.value ∙ c.call_members.ensures ∙ ap (call_members c.args.thread) c.call.ensures in
    on_ok_weaker c.extend_from_slice-2.result
    (λ e.
    thread_appended c.args.state.now c.args.thread c.args.out.now.items c.extend_from_slice-2.new.self.items c.get.result
    c.get-at.result c.is_living.result c.effective.result c.rests.result c.as_slice.result.now c.get.ensures.value
    c.get-at.ensures.value c.is_living.ensures c.effective.ensures c.rests.ensures call
    (grown_same _ _ _ _ (grown_more _ _ _ _ _ h2 e)
    (thread_pieces (name_text 116 c.get.result) (bool_text c.is_living.result) (decimal c.effective.result)
    (bool_text c.rests.result) c.as_slice.result.now)))
    (on_ok_grown c.extend_from_slice-2.result _ _ _ c.extend_from_slice-2.ensures.items)
