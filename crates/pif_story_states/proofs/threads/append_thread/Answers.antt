use Rattle.std.proofs.Common.{◌∙◌, ap}
use Rattle.std.proofs.lemmas.Result.{on_ok_weaker}
use Rattle.pif_model.specs.Calls.{status_answer}
use Rattle.pif_text.specs.Json.{name_or_null, name_text, number_or_null, or_null, quoted}
use Rattle.pif_story_states.specs.Objects.{state_word}
use Rattle.pif_story_states.proofs.ObjectLemmas.{mapped, thread_appended}
use Rattle.pif_story_states.proofs.PieceLemmas.{grown_first, grown_more, on_ok_grown}
use Rattle.pif_story_states.proofs.threads.append_thread.Goals as goal

pub returns : goal.returns
returns c =
    let s = c.args.core.now in
    let h1 = grown_first c.args.out.now.items _ _ c.in_ok-append_members.ensures in
    let h2 = grown_more _ _ _ _ _ h1 c.in_ok-append_call.ensures in
    let h3 = grown_more _ _ _ _ _ h2 c.in_ok-append_holds.ensures in
    on_ok_weaker c.extend_from_slice.result
    (λ e.
    thread_appended c.args.names.now s c.args.thread c.args.out.now.items c.extend_from_slice.new.self.items _ _ _ _ _ _ _
    (ap (name_text 116) c.get.ensures.value) (ap (or_null quoted) c.name_of.ensures)
    (ap (or_null quoted) c.state.ensures ∙ mapped quoted state_word (status_answer c.args.thread s))
    (ap (name_or_null 109) (c.number_of.ensures ∙ c.awaited.ensures)) (ap (name_or_null 99) c.parked_on.ensures)
    (ap number_or_null (c.level.ensures ∙ c.effective.ensures.value))
    (ap number_or_null (c.level-2.ensures ∙ c.base.ensures.value)) (grown_more _ _ _ _ _ h3 e).is)
    (on_ok_grown c.extend_from_slice.result _ _ _ c.extend_from_slice.ensures.items)
