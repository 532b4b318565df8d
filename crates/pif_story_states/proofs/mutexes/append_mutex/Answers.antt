use Rattle.std.proofs.Common.{◌∙◌, Bool, ap}
use Rattle.std.specs.Prelude.{decimal}
use Rattle.std.proofs.lemmas.Result.{on_ok_weaker}
use Rattle.pif_types.specs.declared.requests.Kind.{Kind}
use Rattle.pif_model.specs.Calls.{health_answer, kind_answer}
use Rattle.pif_text_model.specs.CommandTexts.{kind_word}
use Rattle.pif_text_model.specs.Replies.{health_text}
use Rattle.pif_text.specs.Json.{bool_text, name_or_null, name_text, number_or_null, or_null, quoted}
use Rattle.pif_story_states.proofs.ObjectLemmas.{mapped, mutex_appended}
use Rattle.pif_story_states.proofs.PieceLemmas.{grown_first, grown_more, on_ok_grown}
use Rattle.pif_story_states.proofs.mutexes.append_mutex.Goals as goal

pub returns : goal.returns
returns c =
    let s = c.args.core.now in
    let m = c.args.mutex in
    let h1 = grown_first c.args.out.now.items _ _ c.in_ok-append_members.ensures in
    let h2 = grown_more _ _ _ _ _ h1 c.in_ok-append_order.ensures in
    on_ok_weaker c.extend_from_slice.result
    (λ e.
    mutex_appended s m c.args.out.now.items c.extend_from_slice.new.self.items _ _ _ _ _ _ _
    (ap (name_text 109) c.get.ensures.value)
    (ap (or_null quoted) c.kind-is_robust.ensures.kind ∙ mapped quoted (λ (k : Kind × Bool). kind_word k.0) (kind_answer m s))
    (ap (or_null bool_text) c.kind-is_robust.ensures.robust ∙ mapped bool_text (λ (k : Kind × Bool). k.1) (kind_answer m s))
    (ap (or_null quoted) c.health.ensures ∙ mapped quoted health_text (health_answer m s))
    (ap number_or_null c.word.ensures.value) (ap (name_or_null 116) c.owner-owner.ensures.owner)
    (ap decimal c.owner-owner.ensures.count) (grown_more _ _ _ _ _ h2 e).is)
    (on_ok_grown c.extend_from_slice.result _ _ _ c.extend_from_slice.ensures.items)
