use Rattle.std.proofs.Common.{◌∙◌, ap}
use Rattle.std.proofs.lemmas.Result.{on_ok_weaker}
use Rattle.pif_text.specs.Json.{name_or_null, name_text, number_or_null}
use Rattle.pif_story_states.proofs.ObjectLemmas.{cond_appended}
use Rattle.pif_story_states.proofs.PieceLemmas.{grown_first, grown_more, on_ok_grown}
use Rattle.pif_story_states.proofs.conds.append_cond.Goals as goal

pub returns : goal.returns
returns c =
    let h1 = grown_first c.args.out.now.items _ _ c.in_ok-append_members.ensures in
    let h2 = grown_more _ _ _ _ _ h1 c.in_ok-append_order.ensures in
    on_ok_weaker c.extend_from_slice.result
    (λ e.
    cond_appended c.args.core.now c.args.cond c.args.out.now.items c.extend_from_slice.new.self.items _ _ _
    (ap (name_text 99) c.get.ensures.value) (ap (name_or_null 109) (c.number_of.ensures ∙ c.bound.ensures.value))
    (ap number_or_null c.cond_word.ensures.value) (grown_more _ _ _ _ _ h2 e).is)
    (on_ok_grown c.extend_from_slice.result _ _ _ c.extend_from_slice.ensures.items)
