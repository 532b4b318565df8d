use Rattle.std.proofs.Common.{◌∙◌, List, ℕ, ap, refl, subst, sym, option_copied}
use Rattle.pif_text_model.specs.Words.{words, words_behind}
use Rattle.pif_history_text.specs.Reading.{heard_of}
use Rattle.pif_history_text.proofs.ProcessLemmas.{AreShown, one_shown}
use Rattle.pif_history_text.proofs.heard.History.show_process.Goals as goal

pub names-preserved : goal.names-preserved
names-preserved c =
    let h = heard_of c.args.self.now in
    let m = heard_of c.names.self in
    let all = words c.args.names.now in
    one_shown h m _ all (words_behind (option_copied c.split_first.result.1)) c.split_first.result.0.now c.in-Some-thread_of.thread
    (subst (λ (l : List (List ℕ)). AreShown h m all l)
    (ap (λ o. words_behind (option_copied o)) c.in-Some.is ∙ c.split_first.ensures) c.names.invariant)
    (sym c.thread_of.ensures ∙ c.in-Some-thread_of.is) c.in_ok-push.ensures.added c.in_ok-push-2.ensures.added refl refl refl
