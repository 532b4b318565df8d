use Rattle.std.proofs.Common.{◌≡◌, ◌∙◌, true, ap, sym}
use Rattle.pif_text_core.specs.Texts.{lag_text, lags}
use Rattle.pif_text_core.proofs.TellingLemmas.{same, then}
use Rattle.pif_text_core.proofs.mutexes.show_lag.Goals as goal

pub returns-then-lags : goal.returns-then-lags
returns-then-lags g c =
    let on : lags c.args.health c.args.died ≡ true = sym c.lags.ensures ∙ c.if-lags.true in
    let word = rw c.health_word.ensures.items at c.words-then-lags.ensures in
    same (ap (λ b. lag_text b c.args.health) (sym on)) (then (then c.words.ensures word) c.words-then-lags-2.ensures)
