use Rattle.std.proofs.Common.{◌≡◌, ◌∙◌, ◌++◌, ℕ, ap, sym, arith}
use Rattle.std.proofs.lemmas.List.{append-nil}
use Rattle.pif_history_text.specs.Tellings.{others_below}
use Rattle.pif_history_text.proofs.TellingLemmas.{others-more}
use Rattle.pif_history_text.proofs.tellings.push_others.Goals as goal

pub loop-number-init : goal.loop-number-init
loop-number-init c = sym (append-nil c.args.out.now.items)

pub loop-number-preserved : goal.loop-number-preserved
loop-number-preserved c =
    others-more c.args.moving c.loop-number.number c.args.from.now c.args.to.now c.args.out.now.items _ _
    c.loop-number.invariant c.in_ok-push_if_other.ensures

pub returns : goal.returns
returns c =
    let end : c.loop-number.number ≡ c.thread_count-number-end.result =
    omega (arith, c.loop-number.auto.number-end, c.loop-number-test.false) in
    c.loop-number.invariant
    ∙ ap (λ (k : ℕ). c.args.out.now.items ++ others_below k c.args.moving c.args.from.now c.args.to.now)
    (end ∙ c.thread_count-number-end.ensures)
