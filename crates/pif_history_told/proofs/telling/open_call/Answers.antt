use Rattle.std.proofs.Common.{◌≡◌, ◌∙◌, ◌-◌, ℕ, Option, Some, arith, sym, subst, ap}
use Rattle.std.proofs.lemmas.List.{get_or_read}
use Rattle.pif_history_text.specs.Reading.{heard_of}
use Rattle.pif_history_told.specs.declared.verdicts.Began.{Began}
use Rattle.pif_history_told.specs.declared.telling.Says.TheVariants as says
use Rattle.pif_history_told.specs.Why.{open_of}
use Rattle.pif_history_told.proofs.OpenCalls.{open-back}
use Rattle.pif_history_told.proofs.telling.open_call.Goals as goal

pub loop-left-preserved : goal.loop-left-preserved
loop-left-preserved c = (
  open-back (heard_of c.args.history.now) c.args.thread c.args.before c.loop-left.left c.index.result.now says.Nothing
      (omega (arith, c.loop-left-test.true)) c.loop-left.invariant.1
      (omega (arith, c.requires.within, c.args.history.now.shown.ok.0)) c.requires.paired c.index.ensures
      (sym c.in-Nothing.is ∙ c.said_of.ensures) c.loop-left.invariant.0,
  omega (arith, c.loop-left.invariant.1),
)

pub returns-in-Answers : goal.returns-in-Answers
returns-in-Answers c =
    sym (open-back (heard_of c.args.history.now) c.args.thread c.args.before c.loop-left.left c.index.result.now says.Answers
    (omega (arith, c.loop-left-test.true)) c.loop-left.invariant.1
    (omega (arith, c.requires.within, c.args.history.now.shown.ok.0)) c.requires.paired c.index.ensures
    (sym c.in-Answers.is ∙ c.said_of.ensures) c.loop-left.invariant.0)

pub returns-in-Begins : goal.returns-in-Begins
returns-in-Begins c =
    let h = heard_of c.args.history.now in
    let numbered = get_or_read h.numbers (c.loop-left.left - 1) c.index-in-Begins.result.now
    (omega (arith, c.loop-left-test.true, c.loop-left.invariant.1, c.requires.within, c.requires.paired, c.args.history.now.shown.ok.0))
    c.index-in-Begins.ensures 0 in
    let call : ℕ → Option Began = λ n. Some (record { number = n; thread = c.args.thread; request = c.in-Begins.request }) in
    ap (λ (n : ℕ). call n) numbered
    ∙ sym (open-back h c.args.thread c.args.before c.loop-left.left c.index.result.now (says.Begins c.in-Begins.request)
    (omega (arith, c.loop-left-test.true)) c.loop-left.invariant.1
    (omega (arith, c.requires.within, c.args.history.now.shown.ok.0)) c.requires.paired c.index.ensures
    (sym c.in-Begins.is ∙ c.said_of.ensures) c.loop-left.invariant.0)

pub returns : goal.returns
returns c =
    let zero : c.loop-left.left ≡ 0 = omega (arith, c.loop-left-test.false) in
    sym (subst (λ (n : ℕ). open_of (Some c.args.thread) (heard_of c.args.history.now) c.args.before ≡ open_of (Some c.args.thread) (heard_of c.args.history.now) n) zero
    c.loop-left.invariant.0)
