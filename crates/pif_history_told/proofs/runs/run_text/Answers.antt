use Rattle.std.proofs.Common.{ℕ, ◌≡◌, ◌-◌, ◌∙◌, arith, List, drop, subst, sym}
use Rattle.std.proofs.Math.Seq.{drop-length}
use Rattle.pif_history_told.specs.Ways.{HasCome}
use Rattle.pif_history_told.specs.Runs.{IsTold}
use Rattle.pif_history_told.proofs.RunLemmas.{IsTold-start, IsTold-step}
use Rattle.pif_history_told.proofs.runs.run_text.Goals as goal

pub loop-left-init : goal.loop-left-init
loop-left-init c = (
  (c.in_ok-chosen.ensures, c.in_ok-position.ensures ∙ sym c.in_ok-chosen.ensures.starts),
  omega arith,
  IsTold-start c.args.rules.now c.args.limits c.args.numbers.now c.args.from _ c.in_ok-position.position c.new-told.result (drop-length c.args.witness.now)
      c.in_ok-position.ensures c.new-told.ensures,
)

pub loop-left-preserved : goal.loop-left-preserved
loop-left-preserved c =
    let left = c.loop-left.left in
    let e = c.in_ok-position-2.ensures in
    let told = e.told in (
      subst (λ (choices : List ℕ). HasCome c.args.rules.now c.args.limits c.args.witness.now choices (left - 1) c.in_ok-position-2.position)
          c.as_slice.ensures.value
          e.come,
      omega (arith, c.loop-left.invariant.1),
      IsTold-step c.args.rules.now c.args.limits c.args.numbers.now c.args.from (drop left c.args.witness.now) (drop (left - 1) c.args.witness.now)
          told.0 told.1 c.loop-left.position _ c.loop-left.told c.take_step.new.told told.2 told.3 told.4 c.loop-left.invariant.2,
    )

pub take_step-requires-clause-come : goal.take_step-requires-clause-come
take_step-requires-clause-come c =
    subst (λ (choices : List ℕ). HasCome c.args.rules.now c.args.limits c.args.witness.now choices c.loop-left.left c.loop-left.position)
    (sym c.as_slice.ensures.value) c.loop-left.invariant.0

pub returns : goal.returns
returns c =
    let none : c.loop-left.left ≡ 0 = omega (arith, c.loop-left-test.false) in (
      c.loop-left.position,
      c.loop-left.told,
      subst (λ (n : ℕ). IsTold c.args.rules.now c.args.limits c.args.numbers.now c.args.from (drop n c.args.witness.now) c.loop-left.position c.loop-left.told)
          none c.loop-left.invariant.2,
      c.into_lines.ensures,
    )
