use Rattle.std.proofs.Common.{ℕ, ◌≡◌, ◌-◌, ◌∙◌, arith, List, drop, refl, subst, sym}
use Rattle.std.proofs.Math.Seq.{drop-length}
use Rattle.pif_history_told.specs.Ways.{HasCome}
use Rattle.pif_history_told.specs.Unlisted.{HasFirst}
use Rattle.pif_history_told.proofs.UnlistedLemmas.{HasFirst-start, HasFirst-step}
use Rattle.pif_history_told.proofs.unlisted.walked.Goals as goal

pub loop-left-init : goal.loop-left-init
loop-left-init c = (
  (c.in_ok-chosen.ensures, c.in_ok-position.ensures ∙ sym c.in_ok-chosen.ensures.starts),
  omega arith,
  HasFirst-start c.args.rules.now c.args.limits _ c.in_ok-position.position _ (drop-length c.args.labels.now) c.in_ok-position.ensures refl,
)

pub loop-left-preserved : goal.loop-left-preserved
loop-left-preserved c =
    let left = c.loop-left.left in
    let e = c.in_ok-to.ensures in
    let told = e.sought in (
      subst (λ (choices : List ℕ). HasCome c.args.rules.now c.args.limits c.args.labels.now choices (left - 1) c.in_ok-to.to)
          c.as_slice.ensures.value
          e.come,
      omega (arith, c.loop-left.invariant.1),
      HasFirst-step c.args.rules.now c.args.limits (drop left c.args.labels.now) (drop (left - 1) c.args.labels.now) told.0 told.1 c.loop-left.position
          _ c.loop-left.sought _ told.2 told.3 told.4 c.loop-left.invariant.2,
    )

pub take_step-requires-clause-come : goal.take_step-requires-clause-come
take_step-requires-clause-come c =
    subst (λ (choices : List ℕ). HasCome c.args.rules.now c.args.limits c.args.labels.now choices c.loop-left.left c.loop-left.position)
    (sym c.as_slice.ensures.value) c.loop-left.invariant.0

pub returns : goal.returns
returns c =
    let none : c.loop-left.left ≡ 0 = omega (arith, c.loop-left-test.false) in (
      c.loop-left.position,
      c.loop-left.sought,
      subst (λ (n : ℕ). HasFirst c.args.rules.now c.args.limits (drop n c.args.labels.now) c.loop-left.position c.loop-left.sought) none
          c.loop-left.invariant.2,
      refl,
    )
