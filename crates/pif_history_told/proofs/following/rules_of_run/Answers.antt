use Rattle.std.proofs.Common.{ℕ, ◌-◌, ◌∙◌, arith, List, subst, sym}
use Rattle.pif_history_told.specs.Ways.{HasCome}
use Rattle.pif_history_told.proofs.following.rules_of_run.Goals as goal

pub loop-left-init : goal.loop-left-init
loop-left-init c = (
  (c.in_ok-chosen.ensures, c.in_ok-position.ensures ∙ sym c.in_ok-chosen.ensures.starts),
  omega arith,
)

pub loop-left-preserved : goal.loop-left-preserved
loop-left-preserved c = (
  subst (λ (choices : List ℕ). HasCome c.args.rules.now c.args.limits c.args.witness.now choices (c.loop-left.left - 1) c.in_ok-step.step.position)
      c.as_slice.ensures.value
      c.in_ok-step.ensures.come,
  omega (arith, c.loop-left.invariant.1),
)

pub next_step-requires-clause-come : goal.next_step-requires-clause-come
next_step-requires-clause-come c =
    subst (λ (choices : List ℕ). HasCome c.args.rules.now c.args.limits c.args.witness.now choices c.loop-left.left c.loop-left.position)
    (sym c.as_slice.ensures.value) c.loop-left.invariant.0
