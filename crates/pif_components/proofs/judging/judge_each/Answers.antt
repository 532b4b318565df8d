use Rattle.std.proofs.Common.{ℕ, ◌≡◌, arith, subst}
use Rattle.pif_components.specs.Judging.{AreJudged}
use Rattle.pif_components.proofs.JudgingLemmas.{none_judged}
use Rattle.pif_components.proofs.judging.judge_each.Goals as goal

pub loop-number-init : goal.loop-number-init
loop-number-init g c = none_judged c.args.limits c.args.lines.now c.args.groups.now _

pub returns : goal.returns
returns g c = λ t.
    let end : c.loop-number.number ≡ c.args.groups.now.count =
    omega (arith, c.loop-number.auto.number-end, c.loop-number-test.false, c.count-number-end.ensures) in
    subst (λ (n : ℕ). AreJudged c.args.limits c.args.lines.now c.args.groups.now n c.loop-number.standing) end (c.loop-number.invariant t)
