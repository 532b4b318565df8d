use Rattle.std.proofs.Common.{◌+◌, ℕ, subst, sym, take}
use Rattle.pif_components.specs.declared.judging.Standing.{Standing}
use Rattle.pif_components.specs.Sides.{IsOfSide, side_of}
use Rattle.pif_components.specs.Judging.{AreJudged}
use Rattle.pif_components.proofs.JudgingLemmas.{next_judged}
use Rattle.pif_components.proofs.judging.judge_next.Goals as goal

pub returns : goal.returns
returns g c = λ below h.
    subst (λ (s : Standing). AreJudged c.args.limits c.args.lines.now c.args.groups.now (c.args.number + 1) s) (sym c.told.ensures)
    (next_judged c.args.limits c.args.lines.now c.args.groups.now c.args.number c.args.standing.now c.in_ok-verdict.verdict
    (subst (λ (n : ℕ). IsOfSide c.args.limits (side_of c.args.groups.now c.args.number) (take n c.args.lines.now) c.in_ok-verdict.verdict)
    c.within-count.ensures c.in_ok-verdict.ensures) below h)
