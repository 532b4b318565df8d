use Rattle.std.proofs.Common.{sym, subst}
use Rattle.pif_explore_told.specs.declared.verdicts.Verdict.{Verdict}
use Rattle.pif_explore_told.specs.Reports.{IsLivelockVerdict}
use Rattle.pif_explore_told.proofs.TellingLemmas.{livelock_verdict_by}
use Rattle.pif_explore_told.proofs.verdicts.livelock_verdict.Goals as goal

pub returns : goal.returns
returns c = λ start enough.
    subst (λ (v : Verdict). IsLivelockVerdict c.args.plan.now start c.args.explored.now.nodes.items v) (sym c.verdict_on.ensures)
    (livelock_verdict_by c.args.plan.now start c.args.explored.now c.in_ok-found.found (c.in_ok-found.ensures start) enough)
