use Rattle.std.proofs.Common.{codes}
use Rattle.pif_history_told.specs.Texts.{needs_text}
use Rattle.pif_job_judge.specs.Posix.{beside_text}
use Rattle.pif_job_judge.proofs.JudgingLemmas.{grown_by_four}
use Rattle.pif_job_judge.proofs.posix.push_allows_front.Goals as goal

pub returns : goal.returns
returns c =
    grown_by_four c.args.out.now.items (codes "POSIX allows it") (beside_text (codes " with") c.args.base.now)
    (needs_text c.args.base.now c.args.rules.now) c.args.fewer.now _ _ _ _ c.in_ok-extend_from_slice.ensures.items c.in_ok-push_beside.ensures
    c.in_ok-push_needed.ensures c.in_ok-extend_from_slice-2.ensures.items
