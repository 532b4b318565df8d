use Rattle.pif_judge_reasons.proofs.Candidates.{found_more}
use Rattle.pif_judge_reasons.proofs.found.found_among.Goals as goal
use Rattle.pif_judge_reasons.proofs.found.found_among.Goals.{then-branch+in_ok-push, else-branch}

pub loop-number-preserved : goal.loop-number-preserved
loop-number-preserved g c =
    elim c.if-branch.branch [
      | then-branch+in_ok-push w ↦ rw w.found-is (found_more c.args.terms.now.rules c.args.terms.now.limits c.args.before.now
          c.args.line.now c.with_number-next.result c.loop-number.found.items _ _
          (c.requires c.loop-number.number-index _ c.loop-number-test.true) c.with_number-next.ensures
          (c.in_ok-finds_next.ensures w.if-branch.true) w.in_ok-push.ensures c.loop-number.invariant)
      | else-branch w ↦ rw w.found-is c.loop-number.invariant
    ]
