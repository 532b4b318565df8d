use Rattle.pif_judge_reasons.specs.InTheWay.{IsSoBehind}
use Rattle.pif_judge_reasons.proofs.Certain.{priority_told, read_of_all}
use Rattle.pif_judge_reasons.proofs.in_the_way.priority_in.Goals as goal

pub returns-then-is_some : goal.returns-then-is_some
returns-then-is_some c =
    λ r l lines all.
    priority_told (IsSoBehind r l lines) c.fact-item.result c.args.thread _
    (read_of_all (IsSoBehind r l lines) c.args.found.now c.loop-fact.fact-index c.fact-item.result c.loop-fact-test.true c.fact-item.is all)
    c.priority_by-priority.ensures
