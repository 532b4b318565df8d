use Rattle.pif_judge_reasons.specs.InTheWay.{IsSoBehind}
use Rattle.pif_judge_reasons.proofs.Certain.{read_of_all}
use Rattle.pif_judge_reasons.proofs.in_the_way.first_told.Goals as goal

pub returns-then-not-is_beside : goal.returns-then-not-is_beside
returns-then-not-is_beside c =
    λ r l lines all.
    read_of_all (IsSoBehind r l lines) c.args.found.now c.loop-fact.fact-index c.fact-item.result c.loop-fact-test.true c.fact-item.is all
