use Rattle.pif_history_model.proofs.ShownLines.{some_of}
use Rattle.pif_judge_reasons.specs.InTheWay.{IsSoBehind}
use Rattle.pif_judge_reasons.proofs.in_the_way.obstacle_in.Goals as goal

pub returns-in-Some : goal.returns-in-Some
returns-in-Some c =
    λ r l lines all. record {
      always = some_of (IsSoBehind r l lines) c.first_told.result c.in-Some.fact c.in-Some.is (c.first_told.ensures r l lines all);
      priority = c.blocker_priority.ensures r l lines all;
    }
