use Rattle.std.proofs.Common.{List, take}
use Rattle.pif_types.specs.Bounds.{Bounds}
use Rattle.pif_history_model.specs.declared.lines.Line.{Line}
use Rattle.pif_parts_judged.specs.Following.{IsJudged}
use Rattle.pif_job_follow.proofs.followed.hear_from.Given as goal

abbrev pub invariant-loop-place : goal.invariant-loop-place
invariant-loop-place l =
    (limits : Bounds) (front : List Line) → IsJudged limits front (take l.from l.lines) l.initial.judged
    → IsJudged limits front (take l.place l.lines) l.judged
