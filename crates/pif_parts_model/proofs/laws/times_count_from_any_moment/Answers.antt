use Rattle.pif_parts_model.proofs.LaterRuns.{shown_at_a_later_time, shown_before_that}
use Rattle.pif_parts_model.proofs.LaterRests.{part_later, part_before}
use Rattle.pif_parts_model.proofs.laws.times_count_from_any_moment.Goals as goal

pub returns-clause-states : goal.returns-clause-states
returns-clause-states c = λ l n s lines. (shown_at_a_later_time l n s lines, shown_before_that l n s lines)

pub returns-clause-parts : goal.returns-clause-parts
returns-clause-parts c = λ l before time more lines e. (
  part_later l before time more lines e,
  part_before l before time more lines e,
)
