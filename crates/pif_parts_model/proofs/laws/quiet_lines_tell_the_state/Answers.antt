use Rattle.pif_parts_model.proofs.Cutting.{tells_state}
use Rattle.pif_parts_model.proofs.Judging.{state_of_run}
use Rattle.pif_parts_model.proofs.laws.quiet_lines_tell_the_state.Goals as goal

pub returns-clause-runs : goal.returns-clause-runs
returns-clause-runs c = state_of_run

pub returns-clause-searched : goal.returns-clause-searched
returns-clause-searched c = λ l lines last q x. tells_state l lines q last x
