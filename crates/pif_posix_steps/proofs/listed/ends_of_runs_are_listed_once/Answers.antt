use Rattle.pif_posix_steps.proofs.DoingEnds.{ended_once}
use Rattle.pif_posix_steps.proofs.Ending.{left_at_end}
use Rattle.pif_posix_steps.proofs.listed.ends_of_runs_are_listed_once.Goals as goal

pub returns : goal.returns
returns c limits history states before run thread = ended_once thread before (left_at_end limits history states before run thread)
