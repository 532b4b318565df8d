use Rattle.pif_posix_steps.proofs.DoingMoves.{moved_from, moved_to}
use Rattle.pif_posix_steps.proofs.listed.moves_lead_to_those_listed.Goals as goal

pub returns-clause-listed : goal.returns-clause-listed
returns-clause-listed c = moved_from

pub returns-clause-no_more : goal.returns-clause-no_more
returns-clause-no_more c = moved_to
