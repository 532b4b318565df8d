use Rattle.pif_posix_steps.proofs.Singles.{step-from_entry}
use Rattle.pif_posix_steps.proofs.laws.entries_are_steps.Goals as goal

pub returns : goal.returns
returns c = step-from_entry
