use Rattle.pif_posix_steps.proofs.DoingEntries.{entered_from, entered_to}
use Rattle.pif_posix_steps.proofs.listed.entries_lead_to_those_listed.Goals as goal

pub returns-clause-listed : goal.returns-clause-listed
returns-clause-listed c = entered_from

pub returns-clause-no_more : goal.returns-clause-no_more
returns-clause-no_more c = entered_to
