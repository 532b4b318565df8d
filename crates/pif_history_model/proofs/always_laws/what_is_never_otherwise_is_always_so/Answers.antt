use Rattle.pif_history_model.proofs.Always.{so-from_never, so-in_plain}
use Rattle.pif_history_model.proofs.always_laws.what_is_never_otherwise_is_always_so.Goals as goal

pub returns-clause-searched : goal.returns-clause-searched
returns-clause-searched c = so-from_never

pub returns-clause-plain : goal.returns-clause-plain
returns-clause-plain c = so-in_plain
