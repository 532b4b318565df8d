use Rattle.pif_rules_model.proofs.Ruling.{widely_from, widely_to}
use Rattle.pif_rules_model.proofs.Entries.{widely_entered_from, widely_entered_to, ended_apart_from, ended_apart_to, passed_later_from, passed_later_to, released_from_it, released_is}
use Rattle.pif_rules_model.proofs.laws.steps_lead_to_those_listed.Goals as goal

pub returns-clause-moves : goal.returns-clause-moves
returns-clause-moves c = widely_from

pub returns-clause-no_more_moves : goal.returns-clause-no_more_moves
returns-clause-no_more_moves c = widely_to

pub returns-clause-entries : goal.returns-clause-entries
returns-clause-entries c = widely_entered_from

pub returns-clause-no_more_entries : goal.returns-clause-no_more_entries
returns-clause-no_more_entries c = widely_entered_to

pub returns-clause-ends : goal.returns-clause-ends
returns-clause-ends c = ended_apart_from

pub returns-clause-no_more_ends : goal.returns-clause-no_more_ends
returns-clause-no_more_ends c = ended_apart_to

pub returns-clause-later : goal.returns-clause-later
returns-clause-later c = passed_later_from

pub returns-clause-no_more_later : goal.returns-clause-no_more_later
returns-clause-no_more_later c = passed_later_to

pub returns-clause-releases : goal.returns-clause-releases
returns-clause-releases c = released_from_it

pub returns-clause-no_more_releases : goal.returns-clause-no_more_releases
returns-clause-no_more_releases c = released_is
