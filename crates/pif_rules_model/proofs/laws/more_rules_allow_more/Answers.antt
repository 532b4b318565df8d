use Rattle.pif_rules_model.proofs.Sets.{moves_more, enters_more, ends_apart_more, passed_later_more, released_more}
use Rattle.pif_rules_model.proofs.laws.more_rules_allow_more.Goals as goal

pub returns-clause-moves : goal.returns-clause-moves
returns-clause-moves c = moves_more

pub returns-clause-entries : goal.returns-clause-entries
returns-clause-entries c = enters_more

pub returns-clause-ends : goal.returns-clause-ends
returns-clause-ends c = ends_apart_more

pub returns-clause-later : goal.returns-clause-later
returns-clause-later c = passed_later_more

pub returns-clause-releases : goal.returns-clause-releases
returns-clause-releases c = released_more
