use Rattle.pif_rules_model.proofs.Sets.{moves_widely, enters_widely, plain_moves, plain_enters, none_ends_apart}
use Rattle.pif_rules_model.proofs.laws.without_rules_the_machine_is_plain.Goals as goal

pub returns-clause-moves : goal.returns-clause-moves
returns-clause-moves c = moves_widely

pub returns-clause-entries : goal.returns-clause-entries
returns-clause-entries c = λ r l s e v none all h. let x = enters_widely l s e r v none all h in (x.0, x.1, x.2)

pub returns-clause-plain_moves : goal.returns-clause-plain_moves
returns-clause-plain_moves c = plain_moves

pub returns-clause-plain_entries : goal.returns-clause-plain_entries
returns-clause-plain_entries c = λ l s e n none h. plain_enters l s e n none h

pub returns-clause-no_ends : goal.returns-clause-no_ends
returns-clause-no_ends c = none_ends_apart
