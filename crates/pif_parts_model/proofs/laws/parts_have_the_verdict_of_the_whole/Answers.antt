use Rattle.pif_parts_model.proofs.Judging.{illegal_in_first, illegal_behind, legal_behind}
use Rattle.pif_parts_model.proofs.laws.parts_have_the_verdict_of_the_whole.Goals as goal

pub returns-clause-first : goal.returns-clause-first
returns-clause-first c = illegal_in_first

pub returns-clause-second : goal.returns-clause-second
returns-clause-second c = λ l first second n q legal x. illegal_behind l first q legal second n x

pub returns-clause-legal : goal.returns-clause-legal
returns-clause-legal c = λ l first second q legal x. legal_behind l first q legal second x
