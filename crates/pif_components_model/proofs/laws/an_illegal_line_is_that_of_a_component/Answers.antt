use Rattle.pif_components_model.proofs.Placing.{illegal_by, each_before, some_component}
use Rattle.pif_components_model.proofs.laws.an_illegal_line_is_that_of_a_component.Goals as goal

pub returns-clause-by_then : goal.returns-clause-by_then
returns-clause-by_then c = λ l lines n number k place a. illegal_by l lines n number a k place

pub returns-clause-before : goal.returns-clause-before
returns-clause-before c = λ l lines n number k place a i. each_before l lines n number a place i k

pub returns-clause-then : goal.returns-clause-then
returns-clause-then c = λ l lines n number place a i. some_component l lines n number a place i
