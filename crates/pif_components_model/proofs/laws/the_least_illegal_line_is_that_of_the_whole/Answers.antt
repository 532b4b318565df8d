use Rattle.pif_components_model.proofs.Placing.{whole_illegal}
use Rattle.pif_components_model.proofs.laws.the_least_illegal_line_is_that_of_the_whole.Goals as goal

pub returns : goal.returns
returns c = λ l lines n number k place a one. whole_illegal l lines n number a k place
