use Rattle.pif_explore_text.proofs.TestsBack.{nots-test}
use Rattle.pif_explore_text.proofs.laws.nots_of_tests_undo_each_other.Goals as goal

pub returns : goal.returns
returns c = nots-test
