use Rattle.pif_explore_text.proofs.TestsBack.{test_back}
use Rattle.pif_explore_text.proofs.laws.tests_read_back.Goals as goal

pub returns : goal.returns
returns c = test_back
