use Rattle.pif_explore_text.proofs.ProgramsBack.{statements_back}
use Rattle.pif_explore_text.proofs.laws.statements_read_back.Goals as goal

pub returns : goal.returns
returns c = statements_back
