use Rattle.pif_explore_text.proofs.ProgramsBack.{statements_are}
use Rattle.pif_explore_text.proofs.laws.statements_are_points.Goals as goal

pub returns : goal.returns
returns c = statements_are
