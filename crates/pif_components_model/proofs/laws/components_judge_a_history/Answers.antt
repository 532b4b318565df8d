use Rattle.pif_components_model.proofs.Judging.{judged_by_sides, judged_by_parts}
use Rattle.pif_components_model.proofs.laws.components_judge_a_history.Goals as goal

pub returns-clause-sides : goal.returns-clause-sides
returns-clause-sides c = judged_by_sides

pub returns-clause-parts : goal.returns-clause-parts
returns-clause-parts c = judged_by_parts
