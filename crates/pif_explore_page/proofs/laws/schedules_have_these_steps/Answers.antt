use Rattle.pif_explore_page.proofs.StepLemmas.{has_these_steps}
use Rattle.pif_explore_page.proofs.laws.schedules_have_these_steps.Goals as goal

pub returns : goal.returns
returns c = has_these_steps
