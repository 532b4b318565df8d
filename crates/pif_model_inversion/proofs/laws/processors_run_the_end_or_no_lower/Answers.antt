use Rattle.pif_model_inversion.proofs.Processors.{end_or_no_lower, one_no_lower}
use Rattle.pif_model_inversion.proofs.laws.processors_run_the_end_or_no_lower.Goals as goal

pub returns : goal.returns
returns c = record { several = end_or_no_lower; one = one_no_lower }
