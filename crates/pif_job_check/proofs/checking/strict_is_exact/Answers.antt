use Rattle.pif_script_model.proofs.OkLemmas.{strict_exactly}
use Rattle.pif_job_check.proofs.checking.strict_is_exact.Goals as goal

pub returns : goal.returns
returns c = strict_exactly
