use Rattle.pif_script_model.proofs.OkLemmas.{ok_exactly}
use Rattle.pif_job_check.proofs.checking.ok_is_exact.Goals as goal

pub returns : goal.returns
returns c = ok_exactly
