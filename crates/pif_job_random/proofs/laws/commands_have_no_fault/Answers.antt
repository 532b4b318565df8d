use Rattle.pif_script_model.proofs.CommandLemmas.{no_fault}
use Rattle.pif_job_random.proofs.laws.commands_have_no_fault.Goals as goal

pub returns : goal.returns
returns c = no_fault
