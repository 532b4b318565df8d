use Rattle.pif_script_model.proofs.AgainLemmas.{script_trace_back}
use Rattle.pif_job_run.proofs.script_traces.script_trace_is_the_same.Goals as goal

pub returns : goal.returns
returns c = script_trace_back
