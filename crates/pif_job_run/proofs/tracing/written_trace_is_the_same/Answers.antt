use Rattle.pif_script_model.proofs.SameAgainLemmas.{trace_back}
use Rattle.pif_job_run.proofs.tracing.written_trace_is_the_same.Goals as goal

pub returns : goal.returns
returns c = trace_back
