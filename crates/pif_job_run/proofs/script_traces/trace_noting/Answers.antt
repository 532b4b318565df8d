use Rattle.pif_script_model.proofs.TranscriptLemmas.{TracesTo-from}
use Rattle.pif_job_run.proofs.script_traces.trace_noting.Goals as goal

pub returns : goal.returns
returns g c = TracesTo-from _ _ _ _ _ c.read_script.ensures
