use Rattle.pif_script_model.proofs.MigrateLemmas.{verdict_stays}
use Rattle.pif_job_replay.proofs.migrating.migrated_trace_has_its_verdict.Goals as goal

pub returns : goal.returns
returns c = verdict_stays
