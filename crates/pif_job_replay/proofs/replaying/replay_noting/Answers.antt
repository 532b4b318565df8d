use Rattle.pif_script_model.proofs.SilenceLemmas.{ReplaysTo-from}
use Rattle.pif_job_replay.proofs.replaying.replay_noting.Goals as goal

pub returns : goal.returns
returns g c = ReplaysTo-from _ _ _ _ _ c.read_script.ensures
