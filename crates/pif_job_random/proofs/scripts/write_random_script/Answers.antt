use Rattle.pif_job_random.proofs.LineLemmas.{as_script}
use Rattle.pif_job_random.proofs.scripts.write_random_script.Goals as goal

pub returns-in-Ok : goal.returns-in-Ok
returns-in-Ok g c = as_script c.args.lines _ _ _ c.write_lines.ensures
