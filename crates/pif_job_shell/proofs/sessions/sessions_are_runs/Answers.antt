use Rattle.pif_job_shell.proofs.RunLemmas.{answers_as_runs, keeps_runs}
use Rattle.pif_job_shell.proofs.sessions.sessions_are_runs.Goals as goal

pub returns-clause-runs : goal.returns-clause-runs
returns-clause-runs c = keeps_runs

pub returns-clause-answers : goal.returns-clause-answers
returns-clause-answers c = answers_as_runs
