use Rattle.std.proofs.Common.{[], sym, append-nil, arith}
use Rattle.std.proofs.lemmas.Grind.{common_steps}
use Rattle.pif_script_model.specs.Traces.{second_line_meaning}
use Rattle.pif_job_replay.proofs.replaying.ReplayedListener.open.Goals as goal

pub returns-in-Ok-clause-answer : goal.returns-in-Ok-clause-answer
unfolding second_line_meaning
returns-in-Ok-clause-answer c = ([], grind (arith, common_steps), sym (append-nil c.args._output.now.items))
