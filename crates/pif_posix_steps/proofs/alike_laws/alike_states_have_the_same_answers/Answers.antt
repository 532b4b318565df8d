use Rattle.pif_posix_steps.proofs.Alike.{same_answer}
use Rattle.pif_posix_steps.proofs.alike_laws.alike_states_have_the_same_answers.Goals as goal

pub returns : goal.returns
returns c = same_answer
