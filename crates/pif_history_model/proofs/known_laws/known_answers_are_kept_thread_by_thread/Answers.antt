use Rattle.pif_history_model.proofs.Testing.{keeps-from_test, test-from_keeps}
use Rattle.pif_history_model.proofs.known_laws.known_answers_are_kept_thread_by_thread.Goals as goal

pub returns : goal.returns
returns c = λ rest w. (keeps-from_test rest w, test-from_keeps rest w)
