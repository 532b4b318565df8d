use Rattle.pif_model_lemmas.proofs.Next.{next_is_next}
use Rattle.pif_model_simulation.proofs.laws.next_waiter_is_first_of_greatest.Goals as goal

pub returns : goal.returns
returns c = next_is_next
