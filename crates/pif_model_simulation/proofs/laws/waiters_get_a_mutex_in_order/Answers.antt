use Rattle.pif_model_lemmas.proofs.kernel.Orders.{order-none, order-next}
use Rattle.pif_model_simulation.proofs.laws.waiters_get_a_mutex_in_order.Goals as goal

pub returns : goal.returns
returns c = record { none = order-none; next = order-next }
