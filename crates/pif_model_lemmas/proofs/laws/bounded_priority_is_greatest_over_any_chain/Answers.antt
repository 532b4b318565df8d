use Rattle.pif_model_lemmas.proofs.Bounded.{effective_over_any_chain}
use Rattle.pif_model_lemmas.proofs.laws.bounded_priority_is_greatest_over_any_chain.Goals as goal

pub returns : goal.returns
returns c = effective_over_any_chain
