use Rattle.pif_model_lemmas.proofs.Following.{reaches-from_within, within-from_reaches}
use Rattle.pif_model_lemmas.proofs.laws.bounded_chain_finds_each_chain.Goals as goal

pub returns-clause-found : goal.returns-clause-found
returns-clause-found c = reaches-from_within

pub returns-clause-finds : goal.returns-clause-finds
returns-clause-finds c = within-from_reaches
