use Rattle.pif_model_simulation.proofs.runs.Priority.{chain-from_leads_to, leads_to-from_chain}
use Rattle.pif_model_simulation.proofs.laws.chain_is_found_where_there_is_one.Goals as goal

pub returns : goal.returns
returns c = record { found = chain-from_leads_to; finds = leads_to-from_chain }
