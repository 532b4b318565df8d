use Rattle.pif_text_core.specs.Texts.{chain_line}
use Rattle.pif_text_core.proofs.TellingLemmas.{then}
use Rattle.pif_text_core.proofs.chains.show_chain.Goals as goal

pub returns : goal.returns
unfolding chain_line
returns g c = then (then c.thread.ensures c.show_links.ensures) c.words.ensures
