use Rattle.std.proofs.Common.{[], ◌∙◌, ap, cond, sym}
use Rattle.std.specs.Prelude.{codes}
use Rattle.pif_text_core.proofs.TellingLemmas.{nothing, same}
use Rattle.pif_text_core.proofs.chains.show_no_chain.Goals as goal

pub returns-then-chains_are_gone : goal.returns-then-chains_are_gone
returns-then-chains_are_gone g c =
    same (ap (λ b. cond b (codes "  chain: none\n") []) (sym (sym c.chains_are_gone.ensures ∙ c.if-chains_are_gone.true)))
    c.words.ensures

pub returns-else-chains_are_gone : goal.returns-else-chains_are_gone
returns-else-chains_are_gone g c =
    same (ap (λ b. cond b (codes "  chain: none\n") []) (sym (sym c.chains_are_gone.ensures ∙ c.if-chains_are_gone.false)))
    (nothing _ _)
