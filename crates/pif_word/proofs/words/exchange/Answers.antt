use Rattle.std.proofs.Common.{arith, sym, ◌∙◌, eq-eqb, ne_eqb}
use Rattle.pif_model_lemmas.proofs.WordBits.{word_of-number, is_bare-word_of}
use Rattle.pif_word.proofs.words.exchange.Goals as goal

pub returns-then-actual-expected-clause-bare : goal.returns-then-actual-expected-clause-bare
returns-then-actual-expected-clause-bare c =
    λ k. sym (is_bare-word_of c.args.word.now c.args.expected (omega arith) k ∙ eq-eqb _ _ c.if-actual-expected.true)

pub returns-then-actual-expected-clause-held : goal.returns-then-actual-expected-clause-held
returns-then-actual-expected-clause-held c = λ k. word_of-number c.args.new k

pub returns-else-actual-expected-clause-bare : goal.returns-else-actual-expected-clause-bare
returns-else-actual-expected-clause-bare c =
    λ k. sym (is_bare-word_of c.args.word.now c.args.expected (omega arith) k ∙ ne_eqb _ _ c.if-actual-expected.false)
