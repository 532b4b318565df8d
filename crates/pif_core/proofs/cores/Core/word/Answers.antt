-- Mutexes that were added have a word, a possible one.
use Rattle.std.proofs.Common.{◌≡◌, ◌∙◌, IfSome, ap, subst}
use Rattle.pif_model.specs.Word.{word_of, bits_of}
use Rattle.pif_model.specs.Table.{Table, cell_at}
use Rattle.pif_model.specs.Calls.{word_answer}
use Rattle.pif_core.proofs.StandsAfter.{word_answered, mutex_is_some}
use Rattle.pif_core.proofs.cores.Core.word.Goals as goal

pub returns-clause-added : goal.returns-clause-added
returns-clause-added c = λ h r w st.
    mutex_is_some c.args.self.now (bits_of (cell_at c.args.self.now c.args.mutex).word)
    c.word.result h r w st c.args.mutex
    (c.word.ensures.value ∙ ap (word_answer c.args.mutex) c.self.view_is)

pub returns-clause-possible : goal.returns-clause-possible
returns-clause-possible c = λ h r w st.
    word_answered c.args.self.now c.args.mutex c.word.result h r w st
    (c.word.ensures.value ∙ ap (word_answer c.args.mutex) c.self.view_is)
    (subst (λ (x : Table). IfSome c.word.result (λ bits. word_of bits ≡ (cell_at x c.args.mutex).word)) c.self.view_is
    c.word.ensures.parts)
