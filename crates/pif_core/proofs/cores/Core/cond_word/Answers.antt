-- Condition variables that were added have a condition word: how often they were used.
use Rattle.std.proofs.Common.{◌∙◌, ap}
use Rattle.pif_model.specs.Table.{uses_of}
use Rattle.pif_model.specs.Calls.{cond_word_answer}
use Rattle.pif_core.proofs.StandsAfter.{cond_word_answered, variable_is_some}
use Rattle.pif_core.proofs.cores.Core.cond_word.Goals as goal

pub returns-clause-added : goal.returns-clause-added
returns-clause-added c = λ h r w st.
    variable_is_some c.args.self.now (uses_of c.args.self.now c.args.cond) c.cond_word.result h r w st c.args.cond
    (c.cond_word.ensures ∙ ap (cond_word_answer c.args.cond) c.self.view_is)

pub returns-clause-possible : goal.returns-clause-possible
returns-clause-possible c = λ h r w st.
    cond_word_answered c.args.self.now c.args.cond c.cond_word.result h r w st
    (c.cond_word.ensures ∙ ap (cond_word_answer c.args.cond) c.self.view_is)
