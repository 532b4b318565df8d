-- Mutexes that were added have a health, a possible one.
use Rattle.std.proofs.Common.{◌∙◌, ap}
use Rattle.pif_model.specs.Word.{health_in}
use Rattle.pif_model.specs.Table.{cell_at}
use Rattle.pif_model.specs.Calls.{health_answer}
use Rattle.pif_core.proofs.StandsAfter.{health_answered, both_answered, mutex_is_some}
use Rattle.pif_core.proofs.cores.Core.health.Goals as goal

pub returns-clause-added : goal.returns-clause-added
returns-clause-added c = λ h r w st.
    mutex_is_some c.args.self.now (health_in (cell_at c.args.self.now c.args.mutex).health)
    c.health.result h r w st c.args.mutex
    (c.health.ensures.value ∙ ap (health_answer c.args.mutex) c.self.view_is)

pub returns-clause-possible : goal.returns-clause-possible
returns-clause-possible c = λ h r w st.
    health_answered c.args.self.now c.args.mutex c.health.result h r w st
    (c.health.ensures.value ∙ ap (health_answer c.args.mutex) c.self.view_is)

pub returns-clause-both : goal.returns-clause-both
returns-clause-both c = λ h r w st.
    both_answered c.args.self.now c.args.mutex c.health.result h r w st
    (c.health.ensures.value ∙ ap (health_answer c.args.mutex) c.self.view_is)
