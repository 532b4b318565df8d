-- Mutexes that were added have a kind, and are robust or stalled.
use Rattle.std.proofs.Common.{◌∙◌, ap}
use Rattle.pif_model.specs.Table.{cell_at}
use Rattle.pif_model.specs.Calls.{kind_answer}
use Rattle.pif_core.proofs.StandsAfter.{mutex_is_some}
use Rattle.pif_core.proofs.Looks.{kind_answered}
use Rattle.pif_core.proofs.cores.Core.kind.Goals as goal

pub returns-clause-added : goal.returns-clause-added
returns-clause-added c = λ h r w st.
    mutex_is_some c.args.self.now
    ((cell_at c.args.self.now c.args.mutex).kind, (cell_at c.args.self.now c.args.mutex).robust)
    c.kind.result h r w st c.args.mutex
    (c.kind.ensures ∙ ap (kind_answer c.args.mutex) c.self.view_is)

pub returns-clause-kind : goal.returns-clause-kind
returns-clause-kind c = λ h r w st.
    kind_answered c.args.self.now h r w st c.args.mutex c.kind.result
    (c.kind.ensures ∙ ap (kind_answer c.args.mutex) c.self.view_is)
