-- The time is the machine's.
use Rattle.std.proofs.Common.{ap, ◌∙◌}
use Rattle.pif_model.specs.Table.{Table}
use Rattle.pif_core.proofs.Looks.{time_answered}
use Rattle.pif_core.proofs.cores.Core.time.Goals as goal

pub returns-clause-time : goal.returns-clause-time
returns-clause-time c = λ h r w st.
    time_answered c.args.self.now h r w st c.time.result
    (c.time.ensures ∙ ap (λ (x : Table). x.time) c.self.view_is)
