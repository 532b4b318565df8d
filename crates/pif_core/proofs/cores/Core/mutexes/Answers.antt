-- There are as many mutexes as the library knows.
use Rattle.std.proofs.Common.{length, sym, ap, ◌∙◌}
use Rattle.pif_model.specs.Table.{Table}
use Rattle.pif_core.proofs.Looks.{mutexes_are}
use Rattle.pif_core.proofs.cores.Core.mutexes.Goals as goal

pub returns-clause-added : goal.returns-clause-added
returns-clause-added c = λ h r w st.
    c.mutexes.ensures ∙ ap (λ (x : Table). length x.mutexes) c.self.view_is ∙ sym (mutexes_are c.args.self.now h r w st)
