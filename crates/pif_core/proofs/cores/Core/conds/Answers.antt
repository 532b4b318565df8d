-- There are as many variables as the library knows.
use Rattle.std.proofs.Common.{length, sym, ap, ◌∙◌}
use Rattle.pif_model.specs.Table.{Table}
use Rattle.pif_core.proofs.Looks.{variables_are}
use Rattle.pif_core.proofs.cores.Core.conds.Goals as goal

pub returns-clause-added : goal.returns-clause-added
returns-clause-added c = λ h r w st.
    c.conds.ensures ∙ ap (λ (x : Table). length x.conds) c.self.view_is ∙ sym (variables_are c.args.self.now h r w st)
