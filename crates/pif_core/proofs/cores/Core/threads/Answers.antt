-- There are as many threads as lines.
use Rattle.std.proofs.Common.{length, sym, ap, ◌∙◌}
use Rattle.pif_model.specs.Table.{Table}
use Rattle.pif_core.proofs.StandsAfter.{threads_are}
use Rattle.pif_core.proofs.cores.Core.threads.Goals as goal

pub returns-clause-added : goal.returns-clause-added
returns-clause-added c = λ h r w st.
    c.threads.ensures.lines ∙ ap (λ (x : Table). length x.lines) c.self.view_is
    ∙ sym (threads_are c.args.self.now h r w st)
