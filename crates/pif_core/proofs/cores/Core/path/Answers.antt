-- The path of a thread is that of the POSIX machine.
use Rattle.std.proofs.Common.{subst}
use Rattle.pif_model.specs.Table.{Table}
use Rattle.pif_model.specs.Calls.{IsPathAnswer}
use Rattle.pif_core.proofs.Looks.{path_answered}
use Rattle.pif_core.proofs.cores.Core.path.Goals as goal

pub returns-clause-value : goal.returns-clause-value
returns-clause-value c = subst (λ (s : Table). IsPathAnswer c.args.thread s c.path.result.items) c.self.view_is c.path.ensures

pub returns-clause-path : goal.returns-clause-path
returns-clause-path c = λ h r w st.
    path_answered c.args.self.now h r w st c.args.thread c.path.result.items
    (subst (λ (s : Table). IsPathAnswer c.args.thread s c.path.result.items) c.self.view_is c.path.ensures)
