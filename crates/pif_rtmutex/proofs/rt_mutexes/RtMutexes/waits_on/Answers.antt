use Rattle.std.proofs.Common.{◌∙◌, sym}
use Rattle.pif_kernel_model.proofs.ViewLemmas.{waits_on-owners_in}
use Rattle.pif_kernel_model.proofs.WaiterLemmas.{waits-state}
use Rattle.pif_rtmutex.proofs.rt_mutexes.RtMutexes.waits_on.Goals as goal

pub returns-clause-value : goal.returns-clause-value
returns-clause-value c = c.wait_of.ensures ∙ sym (waits_on-owners_in c.args.self.now c.args.table.now c.args.t)

pub returns-clause-state : goal.returns-clause-state
returns-clause-state c = λ k e.
    waits-state c.args.self.now c.args.table.now c.args.t k c.requires.waiters (sym c.wait_of.ensures ∙ e)
