use Rattle.std.proofs.Common.{◌∙◌, ap, sym, subst}
use Rattle.pif_kernel_model.specs.Owners.{Task, task_at, with_task, AreSoundOwners}
use Rattle.pif_plain_rtmutex.proofs.rt_mutexes.RtMutexes.set_wait.Goals as goal

pub put-requires : goal.put-requires
put-requires c = λ one s.
    subst (λ (y : Task). AreSoundOwners (with_task c.args.t (record y { wait = c.args.wait }) c.args.self.now))
    (sym (c.known.view_is ∙ c.row-known.ensures.value ∙ ap (task_at c.args.self.now) c.get.ensures.value))
    (c.requires one s)

pub returns-clause-put : goal.returns-clause-put
returns-clause-put c =
    c.put.ensures.put
    ∙ ap (λ (y : Task). with_task c.args.t (record y { wait = c.args.wait }) c.args.self.now)
    (c.known.view_is ∙ c.row-known.ensures.value ∙ ap (task_at c.args.self.now) c.get.ensures.value)
