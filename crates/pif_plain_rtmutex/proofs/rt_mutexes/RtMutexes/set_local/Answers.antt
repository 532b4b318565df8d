use Rattle.std.proofs.Common.{◌∙◌, ◌≤◌, ap, arith}
use Rattle.pif_kernel_model.specs.Owners.{Task, task_at, with_task}
use Rattle.pif_kernel_model.proofs.OwnersLemmas.{sound-priorities}
use Rattle.pif_plain_rtmutex.proofs.PriorityLemmas.{task_of, task-local}
use Rattle.pif_plain_rtmutex.proofs.rt_mutexes.RtMutexes.set_local.Goals as goal

pub put-requires : goal.put-requires
put-requires c = λ one s.
    let x : Task = task_of c.with_local.result c.known.inside.wait in
    let changed =
    task-local c.known.inside.priorities c.with_local.result c.known.inside.wait (task_at c.args.self.now c.args.t) c.args.prio
    (c.known.view_is ∙ c.row-known.ensures.value ∙ ap (task_at c.args.self.now) c.get.ensures.value)
    c.with_local.ensures.changed in
    let other : x.base ≤ 99 = omega (arith, (s.seats c.args.t).base, ap (λ (y : Task). y.base) changed) in
    sound-priorities c.args.t x c.args.self.now other c.with_local.ensures.most (ap (λ (y : Task). y.wait) changed) one s

pub returns-clause-changed : goal.returns-clause-changed
returns-clause-changed c =
    c.put.ensures.put ∙ ap (λ (y : Task). with_task c.args.t y c.args.self.now)
    (task-local c.known.inside.priorities c.with_local.result c.known.inside.wait (task_at c.args.self.now c.args.t) c.args.prio
    (c.known.view_is ∙ c.row-known.ensures.value ∙ ap (task_at c.args.self.now) c.get.ensures.value)
    c.with_local.ensures.changed)
