use Rattle.std.proofs.Common.{◌≡◌, ◌∙◌, ap, sym, refl, Some}
use Rattle.pif_kernel_model.specs.Owners.{Task, Wait, task_at}
use Rattle.pif_kernel_model.proofs.OwnersLemmas.{sound-ranked}
use Rattle.pif_plain_rtmutex.proofs.rt_mutexes.RtMutexes.rekey.Goals as goal

pub set_wait-requires : goal.set_wait-requires
set_wait-requires c = λ one s.
    let was : Wait = record { state = c.wait.inside.state; rank = c.wait.inside.rank } in
    let seen : c.row.result ≡ task_at c.args.self.now c.args.t = c.row.ensures.value ∙ ap (task_at c.args.self.now) c.get.ensures.value in
    let read : (task_at c.args.self.now c.args.t).wait ≡ Some was =
    ap (λ (x : Task). x.wait) (sym (c.row-2.view_is ∙ seen)) ∙ c.in-Some.is ∙ ap Some (sym c.wait.view_is) in
    sound-ranked c.args.t was _ c.args.self.now read refl c.get-in-Some.ensures.low c.get-in-Some.ensures.high one s
