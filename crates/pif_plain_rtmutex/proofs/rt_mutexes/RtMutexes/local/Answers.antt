use Rattle.std.proofs.Common.{◌≡◌, ◌∙◌, ◌≤◌, ◌↔◌, IsSome, IfSome, ap, subst}
use Rattle.pif_kernel_model.specs.Owners.{Task, task_at}
use Rattle.pif_plain_rtmutex.proofs.rt_mutexes.RtMutexes.local.Goals as goal

pub returns : goal.returns
returns c =
    let number : c.known.inside.priorities.local ≡ (task_at c.args.self.now c.args.t).local =
    ap (λ (x : Task). x.local) (c.known.view_is ∙ c.row-known.ensures.value ∙ ap (task_at c.args.self.now) c.get.ensures.value) in
    record {
      given = subst (λ n. IsSome c.local.result ↔ (1 ≤ n)) number c.local.ensures.given;
      value = subst (λ n. IfSome c.local.result (λ p. p ≡ n)) number c.local.ensures.value;
      most = subst (λ n. n ≤ 99) number c.local.ensures.most;
    }
