use Rattle.std.proofs.Common.{◌≡◌, ◌∙◌, ◌≤◌, ◌↔◌, IsSome, IfSome, ap, subst}
use Rattle.pif_kernel_model.specs.Owners.{Task, task_at}
use Rattle.pif_plain_rtmutex.proofs.rt_mutexes.RtMutexes.base.Goals as goal

pub returns : goal.returns
returns c =
    let number : c.known.inside.priorities.base ≡ (task_at c.args.self.now c.args.t).base =
    ap (λ (x : Task). x.base) (c.known.view_is ∙ c.row-known.ensures.value ∙ ap (task_at c.args.self.now) c.get.ensures.value) in
    record {
      given = subst (λ n. IsSome c.base.result ↔ (1 ≤ n)) number c.base.ensures.given;
      value = subst (λ n. IfSome c.base.result (λ p. p ≡ n)) number c.base.ensures.value;
      most = subst (λ n. n ≤ 99) number c.base.ensures.most;
    }
