use Rattle.std.proofs.Common.{◌≡◌, ◌∙◌, ◌≤◌, ◌↔◌, IsSome, IfSome, ap, sym, subst}
use Rattle.pif_kernel_model.specs.Owners.{Task, task_at}
use Rattle.pif_kernel_model.specs.States.{Row, row_at, owners_in}
use Rattle.pif_kernel_model.proofs.ViewLemmas.{task_at-owners_in}
use Rattle.pif_rtmutex.proofs.rt_mutexes.RtMutexes.local.Goals as goal

pub returns : goal.returns
returns c =
    let number : c.row.inside.priorities.local ≡ (task_at (owners_in c.args.self.now c.args.table.now) c.args.t).local =
    ap (λ (x : Row). x.local) (c.row.view_is ∙ c.row_of-row.ensures ∙ ap (row_at c.args.self.now) c.get.ensures.value)
    ∙ ap (λ (x : Task). x.local) (sym (task_at-owners_in c.args.self.now c.args.table.now c.args.t)) in
    record {
      given = subst (λ n. IsSome c.local.result ↔ (1 ≤ n)) number c.local.ensures.given;
      value = subst (λ n. IfSome c.local.result (λ p. p ≡ n)) number c.local.ensures.value;
      most = subst (λ n. n ≤ 99) number c.local.ensures.most;
    }
