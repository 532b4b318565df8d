use Rattle.std.proofs.Common.{◌≡◌, ◌≤◌, ◌↔◌, IsSome, IfSome, subst}
use Rattle.pif_kernel_model.specs.Owners.{task_at}
use Rattle.pif_kernel_model.specs.Chained.{Chained}
use Rattle.pif_chains_linked.proofs.chains.LinkedChainsChains.base.Goals as goal

pub returns : goal.returns
returns c = record {
  given = subst (λ (x : Chained). IsSome c.base.result ↔ (1 ≤ (task_at x.owners c.args.t).base)) c.self.view_is c.base.ensures.given;
  value = subst (λ (x : Chained). IfSome c.base.result (λ p. p ≡ (task_at x.owners c.args.t).base)) c.self.view_is c.base.ensures.value;
}
