use Rattle.std.proofs.Common.{◌≡◌, IsSome, Some, subst, sym}
use Rattle.pif_kernel_model.specs.Owners.{owner_at}
use Rattle.pif_kernel_model.specs.Chained.{Chained}
use Rattle.pif_chains_linked.proofs.chains.LinkedChainsChains.owner.Goals as goal

pub owner-requires : goal.owner-requires
owner-requires c = subst (λ (x : Chained). IsSome (owner_at x.owners c.args.key)) (sym c.self.view_is) c.requires

pub returns : goal.returns
returns c = record {
  value = subst (λ (x : Chained). owner_at x.owners c.args.key ≡ Some c.owner.result) c.self.view_is c.owner.ensures.value;
}
