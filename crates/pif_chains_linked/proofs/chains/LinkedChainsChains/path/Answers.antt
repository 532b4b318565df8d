use Rattle.std.proofs.Common.{subst}
use Rattle.pif_model.specs.Graph.{IsPath}
use Rattle.pif_kernel_model.specs.Owners.{waits_for}
use Rattle.pif_kernel_model.specs.Chained.{Chained}
use Rattle.pif_chains_linked.proofs.chains.LinkedChainsChains.path.Goals as goal

pub path-requires : goal.path-requires
path-requires c = c.self.invariant.stand.owners

pub returns : goal.returns
returns c = subst (λ (x : Chained). IsPath (waits_for x.owners) c.args.start c.path.result.items) c.self.view_is c.path.ensures
