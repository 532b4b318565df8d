use Rattle.std.proofs.Common.{◌↔◌, IsTrue, subst}
use Rattle.pif_model.specs.Graph.{Reaches}
use Rattle.pif_kernel_model.specs.Owners.{WaitsFor}
use Rattle.pif_kernel_model.specs.Chained.{Chained}
use Rattle.pif_chains_linked.proofs.chains.LinkedChainsChains.would_close.Goals as goal

pub would_close-requires : goal.would_close-requires
would_close-requires c = c.self.invariant.stand.owners

pub returns : goal.returns
returns c =
    subst (λ (x : Chained). IsTrue c.would_close.result ↔ Reaches (WaitsFor x.owners) c.args.owner c.args.t) c.self.view_is c.would_close.ensures.reached
