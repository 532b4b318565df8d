use Rattle.std.proofs.Common.{ℕ, ◌<◌, length, subst, sym}
use Rattle.pif_model.specs.Graph.{IsPath}
use Rattle.pif_kernel_model.specs.Owners.{waits_for}
use Rattle.pif_kernel_model.specs.Chained.{Chained}
use Rattle.pif_plain.proofs.chains.PlainChainsChains.path.Goals as goal

pub path-requires : goal.path-requires
path-requires c = subst (λ (x : Chained). (u : ℕ) → waits_for x.owners u < length x.owners.seats) (sym c.self.view_is) c.requires

pub returns : goal.returns
returns c = subst (λ (x : Chained). IsPath (waits_for x.owners) c.args.start c.path.result.items) c.self.view_is c.path.ensures
