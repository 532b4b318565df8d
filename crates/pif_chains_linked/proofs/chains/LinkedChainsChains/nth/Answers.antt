use Rattle.std.proofs.Common.{ap, ◌∙◌}
use Rattle.std.specs.List.{slice_get}
use Rattle.pif_nodes_model.specs.Levels.{all_below}
use Rattle.pif_kernel_model.specs.Chained.{Chained}
use Rattle.pif_chains_linked.proofs.chains.LinkedChainsChains.nth.Goals as goal

pub nth-requires : goal.nth-requires
nth-requires c = c.self.invariant.stand.queue

pub returns : goal.returns
returns c = c.nth.ensures ∙ ap (λ (x : Chained). slice_get (all_below x.queue x.table 100) c.args.place) c.self.view_is
