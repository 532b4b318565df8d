use Rattle.std.proofs.Common.{IfNone, IfSome, subst}
use Rattle.pif_nodes_model.specs.Levels.{IsEmpty, IsFirstOfGreatest}
use Rattle.pif_kernel_model.specs.Chained.{Chained}
use Rattle.pif_chains_linked.proofs.chains.LinkedChainsChains.pick.Goals as goal

pub pick-requires : goal.pick-requires
pick-requires c = record { holds = c.self.invariant.stand.queue }

pub returns : goal.returns
returns c = record {
  none = subst (λ (x : Chained). IfNone c.pick.result (IsEmpty x.queue x.table)) c.self.view_is c.pick.ensures.none;
  first = subst (λ (x : Chained). IfSome c.pick.result (λ t. IsFirstOfGreatest x.queue x.table t)) c.self.view_is c.pick.ensures.first;
}
