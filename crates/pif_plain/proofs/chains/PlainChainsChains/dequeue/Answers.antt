use Rattle.std.proofs.Common.{◌≡◌, Some, None, subst, sym, ap, ◌∙◌}
use Rattle.pif_kernel_model.specs.Owners.{waits_on, with_wait}
use Rattle.pif_kernel_model.specs.Chained.{Chained}
use Rattle.pif_plain.proofs.KeptChains.{kept_chains}
use Rattle.pif_plain.proofs.chains.PlainChainsChains.dequeue.Goals as goal

pub dequeue-requires : goal.dequeue-requires
dequeue-requires c = subst (λ (x : Chained). waits_on x.owners c.args.t ≡ Some c.args.key) (sym c.self.view_is) c.requires

pub returns : goal.returns
returns c = record {
  free = c.dequeue.ensures.free ∙ ap (λ (x : Chained). with_wait c.args.t None x.owners) c.self.view_is;
  kept = kept_chains _ _ _ _ c.self.inside.rows _ c.self.view_is c.self.invariant.holds;
}
