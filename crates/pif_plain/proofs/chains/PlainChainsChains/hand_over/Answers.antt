use Rattle.std.proofs.Common.{◌≡◌, ℕ, Some, None, subst, sym, ap, ◌∙◌}
use Rattle.pif_kernel_model.specs.Owners.{waits_on, IsTop, with_owner, with_wait}
use Rattle.pif_kernel_model.specs.Chained.{Chained}
use Rattle.pif_plain.proofs.KeptChains.{kept_chains}
use Rattle.pif_plain.proofs.chains.PlainChainsChains.hand_over.Goals as goal

pub hand_over-requires : goal.hand_over-requires
hand_over-requires c = record {
  waiter = subst (λ (x : Chained). (t : ℕ) × (waits_on x.owners t ≡ Some c.args.key)) (sym c.self.view_is) c.requires.waiter;
}

pub returns : goal.returns
returns c = record {
  top = subst (λ (x : Chained). IsTop x.owners c.args.key c.hand_over.result) c.self.view_is c.hand_over.ensures.top;
  handed = c.hand_over.ensures.handed
      ∙ ap (λ (x : Chained). with_owner c.args.key c.hand_over.result (with_wait c.hand_over.result None x.owners)) c.self.view_is;
  kept = kept_chains _ _ _ _ c.self.inside.rows _ c.self.view_is c.self.invariant.holds;
}
