use Rattle.std.proofs.Common.{IsSome, subst, sym}
use Rattle.pif_kernel_model.specs.Owners.{owner_at, HasNoWaiter}
use Rattle.pif_kernel_model.specs.Chained.{Chained}
use Rattle.pif_plain.proofs.chains.PlainChainsChains.close.Goals as goal

pub end-requires-clause-state : goal.end-requires-clause-state
end-requires-clause-state c = subst (λ (x : Chained). IsSome (owner_at x.owners c.args.key)) (sym c.self.view_is) c.requires.state

pub end-requires-clause-free : goal.end-requires-clause-free
end-requires-clause-free c = subst (λ (x : Chained). HasNoWaiter x.owners c.args.key) (sym c.self.view_is) c.requires.free
