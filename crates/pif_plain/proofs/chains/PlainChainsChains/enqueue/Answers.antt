use Rattle.std.proofs.Common.{◌≡◌, ◌<◌, ℕ, IsSome, Some, None, length, subst, sym, ap, ◌∙◌}
use Rattle.pif_model.specs.Graph.{Reaches}
use Rattle.pif_kernel_model.specs.Owners.{owner_at, waits_on, WaitsFor, with_wait}
use Rattle.pif_kernel_model.specs.Chained.{Chained}
use Rattle.pif_plain.proofs.KeptChains.{kept_chains}
use Rattle.pif_plain.proofs.chains.PlainChainsChains.enqueue.Goals as goal

pub enqueue-requires-clause-state : goal.enqueue-requires-clause-state
enqueue-requires-clause-state c = subst (λ (x : Chained). IsSome (owner_at x.owners c.args.key)) (sym c.self.view_is) c.requires.state

pub enqueue-requires-clause-row : goal.enqueue-requires-clause-row
enqueue-requires-clause-row c = subst (λ (x : Chained). c.args.t < length x.owners.seats) (sym c.self.view_is) c.requires.row

pub enqueue-requires-clause-free : goal.enqueue-requires-clause-free
enqueue-requires-clause-free c = subst (λ (x : Chained). waits_on x.owners c.args.t ≡ None) (sym c.self.view_is) c.requires.free

pub enqueue-requires-clause-no_cycle : goal.enqueue-requires-clause-no_cycle
enqueue-requires-clause-no_cycle c =
    subst (λ (x : Chained). (n : ℕ) → owner_at x.owners c.args.key ≡ Some n → Reaches (WaitsFor x.owners) n c.args.t → ⊥) (sym c.self.view_is) c.requires.no_cycle

pub returns : goal.returns
returns c = record {
  queued = c.enqueue.ensures.queued
      ∙ ap (λ (x : Chained). with_wait c.args.t
      (Some (record { state = c.args.key; rank = record { prio = c.args.prio; ticket = c.args.ticket } })) x.owners) c.self.view_is;
  kept = kept_chains _ _ _ _ c.self.inside.rows _ c.self.view_is c.self.invariant.holds;
}
