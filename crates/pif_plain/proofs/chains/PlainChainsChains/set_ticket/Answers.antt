use Rattle.std.proofs.Common.{IsSome, subst, sym, ap, ◌∙◌}
use Rattle.pif_kernel_model.specs.Owners.{waits_on, KeepsOrder, with_ticket}
use Rattle.pif_kernel_model.specs.Chained.{Chained}
use Rattle.pif_plain.proofs.KeptChains.{kept_chains}
use Rattle.pif_plain.proofs.chains.PlainChainsChains.set_ticket.Goals as goal

pub set_ticket-requires-clause-queued : goal.set_ticket-requires-clause-queued
set_ticket-requires-clause-queued c = subst (λ (x : Chained). IsSome (waits_on x.owners c.args.t)) (sym c.self.view_is) c.requires.queued

pub set_ticket-requires-clause-order : goal.set_ticket-requires-clause-order
set_ticket-requires-clause-order c = subst (λ (x : Chained). KeepsOrder x.owners c.args.t c.args.ticket) (sym c.self.view_is) c.requires.order

pub returns : goal.returns
returns c = record {
  changed = c.set_ticket.ensures.changed
      ∙ ap (λ (x : Chained). with_ticket c.args.t c.args.ticket x.owners) c.self.view_is;
  kept = kept_chains _ _ _ _ c.self.inside.rows _ c.self.view_is c.self.invariant.holds;
}
