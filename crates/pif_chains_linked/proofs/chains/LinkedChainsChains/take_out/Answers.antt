use Rattle.std.proofs.Common.{subst, sym, ap, ◌∙◌}
use Rattle.pif_nodes_model.specs.Lists.{list_without}
use Rattle.pif_nodes_model.specs.Levels.{IsQueued, level_of}
use Rattle.pif_kernel_model.specs.Chained.{Chained}
use Rattle.pif_chains_linked.proofs.Standing.{linked_queue, owners_there, keys_stay, parkings_stay}
use Rattle.pif_chains_linked.proofs.chains.LinkedChainsChains.take_out.Goals as goal

pub take_out-requires-clause-holds : goal.take_out-requires-clause-holds
take_out-requires-clause-holds c = c.self.invariant.stand.queue

pub take_out-requires-clause-queued : goal.take_out-requires-clause-queued
take_out-requires-clause-queued c = subst (λ (x : Chained). IsQueued x.queue x.table c.args.t) (sym c.self.view_is) c.requires

pub invariant_of-self : goal.invariant_of-self
invariant_of-self c =
    linked_queue c.self.inside.owners c.self.inside.queue c.self.inside.buckets c.self.inside.table c.self.inside.next c.self.invariant c.take_out.new.self c.take_out.new.table c.take_out.ensures.place c.take_out.ensures.outside c.take_out.ensures.holds

pub returns : goal.returns
returns c = record {
  owners = owners_there c.self.inside.owners c.self.inside.queue c.self.inside.buckets c.self.inside.table c.self.inside.next c.self.invariant c.take_out.new.self c.take_out.new.table c.take_out.ensures.place c.take_out.ensures.outside c.take_out.ensures.holds
      ∙ ap (λ (x : Chained). x.owners) c.self.view_is;
  levels = λ p lp. c.take_out.ensures.levels p lp
      ∙ ap (λ (x : Chained). list_without c.args.t (level_of x.queue x.table p)) c.self.view_is;
  place = c.take_out.ensures.place
      ∙ ap (λ (x : Chained). record x.queue { mask = c.take_out.new.self.mask }) c.self.view_is;
  holds = c.take_out.ensures.holds;
  keys = keys_stay c.self.inside.owners c.self.inside.queue c.self.inside.buckets c.self.inside.table c.self.inside.next c.self.invariant c.take_out.new.self c.take_out.new.table c.take_out.ensures.place c.take_out.ensures.outside c.take_out.ensures.holds
      ∙ ap (λ (x : Chained). x.keys) c.self.view_is;
  parked = parkings_stay c.self.inside.owners c.self.inside.queue c.self.inside.buckets c.self.inside.table c.self.inside.next c.self.invariant c.take_out.new.self c.take_out.new.table c.take_out.ensures.place c.take_out.ensures.outside c.take_out.ensures.holds
      ∙ ap (λ (x : Chained). x.parked) c.self.view_is;
}
