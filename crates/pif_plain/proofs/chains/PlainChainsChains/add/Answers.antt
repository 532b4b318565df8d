use Rattle.std.proofs.Common.{◌≤◌, subst, sym, ap, ◌∙◌, rules}
use Rattle.pif_nodes_model.specs.Levels.{IsQueued, level_of, level_after_add}
use Rattle.pif_kernel_model.specs.Chained.{Chained}
use Rattle.pif_nodes_model.proofs.FreeNodes.{off_free}
use Rattle.pif_plain.proofs.chains.PlainChainsChains.add.Goals as goal

pub add-requires-clause-thread : goal.add-requires-clause-thread
add-requires-clause-thread c = subst (λ (x : Chained). c.args.t ≤ x.queue.threads) (sym c.self.view_is) c.requires.thread

pub add-requires-clause-free : goal.add-requires-clause-free
add-requires-clause-free c =
    let few : c.args.t ≤ c.self.inside.queue.threads = subst (λ (x : Chained). c.args.t ≤ x.queue.threads) (sym c.self.view_is) c.requires.thread in
    off_free c.self.inside.queue c.self.inside.table c.args.t c.self.invariant.holds (search rules) few
    (λ on. c.requires.off (subst (λ (x : Chained). IsQueued x.queue x.table c.args.t) c.self.view_is on))

pub returns : goal.returns
returns c = record {
  owners = ap (λ (x : Chained). x.owners) c.self.view_is;
  levels = λ p lp. c.add.ensures.levels p lp
      ∙ ap (λ (x : Chained). level_after_add c.args.t c.args.prio p (level_of x.queue x.table p)) c.self.view_is;
  place = c.add.ensures.place ∙ ap (λ (x : Chained). record x.queue { mask = c.add.new.self.mask }) c.self.view_is;
  holds = c.add.ensures.holds;
  keys = ap (λ (x : Chained). x.keys) c.self.view_is;
  parked = ap (λ (x : Chained). x.parked) c.self.view_is;
}
