use Rattle.std.proofs.Common.{◌≡◌, ◌≤◌, ℕ, true, None, subst, sym, ap, ◌∙◌}
use Rattle.pif_nodes_model.specs.Lists.{has}
use Rattle.pif_nodes_model.specs.Levels.{IsQueued, IsLevel, level_of}
use Rattle.pif_kernel_model.specs.Owners.{waits_on}
use Rattle.pif_kernel_model.specs.Boosts.{IsRepaired, IsRepairedBut, base_of, local_of, level_after_walk}
use Rattle.pif_kernel_model.specs.Chained.{Chained}
use Rattle.pif_plain.proofs.chains.PlainChainsChains.walk.Goals as goal

pub walk-requires : goal.walk-requires
walk-requires c = record {
  admitted = subst (λ (x : Chained). 1 ≤ base_of x.owners c.args.start) (sym c.self.view_is) c.requires.admitted;
  repaired = subst (λ (x : Chained). IsRepairedBut c.args.start x.owners) (sym c.self.view_is) c.requires.repaired;
  holds = c.self.invariant.holds;
  ready = subst (λ (x : Chained). (u : ℕ) → IsQueued x.queue x.table u → 1 ≤ base_of x.owners u) (sym c.self.view_is) c.requires.ready;
  running = subst (λ (x : Chained). (u : ℕ) → IsQueued x.queue x.table u → waits_on x.owners u ≡ None) (sym c.self.view_is) c.requires.running;
  level = subst (λ (x : Chained). (u p : ℕ) → IsLevel p → has u (level_of x.queue x.table p) ≡ true → p ≡ local_of x.owners u) (sym c.self.view_is) c.requires.level;
}

pub returns : goal.returns
returns c = record {
  repaired = subst (λ (x : Chained). IsRepaired x.owners c.walk.new.owners) c.self.view_is c.walk.ensures.repaired;
  levels = λ p lp. c.walk.ensures.levels p lp
      ∙ ap (λ (x : Chained). level_after_walk x.owners x.queue x.table p) c.self.view_is;
  place = c.walk.ensures.place ∙ ap (λ (x : Chained). record x.queue { mask = c.walk.new.queue.mask }) c.self.view_is;
  holds = c.walk.ensures.holds;
  keys = ap (λ (x : Chained). x.keys) c.self.view_is;
  parked = ap (λ (x : Chained). x.parked) c.self.view_is;
}
