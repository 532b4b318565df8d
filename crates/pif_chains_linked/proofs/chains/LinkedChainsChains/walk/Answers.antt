use Rattle.std.proofs.Common.{◌≡◌, ◌≤◌, ℕ, true, None, subst, sym, ap, ◌∙◌}
use Rattle.pif_nodes_model.specs.Lists.{has}
use Rattle.pif_nodes_model.specs.Levels.{IsQueued, IsLevel, level_of}
use Rattle.pif_kernel_model.specs.Owners.{Owners, waits_on}
use Rattle.pif_kernel_model.specs.States.{owners_in}
use Rattle.pif_kernel_model.specs.Boosts.{IsRepaired, IsRepairedBut, base_of, local_of, level_after_walk}
use Rattle.pif_kernel_model.specs.Chained.{Chained}
use Rattle.pif_chains_linked.proofs.Standing.{stands_before}
use Rattle.pif_chains_linked.proofs.Walked.{walked_stand, walked_admitted, linked_walked, reranked_owners, reranked_levels, reranked_queue, reranked_keys, reranked_parkings}
use Rattle.pif_chains_linked.proofs.chains.LinkedChainsChains.walk.Goals as goal

pub walk_to-walked-requires : goal.walk_to-walked-requires
walk_to-walked-requires c = record {
  states = c.self.invariant.stand.owners;
  apart = stands_before c.self.inside.owners c.self.inside.queue c.self.inside.buckets c.self.invariant.stand.laid;
  admitted = subst (λ (x : Chained). 1 ≤ base_of x.owners c.args.start) (sym c.self.view_is) c.requires.admitted;
  repaired = subst (λ (x : Chained). IsRepairedBut c.args.start x.owners) (sym c.self.view_is) c.requires.repaired;
  holds = c.self.invariant.stand.queue;
  ready = subst (λ (x : Chained). (u : ℕ) → IsQueued x.queue x.table u → 1 ≤ base_of x.owners u) (sym c.self.view_is) c.requires.ready;
  running = subst (λ (x : Chained). (u : ℕ) → IsQueued x.queue x.table u → waits_on x.owners u ≡ None) (sym c.self.view_is) c.requires.running;
  level = subst (λ (x : Chained). (u p : ℕ) → IsLevel p → has u (level_of x.queue x.table p) ≡ true → p ≡ local_of x.owners u) (sym c.self.view_is) c.requires.level;
}

pub rerank-requires-clause-holds : goal.rerank-requires-clause-holds
rerank-requires-clause-holds c =
    let s = walked_stand c.self.inside.owners c.self.inside.queue c.self.inside.buckets c.self.inside.table c.self.inside.next c.self.invariant c.args.start
    (subst (λ (x : Chained). 1 ≤ base_of x.owners c.args.start) (sym c.self.view_is) c.requires.admitted)
    (subst (λ (x : Chained). IsRepairedBut c.args.start x.owners) (sym c.self.view_is) c.requires.repaired)
    c.walk_to-walked.result.0 c.walk_to-walked.result.1 c.walk_to-walked.new.owners c.walk_to-walked.new.table
    c.walk_to-walked.new.queue c.walk_to-walked.ensures.done c.walk_to-walked.ensures.ends in
    s.buckets

pub rerank-requires-clause-admitted : goal.rerank-requires-clause-admitted
rerank-requires-clause-admitted c =
    walked_admitted c.self.inside.owners c.self.inside.queue c.self.inside.buckets c.self.inside.table c.self.inside.next c.self.invariant c.args.start
    (subst (λ (x : Chained). 1 ≤ base_of x.owners c.args.start) (sym c.self.view_is) c.requires.admitted)
    (subst (λ (x : Chained). IsRepairedBut c.args.start x.owners) (sym c.self.view_is) c.requires.repaired)
    c.walk_to-walked.result.0 c.walk_to-walked.result.1 c.walk_to-walked.new.owners c.walk_to-walked.new.table
    c.walk_to-walked.new.queue c.walk_to-walked.ensures.done c.walk_to-walked.ensures.ends

pub invariant_of-self : goal.invariant_of-self
invariant_of-self c =
    linked_walked c.self.inside.owners c.self.inside.queue c.self.inside.buckets c.self.inside.table c.self.inside.next c.self.invariant c.args.start
    (subst (λ (x : Chained). 1 ≤ base_of x.owners c.args.start) (sym c.self.view_is) c.requires.admitted)
    (subst (λ (x : Chained). IsRepairedBut c.args.start x.owners) (sym c.self.view_is) c.requires.repaired)
    c.walk_to-walked.result.0 c.walk_to-walked.result.1 c.walk_to-walked.new.owners c.walk_to-walked.new.table
    c.walk_to-walked.new.queue c.walk_to-walked.ensures.done c.walk_to-walked.ensures.ends
    c.rerank.new.buckets c.rerank.new.table c.rerank.ensures.changed c.rerank.ensures.words c.rerank.ensures.place
    c.rerank.ensures.outside c.rerank.ensures.holds

pub returns : goal.returns
returns c = record {
  repaired =
      subst (λ (x : Owners). IsRepaired c.args.self.now.owners x) (sym (reranked_owners c.self.inside.owners c.self.inside.queue c.self.inside.buckets c.self.inside.table c.self.inside.next c.self.invariant c.args.start
      (subst (λ (x : Chained). 1 ≤ base_of x.owners c.args.start) (sym c.self.view_is) c.requires.admitted)
      (subst (λ (x : Chained). IsRepairedBut c.args.start x.owners) (sym c.self.view_is) c.requires.repaired)
      c.walk_to-walked.result.0 c.walk_to-walked.result.1 c.walk_to-walked.new.owners c.walk_to-walked.new.table
      c.walk_to-walked.new.queue c.walk_to-walked.ensures.done c.walk_to-walked.ensures.ends
      c.rerank.new.buckets c.rerank.new.table c.rerank.ensures.changed c.rerank.ensures.words c.rerank.ensures.place
      c.rerank.ensures.outside c.rerank.ensures.holds))
      (subst (λ (x : Chained). IsRepaired x.owners (owners_in c.walk_to-walked.new.owners c.walk_to-walked.new.table)) c.self.view_is
      c.walk_to-walked.ensures.done.repaired);
  levels = λ p lp. reranked_levels c.self.inside.owners c.self.inside.queue c.self.inside.buckets c.self.inside.table c.self.inside.next c.self.invariant c.args.start
      (subst (λ (x : Chained). 1 ≤ base_of x.owners c.args.start) (sym c.self.view_is) c.requires.admitted)
      (subst (λ (x : Chained). IsRepairedBut c.args.start x.owners) (sym c.self.view_is) c.requires.repaired)
      c.walk_to-walked.result.0 c.walk_to-walked.result.1 c.walk_to-walked.new.owners c.walk_to-walked.new.table
      c.walk_to-walked.new.queue c.walk_to-walked.ensures.done c.walk_to-walked.ensures.ends
      c.rerank.new.buckets c.rerank.new.table c.rerank.ensures.changed c.rerank.ensures.words c.rerank.ensures.place
      c.rerank.ensures.outside c.rerank.ensures.holds p lp
      ∙ c.walk_to-walked.ensures.done.levels p lp
      ∙ ap (λ (x : Chained). level_after_walk x.owners x.queue x.table p) c.self.view_is;
  place = c.walk_to-walked.ensures.done.place ∙ ap (λ (x : Chained). record x.queue { mask = c.walk_to-walked.new.queue.mask }) c.self.view_is;
  holds = reranked_queue c.self.inside.owners c.self.inside.queue c.self.inside.buckets c.self.inside.table c.self.inside.next c.self.invariant c.args.start
      (subst (λ (x : Chained). 1 ≤ base_of x.owners c.args.start) (sym c.self.view_is) c.requires.admitted)
      (subst (λ (x : Chained). IsRepairedBut c.args.start x.owners) (sym c.self.view_is) c.requires.repaired)
      c.walk_to-walked.result.0 c.walk_to-walked.result.1 c.walk_to-walked.new.owners c.walk_to-walked.new.table
      c.walk_to-walked.new.queue c.walk_to-walked.ensures.done c.walk_to-walked.ensures.ends
      c.rerank.new.buckets c.rerank.new.table c.rerank.ensures.changed c.rerank.ensures.words c.rerank.ensures.place
      c.rerank.ensures.outside c.rerank.ensures.holds;
  keys = reranked_keys c.self.inside.owners c.self.inside.queue c.self.inside.buckets c.self.inside.table c.self.inside.next c.self.invariant c.args.start
      (subst (λ (x : Chained). 1 ≤ base_of x.owners c.args.start) (sym c.self.view_is) c.requires.admitted)
      (subst (λ (x : Chained). IsRepairedBut c.args.start x.owners) (sym c.self.view_is) c.requires.repaired)
      c.walk_to-walked.result.0 c.walk_to-walked.result.1 c.walk_to-walked.new.owners c.walk_to-walked.new.table
      c.walk_to-walked.new.queue c.walk_to-walked.ensures.done c.walk_to-walked.ensures.ends
      c.rerank.new.buckets c.rerank.new.table c.rerank.ensures.changed c.rerank.ensures.words c.rerank.ensures.place
      c.rerank.ensures.outside c.rerank.ensures.holds ∙ ap (λ (x : Chained). x.keys) c.self.view_is;
  parked = reranked_parkings c.self.inside.owners c.self.inside.queue c.self.inside.buckets c.self.inside.table c.self.inside.next c.self.invariant c.args.start
      (subst (λ (x : Chained). 1 ≤ base_of x.owners c.args.start) (sym c.self.view_is) c.requires.admitted)
      (subst (λ (x : Chained). IsRepairedBut c.args.start x.owners) (sym c.self.view_is) c.requires.repaired)
      c.walk_to-walked.result.0 c.walk_to-walked.result.1 c.walk_to-walked.new.owners c.walk_to-walked.new.table
      c.walk_to-walked.new.queue c.walk_to-walked.ensures.done c.walk_to-walked.ensures.ends
      c.rerank.new.buckets c.rerank.new.table c.rerank.ensures.changed c.rerank.ensures.words c.rerank.ensures.place
      c.rerank.ensures.outside c.rerank.ensures.holds ∙ ap (λ (x : Chained). x.parked) c.self.view_is;
}
