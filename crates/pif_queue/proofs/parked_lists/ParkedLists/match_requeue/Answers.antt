use Rattle.std.proofs.Common.{◌∙◌, sym}
use Rattle.std.proofs.lemmas.Bool.{eqb-true, eq-eqb}
use Rattle.pif_queue.proofs.ParkedLemmas.{target-all, target-only}
use Rattle.pif_queue.proofs.parked_lists.ParkedLists.match_requeue.Goals as goal

pub returns-then-target-get : goal.returns-then-target-get
returns-then-target-get c = (
  λ none. target-all c.args.self.now c.args.table.now c.requires c.args.c c.in-Some.node c.args.m c.in-Some.ensures.cond
      c.in-Some.ensures.first (sym c.count.ensures ∙ eqb-true c.count.result 0 none)
      (sym c.target.ensures ∙ c.if-target-get.true ∙ c.get.ensures.value),
  λ all. eq-eqb c.count.result 0
      (c.count.ensures
      ∙ (target-only c.args.self.now c.args.table.now c.requires c.args.c c.in-Some.node c.args.m c.in-Some.ensures.cond
      c.in-Some.ensures.first all).0),
)

pub returns-else-target-get : goal.returns-else-target-get
returns-else-target-get c = (
  λ same. absurd (c.if-target-get.false (eqb-true c.target.result c.get.result same)),
  λ all. absurd
      (c.if-target-get.false
      (c.target.ensures
      ∙ (target-only c.args.self.now c.args.table.now c.requires c.args.c c.in-Some.node c.args.m c.in-Some.ensures.cond
      c.in-Some.ensures.first all).1
      ∙ sym c.get.ensures.value)),
)
