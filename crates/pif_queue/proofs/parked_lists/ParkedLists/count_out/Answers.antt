use Rattle.std.proofs.Common.{◌≡◌, ℕ, List, sym, ◌∙◌, ap, arith}
use Rattle.std.proofs.lemmas.List.{set-get_or}
use Rattle.pif_nodes_model.specs.Lists.{list_without}
use Rattle.pif_nodes_model.specs.Table.{NodeLists, list_at}
use Rattle.pif_kernel_model.specs.Differences.{differences}
use Rattle.pif_kernel_model.specs.Parked.{ParkedLists, with_differing, differing_at, variable_list, target_of}
use Rattle.pif_queue.proofs.ParkedLemmas.{counts, few-differences, none-left}
use Rattle.pif_queue.proofs.parked_lists.ParkedLists.count_out.Goals as goal

pub returns-then-differing-eq0 : goal.returns-then-differing-eq0
returns-then-differing-eq0 c =
    let p : ParkedLists = c.args.self.now in
    let t : NodeLists = c.args.table.now in
    let zero : differing_at p c.args.c ≡ 0 = sym c.count-differing.ensures ∙ c.if-differing-eq0.true in
    let left : differences (target_of p) (list_without c.args.node (list_at t (variable_list p c.args.c))) ≡ 0 =
    none-left p t c.requires.stand c.args.c c.args.node c.requires.cond c.requires.held
    (sym c.requires.counted ∙ zero) in
    sym
    (ap (λ (n : ℕ). with_differing c.args.c n p) (left ∙ sym zero)
    ∙ ap (λ (ds : List ℕ). record p { differing = ds }) (set-get_or p.differing c.args.c 0))

pub overflow_add-differing : goal.overflow_add-differing
overflow_add-differing c =
    let p : ParkedLists = c.args.self.now in
    let t : NodeLists = c.args.table.now in
    omega (
      arith,
      counts p t c.requires.stand c.args.c c.args.node c.requires.cond c.requires.held,
      few-differences p t c.requires.stand c.args.c c.args.node c.requires.cond c.requires.held,
      c.requires.counted,
      c.count-differing.ensures,
      c.around-around.ensures.value,
      c.across-across.ensures.value,
      c.self.invariant.nodes,
      ap (λ (q : ParkedLists). q.first_node) c.self.view_is,
      ap (λ (q : ParkedLists). q.threads) c.self.view_is,
    )

pub overflow_sub-differing : goal.overflow_sub-differing
overflow_sub-differing c =
    let p : ParkedLists = c.args.self.now in
    let t : NodeLists = c.args.table.now in
    omega (
      arith,
      counts p t c.requires.stand c.args.c c.args.node c.requires.cond c.requires.held,
      c.requires.counted,
      c.count-differing.ensures,
      c.around-around.ensures.value,
      c.across-across.ensures.value,
    )

pub returns : goal.returns
returns c =
    let p : ParkedLists = c.args.self.now in
    let t : NodeLists = c.args.table.now in
    c.set_count.ensures
    ∙ ap (λ n. with_differing c.args.c n p)
    (omega (
      arith,
      counts p t c.requires.stand c.args.c c.args.node c.requires.cond c.requires.held,
      c.requires.counted,
      c.count-differing.ensures,
      c.around-around.ensures.value,
      c.across-across.ensures.value,
    ))
