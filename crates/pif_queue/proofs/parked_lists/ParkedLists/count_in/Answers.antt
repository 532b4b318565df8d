use Rattle.std.proofs.Common.{◌∙◌, ap, arith}
use Rattle.pif_nodes_model.specs.Table.{NodeLists}
use Rattle.pif_kernel_model.specs.Parked.{ParkedLists, with_differing}
use Rattle.pif_queue.proofs.ParkedLemmas.{counts, few-differences}
use Rattle.pif_queue.proofs.parked_lists.ParkedLists.count_in.Goals as goal

pub overflow_add-count : goal.overflow_add-count
overflow_add-count c =
    let p : ParkedLists = c.args.self.now in
    let t : NodeLists = c.args.table.now in
    omega (
      arith,
      counts p t c.requires.stand c.args.c c.args.node c.requires.cond c.requires.held,
      few-differences p t c.requires.stand c.args.c c.args.node c.requires.cond c.requires.held,
      c.requires.counted,
      c.count.ensures,
      c.around-around.ensures.value,
      c.across-across.ensures.value,
      c.self.invariant.nodes,
      ap (λ (q : ParkedLists). q.first_node) c.self.view_is,
      ap (λ (q : ParkedLists). q.threads) c.self.view_is,
    )

pub returns : goal.returns
returns c =
    let p : ParkedLists = c.args.self.now in
    let t : NodeLists = c.args.table.now in
    c.set_count.ensures
    ∙ ap (λ n. with_differing c.args.c n p)
    (omega (
      arith,
      counts p t c.requires.stand c.args.c c.args.node c.requires.cond c.requires.held,
      c.requires.counted,
      c.count.ensures,
      c.around-around.ensures.value,
      c.across-across.ensures.value,
    ))
