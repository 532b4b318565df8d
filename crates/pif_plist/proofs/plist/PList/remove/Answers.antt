use Rattle.std.proofs.Common.{sym, subst}
use Rattle.pif_nodes_model.specs.Table.{NodeLists}
use Rattle.pif_nodes_model.specs.Order.{IsSorted}
use Rattle.pif_nodes_model.proofs.InsertLemmas.{removed_sorted}
use Rattle.pif_plist.proofs.plist.PList.remove.Goals as goal

pub returns-clause-sorted : goal.returns-clause-sorted
returns-clause-sorted c =
    let l_in = c.detach.ensures.before.lists c.args.self.now c.args.node c.requires.held in
    subst (λ (t : NodeLists). IsSorted t c.args.self.now) (sym (c.detach.ensures.taken c.args.self.now c.requires.held))
    (removed_sorted c.args.table.now c.args.self.now c.args.node l_in c.requires.sorted)
