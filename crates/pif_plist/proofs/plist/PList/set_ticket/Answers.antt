use Rattle.std.proofs.Common.{sym, subst}
use Rattle.pif_nodes_model.specs.declared.keys.Key.{Key}
use Rattle.pif_nodes_model.specs.Table.{NodeLists, IsApart}
use Rattle.pif_nodes_model.specs.Order.{IsSorted}
use Rattle.pif_plist.proofs.RekeyLemmas.{rekeyed_others}
use Rattle.pif_plist.proofs.plist.PList.set_ticket.Goals as goal

pub returns-clause-others : goal.returns-clause-others
returns-clause-others c = λ k ne h.
    let key : Key = record { prio = c.key-prio.result.prio; ticket = c.args.ticket } in
    subst (λ (t : NodeLists). IsSorted t k) (sym c.set_key.ensures.renamed)
    (rekeyed_others c.args.table.now c.args.self.now c.args.node key
    (subst IsApart c.set_key.ensures.renamed c.set_key.ensures.apart) c.requires.held k ne h)
