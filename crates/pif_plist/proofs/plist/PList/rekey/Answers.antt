use Rattle.std.proofs.Common.{◌≡◌, ◌∙◌, ap, sym, subst}
use Rattle.pif_nodes_model.specs.declared.keys.Key.{Key}
use Rattle.pif_nodes_model.specs.Table.{NodeLists, IsApart}
use Rattle.pif_nodes_model.specs.Order.{IsSorted, table_after_insert, table_after_remove, key_with_prio}
use Rattle.pif_plist.proofs.RekeyLemmas.{rekeyed-in_place, rekeyed_sorted, rekeyed_others}
use Rattle.pif_plist.proofs.plist.PList.rekey.Goals as goal

pub key-ticket-requires : goal.key-ticket-requires
key-ticket-requires c = c.has_each_node_once.ensures.nodes c.args.self.now c.args.node c.requires.held

pub keeps_place-requires : goal.keeps_place-requires
keeps_place-requires c = c.has_each_node_once.ensures.nodes c.args.self.now c.args.node c.requires.held

pub returns-then-keeps_place-clause-moved : goal.returns-then-keeps_place-clause-moved
returns-then-keeps_place-clause-moved c =
    let key : Key = record { prio = c.args.prio; ticket = c.key-ticket.result.ticket } in
    let same : key ≡ key_with_prio c.args.table.now c.args.node c.args.prio =
    ap (λ (x : Key). record { prio = c.args.prio; ticket = x.ticket }) c.key-ticket.ensures in
    c.set_key.ensures.renamed
    ∙ sym (rekeyed-in_place c.args.table.now c.args.self.now c.args.node key c.keeps_place.ensures.apart c.requires.held
    c.requires.sorted (c.keeps_place.ensures.place c.if-keeps_place.true))
    ∙ ap (table_after_insert (table_after_remove c.args.table.now c.args.self.now c.args.node) c.args.self.now c.args.node) same

pub returns-then-keeps_place-clause-sorted : goal.returns-then-keeps_place-clause-sorted
returns-then-keeps_place-clause-sorted c =
    let key : Key = record { prio = c.args.prio; ticket = c.key-ticket.result.ticket } in
    subst (λ (t : NodeLists). IsSorted t c.args.self.now) (sym c.set_key.ensures.renamed)
    (rekeyed_sorted c.args.table.now c.args.self.now c.args.node key c.keeps_place.ensures.apart c.requires.held
    c.requires.sorted (c.keeps_place.ensures.place c.if-keeps_place.true))

pub returns-then-keeps_place-clause-others : goal.returns-then-keeps_place-clause-others
returns-then-keeps_place-clause-others c = λ k ne h.
    let key : Key = record { prio = c.args.prio; ticket = c.key-ticket.result.ticket } in
    subst (λ (t : NodeLists). IsSorted t k) (sym c.set_key.ensures.renamed)
    (rekeyed_others c.args.table.now c.args.self.now c.args.node key
    (subst IsApart c.set_key.ensures.renamed c.set_key.ensures.apart) c.requires.held k ne h)
