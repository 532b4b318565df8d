use Rattle.std.proofs.Common.{◌≡◌, ◌∙◌, ap, sym, subst, Some}
use Rattle.pif_nodes_model.specs.Lists.{insert_after}
use Rattle.pif_nodes_model.specs.Table.{NodeLists, list_at, holder, with_list, with_key}
use Rattle.pif_nodes_model.specs.Order.{IsSorted, table_after_insert, OthersStaySorted}
use Rattle.pif_nodes_model.proofs.InsertLemmas.{put_is, inserted_sorted, inserted_others, place_held}
use Rattle.pif_plist.proofs.plist.PList.insert.Goals as goal

pub attach_after-requires-clause-place : goal.attach_after-requires-clause-place
attach_after-requires-clause-place c = λ x h.
    ap (λ (t : NodeLists). holder t x) c.set_key.ensures.renamed ∙ place_held c.args.table.now c.args.self.now c.args.node (record { prio = c.args.prio; ticket = c.args.ticket }) c.place-place.result c.place-place.ensures.apart c.requires.node_in c.requires.list_in c.requires.free c.requires.sorted c.place-place.ensures.place x h ∙ ap Some (sym c.self.view_is)

pub returns-clause-put : goal.returns-clause-put
returns-clause-put c =
    let named : c.set_key.new.self ≡ with_key c.args.table.now c.args.node (record { prio = c.args.prio; ticket = c.args.ticket }) = c.set_key.ensures.renamed in
    let put : c.attach_after.new.self ≡ table_after_insert c.args.table.now c.args.self.now c.args.node
    (record { prio = c.args.prio; ticket = c.args.ticket }) =
    c.attach_after.ensures.put
    ∙ (λ i. with_list (named i) (c.self.view_is i) (insert_after c.place-place.result c.args.node (list_at (named i) (c.self.view_is i))))
    ∙ ap (λ xs. with_list (with_key c.args.table.now c.args.node (record { prio = c.args.prio; ticket = c.args.ticket })) c.args.self.now xs) (put_is c.args.table.now c.args.self.now c.args.node (record { prio = c.args.prio; ticket = c.args.ticket }) c.place-place.result c.place-place.ensures.apart c.requires.node_in c.requires.list_in c.requires.free c.requires.sorted c.place-place.ensures.place) in
    put

pub returns-clause-sorted : goal.returns-clause-sorted
returns-clause-sorted c =
    let named : c.set_key.new.self ≡ with_key c.args.table.now c.args.node (record { prio = c.args.prio; ticket = c.args.ticket }) = c.set_key.ensures.renamed in
    let put : c.attach_after.new.self ≡ table_after_insert c.args.table.now c.args.self.now c.args.node
    (record { prio = c.args.prio; ticket = c.args.ticket }) =
    c.attach_after.ensures.put
    ∙ (λ i. with_list (named i) (c.self.view_is i) (insert_after c.place-place.result c.args.node (list_at (named i) (c.self.view_is i))))
    ∙ ap (λ xs. with_list (with_key c.args.table.now c.args.node (record { prio = c.args.prio; ticket = c.args.ticket })) c.args.self.now xs) (put_is c.args.table.now c.args.self.now c.args.node (record { prio = c.args.prio; ticket = c.args.ticket }) c.place-place.result c.place-place.ensures.apart c.requires.node_in c.requires.list_in c.requires.free c.requires.sorted c.place-place.ensures.place) in
    subst (λ (t : NodeLists). IsSorted t c.args.self.now) (sym put) (inserted_sorted c.args.table.now c.args.self.now c.args.node (record { prio = c.args.prio; ticket = c.args.ticket }) c.place-place.result c.place-place.ensures.apart c.requires.node_in c.requires.list_in c.requires.free c.requires.sorted c.place-place.ensures.place)

pub returns-clause-others : goal.returns-clause-others
returns-clause-others c =
    let named : c.set_key.new.self ≡ with_key c.args.table.now c.args.node (record { prio = c.args.prio; ticket = c.args.ticket }) = c.set_key.ensures.renamed in
    let put : c.attach_after.new.self ≡ table_after_insert c.args.table.now c.args.self.now c.args.node
    (record { prio = c.args.prio; ticket = c.args.ticket }) =
    c.attach_after.ensures.put
    ∙ (λ i. with_list (named i) (c.self.view_is i) (insert_after c.place-place.result c.args.node (list_at (named i) (c.self.view_is i))))
    ∙ ap (λ xs. with_list (with_key c.args.table.now c.args.node (record { prio = c.args.prio; ticket = c.args.ticket })) c.args.self.now xs) (put_is c.args.table.now c.args.self.now c.args.node (record { prio = c.args.prio; ticket = c.args.ticket }) c.place-place.result c.place-place.ensures.apart c.requires.node_in c.requires.list_in c.requires.free c.requires.sorted c.place-place.ensures.place) in
    subst (λ (t : NodeLists). OthersStaySorted c.args.table.now t c.args.self.now) (sym put) (inserted_others c.args.table.now c.args.self.now c.args.node (record { prio = c.args.prio; ticket = c.args.ticket }) c.place-place.result c.place-place.ensures.apart c.requires.node_in c.requires.list_in c.requires.free c.requires.sorted c.place-place.ensures.place)
