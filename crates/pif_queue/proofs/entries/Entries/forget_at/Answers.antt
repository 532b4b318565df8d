use Rattle.std.proofs.Common.{◌≡◌, ◌∙◌, ◌<◌, length, Some, sym, ap, arith}
use Rattle.pif_nodes_model.specs.Table.{list_at, holder, with_list}
use Rattle.pif_nodes_model.specs.Lists.{list_without}
use Rattle.pif_kernel_model.specs.Entries.{Entries, bucket_of, node_of, row_of, node_with}
use Rattle.pif_kernel_model.proofs.EntryLemmas.{is-some, with-stands}
use Rattle.pif_queue.proofs.EntryChanges.{found-node, forgot-found, forgot-holds, forgot-outside}
use Rattle.pif_queue.proofs.entries.Entries.forget_at.Goals as goal

pub overflow_add-self-inside : goal.overflow_add-self-inside
overflow_add-self-inside c =
    let f = c.requires.row.0 in
    let at = found-node c.args.self.now c.args.table.now c.requires.holds c.args.word f c.requires.row.1 in
    let row : row_of c.args.self.now (node_of c.args.self.now f.row) < length c.args.self.now.items =
    (with-stands c.args.self.now c.args.table.now c.requires.holds c.args.word (node_of c.args.self.now f.row) at).2.row in
    let list : length c.self.inside.items.items ≡ length c.args.self.now.items =
    ap (λ (e : Entries). length e.items) c.self.view_is in
    record { fits = omega (arith, row, c.requires.row.2, list, c.self.invariant.nodes) }

-- the node that was taken out is that of the word
is_at : (c : goal.After-detach) → node_with c.args.self.now c.args.table.now c.args.word ≡ Some c.new-node.result
is_at c =
    found-node c.args.self.now c.args.table.now c.requires.holds c.args.word c.requires.row.0 c.requires.row.1
    ∙ ap (λ r. Some (node_of c.args.self.now r)) c.requires.row.2
    ∙ ap Some (sym (c.new-node.ensures ∙ ap (λ (e : Entries). node_of e c.args.row) c.self.view_is))

pub detach-requires : goal.detach-requires
detach-requires c =
    let at : node_with c.args.self.now c.args.table.now c.args.word ≡ Some c.new-node.result =
    found-node c.args.self.now c.args.table.now c.requires.holds c.args.word c.requires.row.0 c.requires.row.1
    ∙ ap (λ r. Some (node_of c.args.self.now r)) c.requires.row.2
    ∙ ap Some (sym (c.new-node.ensures ∙ ap (λ (e : Entries). node_of e c.args.row) c.self.view_is)) in
    record {
      held =
          is-some (holder c.args.table.now c.new-node.result) (bucket_of c.args.self.now c.args.word)
          (with-stands c.args.self.now c.args.table.now c.requires.holds c.args.word c.new-node.result at).0;
    }

is_taken : (c : goal.After-detach)
    → c.detach.new.self
    ≡ with_list c.args.table.now (bucket_of c.args.self.now c.args.word)
    (list_without c.new-node.result (list_at c.args.table.now (bucket_of c.args.self.now c.args.word)))
is_taken c =
    c.detach.ensures.taken (bucket_of c.args.self.now c.args.word)
    (with-stands c.args.self.now c.args.table.now c.requires.holds c.args.word c.new-node.result (is_at c)).0

pub returns-clause-forgotten : goal.returns-clause-forgotten
returns-clause-forgotten c =
    forgot-found c.args.self.now c.args.table.now c.detach.new.self c.args.word c.new-node.result c.requires.holds (is_at c)
    (is_taken c) c.detach.ensures.holders c.detach.ensures.apart

pub returns-clause-outside : goal.returns-clause-outside
returns-clause-outside c =
    forgot-outside c.args.self.now c.args.table.now c.detach.new.self c.args.word c.new-node.result c.requires.holds (is_at c)
    (is_taken c) c.detach.ensures.holders c.detach.ensures.apart

pub returns-clause-holds : goal.returns-clause-holds
returns-clause-holds c =
    forgot-holds c.args.self.now c.args.table.now c.detach.new.self c.args.word c.new-node.result c.requires.holds (is_at c)
    (is_taken c) c.detach.ensures.holders c.detach.ensures.apart
