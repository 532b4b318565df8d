use Rattle.std.proofs.Common.{◌≡◌, ◌∙◌, ℕ, eqb, cond, ◌∷◌, Some, ap, sym, subst}
use Rattle.pif_nodes_model.specs.Table.{list_at, holder, with_list}
use Rattle.pif_kernel_model.specs.Entries.{Entries, bucket_of, node_of, found_in, HoldsEntries}
use Rattle.pif_kernel_model.proofs.EntryLemmas.{row-free}
use Rattle.pif_queue.proofs.EntryChanges.{put-found, put-holds}
use Rattle.pif_queue.proofs.entries.Entries.put.Goals as goal

pub attach_after-requires-clause-free : goal.attach_after-requires-clause-free
attach_after-requires-clause-free c =
    let node : c.new-node.result ≡ node_of c.args.self.now c.args.row =
    c.new-node.ensures ∙ ap (λ (e : Entries). node_of e c.args.row) c.self.view_is in
    ap (holder c.args.table.now) node
    ∙ row-free c.args.self.now c.args.table.now c.requires.holds c.args.row c.requires.row c.requires.free

-- the changed table, by the names of the definitions
is_put : (c : goal.After-write)
    → c.attach_after.new.self
    ≡ with_list c.args.table.now (bucket_of c.args.self.now c.args.word)
    (node_of c.args.self.now c.args.row ∷ list_at c.args.table.now (bucket_of c.args.self.now c.args.word))
is_put c =
    let node : c.new-node.result ≡ node_of c.args.self.now c.args.row =
    c.new-node.ensures ∙ ap (λ (e : Entries). node_of e c.args.row) c.self.view_is in
    c.attach_after.ensures.put
    ∙ (λ i. with_list c.args.table.now (c.bucket.ensures i) (node i ∷ list_at c.args.table.now (c.bucket.ensures i)))

holders_put : (c : goal.After-write) (m : ℕ)
    → holder c.attach_after.new.self m
    ≡ cond (eqb m (node_of c.args.self.now c.args.row))
    (Some (bucket_of c.args.self.now c.args.word)) (holder c.args.table.now m)
holders_put c m =
    let node : c.new-node.result ≡ node_of c.args.self.now c.args.row =
    c.new-node.ensures ∙ ap (λ (e : Entries). node_of e c.args.row) c.self.view_is in
    c.attach_after.ensures.holders m
    ∙ (λ i. cond (eqb m (node i)) (Some (c.bucket.ensures i)) (holder c.args.table.now m))

pub returns-clause-put : goal.returns-clause-put
returns-clause-put c = λ w.
    ap (λ (e : Entries). found_in e c.attach_after.new.self w) c.write.ensures
    ∙ put-found c.args.self.now c.args.table.now c.attach_after.new.self c.args.word c.args.key c.args.row c.requires.holds
    c.requires.row c.requires.free c.requires.none (is_put c) (holders_put c) c.attach_after.ensures.apart w

pub returns-clause-holds : goal.returns-clause-holds
returns-clause-holds c =
    subst (λ (e : Entries). HoldsEntries e c.attach_after.new.self) (sym c.write.ensures)
    (put-holds c.args.self.now c.args.table.now c.attach_after.new.self c.args.word c.args.key c.args.row c.requires.holds
    c.requires.row c.requires.free c.requires.none (is_put c) (holders_put c) c.attach_after.ensures.apart)
