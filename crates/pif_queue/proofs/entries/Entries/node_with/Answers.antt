use Rattle.std.proofs.Common.{◌≡◌, ◌∙◌, ◌%◌, ◌<◌, ℕ, List, Option, Some, ap, sym, subst}
use Rattle.std.proofs.lemmas.Bool.{eq-eqb, ne_eqb}
use Rattle.pif_nodes_model.specs.Lists.{next_in_list}
use Rattle.pif_nodes_model.specs.Table.{NodeLists, list_at}
use Rattle.pif_nodes_model.proofs.WalkLemmas.{left, next_of_is}
use Rattle.pif_kernel_model.specs.Entries.{Entry, Entries, bucket_of, word_of_node, IsEntered}
use Rattle.pif_kernel_model.proofs.EntryLemmas.{bucket-below}
use Rattle.pif_queue.proofs.Passing.{IsPassing, passing-has, passing-smaller, passing-step, passing-found, passing-end}
use Rattle.pif_queue.proofs.entries.Entries.node_with.Goals as goal

-- the walk stands at a node of the bucket
entered : (c : goal.In-Some) → IsEntered c.args.self.now (c.args.word % 64) c.in-Some.node
entered c =
    let e : Entries = c.args.self.now in
    let t : NodeLists = c.args.table.now in
    let xs : List ℕ = list_at t (bucket_of e c.args.word) in
    let p : IsPassing e c.args.word xs (Some c.in-Some.node) =
    subst (IsPassing e c.args.word xs) c.in-Some.is c.loop-next.invariant in
    c.requires.entered (c.args.word % 64) c.in-Some.node (bucket-below c.args.word)
    (passing-has e c.args.word xs c.in-Some.node p (c.requires.apart.once (bucket_of e c.args.word)))

pub entry-requires-clause-low : goal.entry-requires-clause-low
entry-requires-clause-low c = (entered c).low

pub entry-requires-clause-row : goal.entry-requires-clause-row
entry-requires-clause-row c = (entered c).row

pub next-next-requires : goal.next-next-requires
next-next-requires c =
    let e : Entries = c.args.self.now in
    let t : NodeLists = c.args.table.now in
    let xs : List ℕ = list_at t (bucket_of e c.args.word) in
    let p : IsPassing e c.args.word xs (Some c.in-Some.node) =
    subst (IsPassing e c.args.word xs) c.in-Some.is c.loop-next.invariant in
    c.requires.apart.nodes (bucket_of e c.args.word) c.in-Some.node
    (c.requires.apart.alone (bucket_of e c.args.word) c.in-Some.node
    (passing-has e c.args.word xs c.in-Some.node p (c.requires.apart.once (bucket_of e c.args.word))))

pub loop-next-smaller : goal.loop-next-smaller
loop-next-smaller c =
    let e : Entries = c.args.self.now in
    let t : NodeLists = c.args.table.now in
    let xs : List ℕ = list_at t (bucket_of e c.args.word) in
    let p : IsPassing e c.args.word xs (Some c.in-Some.node) =
    subst (IsPassing e c.args.word xs) c.in-Some.is c.loop-next.invariant in
    let once = c.requires.apart.once (bucket_of e c.args.word) in
    let next : c.next-next.result ≡ next_in_list xs c.in-Some.node =
    c.next-next.ensures.neighbour
    ∙ next_of_is t (bucket_of e c.args.word) c.in-Some.node c.requires.apart (passing-has e c.args.word xs c.in-Some.node p once) in
    subst (λ (o : Option ℕ). left c.next-next.result xs < left o xs) (sym c.in-Some.is)
    (passing-smaller e c.args.word xs c.in-Some.node p once c.next-next.result next)

pub loop-next-preserved : goal.loop-next-preserved
loop-next-preserved c =
    let e : Entries = c.args.self.now in
    let t : NodeLists = c.args.table.now in
    let xs : List ℕ = list_at t (bucket_of e c.args.word) in
    let p : IsPassing e c.args.word xs (Some c.in-Some.node) =
    subst (IsPassing e c.args.word xs) c.in-Some.is c.loop-next.invariant in
    let once = c.requires.apart.once (bucket_of e c.args.word) in
    let next : c.next-next.result ≡ next_in_list xs c.in-Some.node =
    c.next-next.ensures.neighbour
    ∙ next_of_is t (bucket_of e c.args.word) c.in-Some.node c.requires.apart (passing-has e c.args.word xs c.in-Some.node p once) in
    let word : c.entry-in-Some.inside.word ≡ word_of_node e c.in-Some.node =
    ap (λ (x : Entry). x.word) (c.entry-in-Some.view_is ∙ c.entry.ensures) in
    passing-step e c.args.word xs c.in-Some.node p once c.next-next.result
    (ne_eqb (word_of_node e c.in-Some.node) c.args.word (λ same. c.if-entry-word.false (word ∙ same))) next

pub returns-then-entry-word : goal.returns-then-entry-word
returns-then-entry-word c =
    let e : Entries = c.args.self.now in
    let xs : List ℕ = list_at c.args.table.now (bucket_of e c.args.word) in
    let p : IsPassing e c.args.word xs (Some c.in-Some.node) =
    subst (IsPassing e c.args.word xs) c.in-Some.is c.loop-next.invariant in
    let word : c.entry-in-Some.inside.word ≡ word_of_node e c.in-Some.node =
    ap (λ (x : Entry). x.word) (c.entry-in-Some.view_is ∙ c.entry.ensures) in
    sym
    (passing-found e c.args.word xs c.in-Some.node p (c.requires.apart.once (bucket_of e c.args.word))
    (eq-eqb (word_of_node e c.in-Some.node) c.args.word (sym word ∙ c.if-entry-word.true)))

pub returns-in_default : goal.returns-in_default
returns-in_default c =
    let e : Entries = c.args.self.now in
    let xs : List ℕ = list_at c.args.table.now (bucket_of e c.args.word) in
    c.in_default.is
    ∙ sym (passing-end e c.args.word xs (subst (IsPassing e c.args.word xs) c.in_default.is c.loop-next.invariant))
