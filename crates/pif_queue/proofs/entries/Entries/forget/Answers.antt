use Rattle.std.proofs.Common.{◌≡◌, ◌∙◌, Some, sym}
use Rattle.pif_nodes_model.specs.Table.{list_at, holder, with_list}
use Rattle.pif_nodes_model.specs.Lists.{list_without}
use Rattle.pif_kernel_model.specs.Entries.{bucket_of, node_with}
use Rattle.pif_kernel_model.proofs.EntryLemmas.{is-some, with-stands}
use Rattle.pif_queue.proofs.EntryChanges.{forgot-found, forgot-holds, forgot-outside}
use Rattle.pif_queue.proofs.entries.Entries.forget.Goals as goal

pub detach-requires : goal.detach-requires
detach-requires c =
    let at : node_with c.args.self.now c.args.table.now c.args.word ≡ Some c.in-Some.node =
    sym c.node_with.ensures ∙ c.in-Some.is in
    record {
      held =
          is-some (holder c.args.table.now c.in-Some.node) (bucket_of c.args.self.now c.args.word)
          (with-stands c.args.self.now c.args.table.now c.requires.holds c.args.word c.in-Some.node at).0;
    }

-- the node that was found, and the table without it
is_at : (c : goal.After-detach) → node_with c.args.self.now c.args.table.now c.args.word ≡ Some c.in-Some.node
is_at c = sym c.node_with.ensures ∙ c.in-Some.is

is_taken : (c : goal.After-detach)
    → c.detach.new.self
    ≡ with_list c.args.table.now (bucket_of c.args.self.now c.args.word)
    (list_without c.in-Some.node (list_at c.args.table.now (bucket_of c.args.self.now c.args.word)))
is_taken c =
    c.detach.ensures.taken (bucket_of c.args.self.now c.args.word)
    (with-stands c.args.self.now c.args.table.now c.requires.holds c.args.word c.in-Some.node (is_at c)).0

pub returns-in-Some-clause-forgotten : goal.returns-in-Some-clause-forgotten
returns-in-Some-clause-forgotten c =
    forgot-found c.args.self.now c.args.table.now c.detach.new.self c.args.word c.in-Some.node c.requires.holds (is_at c)
    (is_taken c) c.detach.ensures.holders c.detach.ensures.apart

pub returns-in-Some-clause-outside : goal.returns-in-Some-clause-outside
returns-in-Some-clause-outside c =
    forgot-outside c.args.self.now c.args.table.now c.detach.new.self c.args.word c.in-Some.node c.requires.holds (is_at c)
    (is_taken c) c.detach.ensures.holders c.detach.ensures.apart

pub returns-in-Some-clause-holds : goal.returns-in-Some-clause-holds
returns-in-Some-clause-holds c =
    forgot-holds c.args.self.now c.args.table.now c.detach.new.self c.args.word c.in-Some.node c.requires.holds (is_at c)
    (is_taken c) c.detach.ensures.holders c.detach.ensures.apart
