use Rattle.std.proofs.Common.{◌≡◌, ◌∙◌, ◌%◌, Some, sym}
use Rattle.pif_kernel_model.specs.Entries.{node_with, IsEntered}
use Rattle.pif_kernel_model.proofs.EntryLemmas.{with-stands}
use Rattle.pif_queue.proofs.entries.Entries.find.Goals as goal

-- the node that was found is that of a row
found : (c : goal.In_ok-node) → IsEntered c.args.self.now (c.args.word % 64) c.in_ok-node.node
found c =
    let at : node_with c.args.self.now c.args.table.now c.args.word ≡ Some c.in_ok-node.node =
    sym c.node_with.ensures ∙ c.in_ok-node.was in
    (with-stands c.args.self.now c.args.table.now c.requires c.args.word c.in_ok-node.node at).2

pub entry-requires-clause-low : goal.entry-requires-clause-low
entry-requires-clause-low c = (found c).low

pub entry-requires-clause-row : goal.entry-requires-clause-row
entry-requires-clause-row c = (found c).row
