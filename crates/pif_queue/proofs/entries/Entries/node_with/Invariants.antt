use Rattle.pif_nodes_model.specs.Table.{list_at}
use Rattle.pif_nodes_model.proofs.WalkLemmas.{left}
use Rattle.pif_kernel_model.specs.Entries.{bucket_of}
use Rattle.pif_queue.proofs.Passing.{IsPassing}
use Rattle.pif_queue.proofs.entries.Entries.node_with.Given as goal

-- no node that was passed has the word
abbrev pub invariant-loop-next : goal.invariant-loop-next
invariant-loop-next l = IsPassing l.self l.word (list_at l.table (bucket_of l.self l.word)) l.next

abbrev pub decreases-loop-next : goal.decreases-loop-next
decreases-loop-next l = left l.next (list_at l.table (bucket_of l.self l.word))
