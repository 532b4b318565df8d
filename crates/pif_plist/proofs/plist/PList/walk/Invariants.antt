use Rattle.pif_nodes_model.specs.Table.{list_at}
use Rattle.pif_nodes_model.proofs.WalkLemmas.{IsWalked, left}
use Rattle.pif_plist.proofs.plist.PList.walk.Given as goal

abbrev pub invariant-loop-next : goal.invariant-loop-next
invariant-loop-next l = IsWalked l.table.keys l.key (list_at l.table l.self) l.place l.next

abbrev pub decreases-loop-next : goal.decreases-loop-next
decreases-loop-next l = left l.next (list_at l.table l.self)
