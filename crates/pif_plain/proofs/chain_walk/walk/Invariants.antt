-- The threads so far are repaired.
use Rattle.pif_kernel_model.proofs.Walks.{IsWalkedTo}
use Rattle.pif_plain.proofs.chain_walk.walk.Given as goal

abbrev pub invariant-loop-place : goal.invariant-loop-place
invariant-loop-place l = record {
  walked : IsWalkedTo l.place l.fn.owners l.fn.queue l.fn.table l.owners l.queue l.table;
}
