use Rattle.std.proofs.Common.{◌≡◌, ◌<◌, ℕ, slice_index_or}
use Rattle.pif_choose.specs.declared.standing.Standing.{Standing}
use Rattle.pif_choose.proofs.standing.link_of.Given as goal

abbrev pub invariant-loop-place : goal.invariant-loop-place
invariant-loop-place l =
    (s : Standing) (k : ℕ) → k < l.place → slice_index_or l.standings k s ≡ s → s.thread ≡ l.thread → s.owner ≡ 0
