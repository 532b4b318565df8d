use Rattle.std.proofs.Common.{◌≡◌, drop}
use Rattle.pif_parts.specs.Holdings.{count_in}
use Rattle.pif_parts.proofs.holdings.count_in.Given as goal

abbrev pub invariant-loop-place : goal.invariant-loop-place
invariant-loop-place l = count_in l.held l.thread l.mutex ≡ count_in (drop l.place l.held) l.thread l.mutex
