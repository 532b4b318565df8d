-- The rows so far, and room for all.
use Rattle.std.proofs.Common.{◌≡◌, ◌≤◌, vec_capacity}
use Rattle.std.specs.List.{range_with_len}
use Rattle.pif_rtmutex.proofs.rt_mutexes.rows_below.Given as goal

abbrev pub invariant-loop-row : goal.invariant-loop-row
invariant-loop-row l = record { items : l.free.items ≡ range_with_len 0 l.row; room : l.threads ≤ vec_capacity l.free }
