use Rattle.std.proofs.Common.{◌≡◌, ◌≤◌, vec_len, vec_capacity}
use Rattle.pif_desk.proofs.sleepers.put_bells.Given as goal

abbrev pub invariant-loop-thread : goal.invariant-loop-thread
invariant-loop-thread l = record {
  counted : vec_len l.bells ≡ l._thread;
  room : l.threads ≤ vec_capacity l.bells;
}
