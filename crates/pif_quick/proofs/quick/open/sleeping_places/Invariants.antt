use Rattle.std.proofs.Common.{◌≡◌, ◌+◌, ◌≤◌, vec_len, vec_capacity}
use Rattle.pif_quick.proofs.quick.open.sleeping_places.Given as goal

abbrev pub invariant-loop : goal.invariant-loop
invariant-loop l = record {
  counted : vec_len l.places ≡ l.counter;
  room : l.passes + 1 ≤ vec_capacity l.places;
}
