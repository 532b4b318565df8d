use Rattle.std.proofs.Common.{◌≡◌, ℕ, ◌*◌, ◌≤◌, [], slice_get, vec_len, vec_capacity, Option, Some}
use Rattle.atomic_table.specs.declared.shared.Seat.{Seat}
use Rattle.pif_quick.specs.declared.rule.View.{View}
use Rattle.pif_quick.specs.Places.{dealer_at, IsFreshPlace}
use Rattle.pif_quick.proofs.quick.open.deal.Given as goal

abbrev pub invariant-loop : goal.invariant-loop
invariant-loop g l = record {
  table : l.dealer.table_id ≡ l.shelf.table_id;
  dealer : l.dealer.me ≡ (dealer_at l.shelf.key.value.items (8 * l.counter) l.number, []);
  counted : vec_len l.places ≡ l.counter;
  room : l.count ≤ vec_capacity l.places;
  places : (m : ℕ) (s : Seat (Option g.row.T.Denot) (View g.row.T.Denot)) → slice_get l.places.items m ≡ Some s
      → IsFreshPlace l.shelf.key.value.items l.shelf.table_id (8 * m) l.number s;
}
