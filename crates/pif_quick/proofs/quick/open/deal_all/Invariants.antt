use Rattle.std.proofs.Common.{◌≡◌, ℕ, ◌+◌, ◌≤◌, [], slice_get, vec_len, vec_capacity, Some}
use Rattle.pif_quick.specs.declared.quick.Pass.{Pass}
use Rattle.pif_quick.specs.Places.{dealer_at}
use Rattle.pif_quick.specs.Quick.{IsDealtPass}
use Rattle.pif_quick.proofs.quick.open.deal_all.Given as goal

abbrev pub invariant-loop-index : goal.invariant-loop-index
invariant-loop-index g l = record {
  table : l.dealer.table_id ≡ l.shelf.table_id;
  dealer : l.dealer.me ≡ (dealer_at l.shelf.key.value.items 0 (l.index + 1), []);
  counted : vec_len l.dealt ≡ l.index;
  room : l.passes ≤ vec_capacity l.dealt;
  dealt : (k : ℕ) (p : Pass g.row.T.Denot) → slice_get l.dealt.items k ≡ Some p
      → IsDealtPass l.shelf.key.value.items l.shelf.table_id l.count (k + 1) p;
}
