-- Who stands right behind whom among the waiters of one owner state.
use Rattle.std.specs.Prelude.{◌≡◌, ◌≢◌, ℕ, true, false, Some}
use Rattle.pif_nodes_model.specs.declared.keys.Key.{Key}
use Rattle.pif_nodes_model.specs.Order.{comes_before}
use Rattle.pif_kernel_model.specs.Owners.{Owners, waits_on, rank_of}

-- t comes before no other waiter of its state
abbrev pub IsLast : Owners → ℕ → Type 0
IsLast v t = (x : ℕ) (mine other : Key) → waits_on v x ≡ waits_on v t → rank_of v t ≡ Some mine
    → rank_of v x ≡ Some other → comes_before mine other ≡ false

-- u is another waiter of the state of t, doesn't come before it, and comes no later than any other before which t comes
pub record IsBehind (v : Owners) (t u : ℕ) : Type 0 where
  pub waits : waits_on v u ≡ waits_on v t
  pub other : u ≢ t
  pub rank : Key
  pub ranked : rank_of v u ≡ Some rank
  pub behind : (mine : Key) → rank_of v t ≡ Some mine → comes_before rank mine ≡ false
  pub next : (x : ℕ) (mine other : Key) → waits_on v x ≡ waits_on v t → rank_of v t ≡ Some mine
      → rank_of v x ≡ Some other → comes_before mine other ≡ true → comes_before other rank ≡ false
