-- When a list that is in order stays so with other keys.
use Rattle.std.proofs.Common.{◌≡◌, ℕ, true, eqb, List, [], ◌∷◌, ◌∙◌}
use Rattle.std.proofs.lemmas.Bool.{or_right}
use Rattle.pif_nodes_model.specs.declared.keys.Key.{Key}
use Rattle.pif_nodes_model.specs.Lists.{has}
use Rattle.pif_nodes_model.proofs.ListLemmas.{has-head}
use Rattle.pif_nodes_model.specs.Order.{comes_before, key_in, IsInOrder}

-- a list of which each two nodes stand in their order with other keys is in order with these
pub order-as : (was now : List Key) (xs : List ℕ)
    → ((y x : ℕ) → has y xs ≡ true → has x xs ≡ true
    → comes_before (key_in now y) (key_in now x) ≡ comes_before (key_in was y) (key_in was x))
    → IsInOrder was xs → IsInOrder now xs
order-as was now [] same h = h
order-as was now (x ∷ xs) same h = (
  (λ y in'. same y x (or_right (eqb y x) (has y xs) in') (has-head x xs) ∙ h.0 y in'),
  order-as was now xs (λ y z a b. same y z (or_right (eqb y x) (has y xs) a) (or_right (eqb z x) (has z xs) b)) h.1,
)
