-- The first element of which something holds.
use Rattle.std.proofs.Common.{◌≡◌, ℕ, ◌<◌, List, length, take, get_or, refl}
use Rattle.std.proofs.lemmas.Option.{slice_get_read}
use Rattle.std.specs.List.{All}
use Rattle.std.proofs.lemmas.List.Elements.{All-weaker}
use Rattle.pif_desk.specs.Settling.{IsFirst}

-- if Q holds of all elements before this one, and no element has both P and Q
pub first_at : {A : Type 0} (P Q : A → Type 0) → ((y : A) → Q y → P y → ⊥) → (xs : List A) (i : ℕ) (x : A)
    → i < length xs
    → x ≡ get_or xs i x → P x → All Q (take i xs) → IsFirst P xs x
first_at P Q apart xs i x room read holds before = record {
  place = i;
  here = slice_get_read xs (length xs) i x refl room read;
  holds = holds;
  not_before = All-weaker Q (λ y. P y → ⊥) apart (take i xs) before;
}
