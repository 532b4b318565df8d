-- Texts that are made of pieces, one behind the other.
use Rattle.std.proofs.Common.{◌≡◌, ◌∙◌, List, ◌++◌, ap, append_assoc, ℕ, Result, Ok, Err, OnOk, is_ok, if◌then◌else◌}

-- Bytes that grew by these.
pub record Grown (old xs new : List ℕ) : Type 0 where
  pub is : new ≡ old ++ xs

-- By a first piece, and by one piece more.
pub grown_first : (old xs new : List ℕ) → new ≡ old ++ xs → Grown old xs new
grown_first old xs new e = record { is = e }

pub grown_more : (old xs done ys new : List ℕ) → Grown old xs done → new ≡ done ++ ys → Grown old (xs ++ ys) new
grown_more old xs done ys new d e = record { is = e ∙ ap (λ l. l ++ ys) d.is ∙ append_assoc old xs ys }

-- The same by a call whose `Result` is returned as it is.
pub on_ok_grown : {T E : Type 0} (r : Result T E) (grown old new : List ℕ) → new ≡ (if is_ok r then grown else old)
    → OnOk r (new ≡ grown)
on_ok_grown (Ok x) grown old new e = e
on_ok_grown (Err x) grown old new e = tt
