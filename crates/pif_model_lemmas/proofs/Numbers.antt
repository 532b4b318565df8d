-- The test of a number of a thread or of a mutex: it is not 0, and below as many as there are.
use Rattle.std.proofs.Common.{◌≡◌, ◌≢◌, ℕ, ◌<◌, Bool, true, false, ◌==◌, nat_lt, refl, sym, ◌∙◌, if◌then◌else◌, eq-eqb, true≢false, ltb-true, lt-ltb, ne_eqb}

-- a number that passes the test is not 0
pub above_0 : (t n : ℕ) → (if t == 0 then false else nat_lt t n) ≡ true → t ≢ 0
above_0 t n h e = true≢false (sym h ∙ rw (eq-eqb t 0 e) refl)

-- and is below
pub below : (t n : ℕ) → (if t == 0 then false else nat_lt t n) ≡ true → t < n
below t n h = ltb-true t n (go (t == 0) h)
  where
    go : (b : Bool) → (if b then false else nat_lt t n) ≡ true → nat_lt t n ≡ true
    go true h = absurd (true≢false (sym h))
    go false h = h

-- both
pub within : (t n : ℕ) → (if t == 0 then false else nat_lt t n) ≡ true → (t ≢ 0) × (t < n)
within t n h = (above_0 t n h, below t n h)

-- a number that is not 0 and below passes the test
pub from_within : (t n : ℕ) → t ≢ 0 → t < n → (if t == 0 then false else nat_lt t n) ≡ true
from_within t n z h = rw (ne_eqb t 0 z) (lt-ltb t n h)
