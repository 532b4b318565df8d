-- The bits of a mask of levels.
use Rattle.std.specs.Prelude.{◌≡◌, ◌≢◌, ℕ, ◌<◌}
use Rattle.std.specs.Int.{bit_at}

-- `now` is `was` with another bit at i
pub record ChangesBit (was now i bit : ℕ) : Type 0 where
  pub changed : bit_at now i ≡ bit
  pub others : (j : ℕ) → j ≢ i → bit_at now j ≡ bit_at was j

-- i is the greatest bit that is set
pub record IsGreatestBit (mask i : ℕ) : Type 0 where
  pub set : bit_at mask i ≡ 1
  pub greatest : (j : ℕ) → i < j → bit_at mask j ≡ 0
