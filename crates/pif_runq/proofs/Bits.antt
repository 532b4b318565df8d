-- Lemmas on the bits of a mask.
use Rattle.std.proofs.Common.{◌≡◌, ℕ, suc, Option, Some, None, IfSome, ◌*◌, ◌/◌, ◌%◌, ◌^◌, ◌<◌, ◌≤◌, sym, ◌∙◌, ap, bit_and, ⊎_elim, arith}
use Rattle.std.proofs.lemmas.Nat.{and_le_l, pow_pos}
use Rattle.std.proofs.lemmas.Nat.Bits.{bit_at_clear_same, bit_at_clear_other, bit_at_above}
use Rattle.std.proofs.lemmas.Bool.{cases_lt}
use Rattle.std.proofs.Math.Nat.{pow-suc, div-eq_of_lt-le}
use Rattle.std.specs.Int.{bit_not, w128}
use Rattle.pif_nodes_model.specs.Masks.{ChangesBit, IsGreatestBit}

-- `& !(1 << i)` of 128 bits clears bit i and no other
pub clear_bit : (mask i : ℕ) → i < 128 → mask < 2 ^ 128 → ChangesBit mask (bit_and mask (bit_not w128 (1 * 2 ^ i % 2 ^ 128))) i 0
clear_bit mask i within fits =
    record {
      changed = bit_at_clear_same w128 mask i within;
      others = λ j other. ⊎_elim
          (λ low. bit_at_clear_other w128 mask i within j low other)
          (λ high. let less : bit_and mask (bit_not w128 (1 * 2 ^ i % 2 ^ 128)) < 2 ^ 128 =
          omega (arith, and_le_l mask (bit_not w128 (1 * 2 ^ i % 2 ^ 128))) in
          bit_at_above _ 128 j less high ∙ sym (bit_at_above mask 128 j fits high))
          (cases_lt j 128);
    }

-- a number from 2^i up to twice that has 1 at the bit i
half : (n p : ℕ) → 0 < p → p ≤ n → n < 2 * p → n / p ≡ 1
half n p some low high = div-eq_of_lt-le p (omega arith) (omega arith)

-- the power of two that a number reaches is its greatest bit
pub greatest_of_power : (mask i : ℕ) → 2 ^ i ≤ mask → mask < 2 * 2 ^ i → IsGreatestBit mask i
greatest_of_power mask i low high =
    record {
      set = ap (λ k. k % 2) (half mask (2 ^ i) (pow_pos i) low high);
      greatest = λ j above. bit_at_above mask (suc i) j (rw pow-suc (omega arith)) above;
    }

-- the same of a power that is there
pub greatest_found : (mask : ℕ) (o : Option ℕ) → IfSome o (λ i. 2 ^ i ≤ mask) → IfSome o (λ i. mask < 2 * 2 ^ i) → IfSome o (λ i. IsGreatestBit mask i)
greatest_found mask None low high = tt
greatest_found mask (Some i) low high = greatest_of_power mask i low high
