-- What the bits of a word say: the bits of their word are they again, and what `|` and `&` of the flags make of a word.
use Rattle.std.proofs.Common.{◌≡◌, ℕ, zero, suc, ◌+◌, ◌*◌, ◌/◌, ◌%◌, ◌<◌, Bool, true, false, not, ◌==◌, refl, sym, ap, ◌∙◌, arith, bit_and, bit_or, zero-mul, one-mul, eq-eqb, ne_eqb, ◌≢◌, Some, None, if◌then◌else◌}
use Rattle.std.proofs.lemmas.Nat.{and_mask, and_comm, and-not, or_block, or_comm, or_shifted}
use Rattle.std.proofs.lemmas.Nat.Bits.{and_pow}
use Rattle.std.proofs.lemmas.Bool.Decides.{nat_tests}
use Rattle.std.specs.Int.Bits.{or_zero_r}
use Rattle.pif_model.specs.Word.{Word, word_of, bits_of, flag, free_word, held_by, is_bare, take_word, release_word}

-- a word of its three parts
abbrev pub word : ℕ → Bool → Bool → Word
word n a d = record { number = n; waiters = a; died = d }

-- the word of bits whose three parts are known
word_from : (b n x y : ℕ) → b % 1073741824 ≡ n → (b / 2147483648) % 2 ≡ x → (b / 1073741824) % 2 ≡ y → word_of b ≡ word n (x == 1) (y == 1)
unfolding word_of
word_from b n x y p q r = rw (p, q, r) refl

-- the parts of the word of 32 bits
pub word_of-is : (b : ℕ) → word_of b ≡ word (b % 1073741824) ((b / 2147483648) % 2 == 1) ((b / 1073741824) % 2 == 1)
unfolding word_of
word_of-is b = refl

-- 32 bits are a number below 2^30 and two flags
pub parts : (b : ℕ) → b < 4294967296 → b % 1073741824 + ((b / 1073741824) % 2) * 1073741824 + ((b / 2147483648) % 2) * 2147483648 ≡ b
parts b h = omega arith

-- a flag that is 0 or 1, as a number and as a test
flag-bit : (x n : ℕ) → x < 2 → flag (x == 1) n ≡ x * n
flag-bit zero n h = sym (zero-mul n)
flag-bit (suc zero) n h = sym (one-mul n)
flag-bit (suc (suc x)) n h = absurd (omega arith)

-- the bits of the word of 32 bits are those bits
pub bits_of-word_of : (b : ℕ) → b < 4294967296 → bits_of (word_of b) ≡ b
unfolding bits_of word_of
bits_of-word_of b h =
    rw (flag-bit ((b / 1073741824) % 2) 1073741824 (omega arith), flag-bit ((b / 2147483648) % 2) 2147483648 (omega arith))
    (parts b h)

-- a number below 2^30 is the word of its owner, with no flag
pub word_of-number : (t : ℕ) → t < 1073741824 → word_of t ≡ held_by t
word_of-number t h = word_from t t 0 0 (omega arith) (omega arith) (omega arith)

-- whether bits with these parts are a bare number
is_bare-parts : (b n x y t : ℕ) → n < 1073741824 → x < 2 → y < 2 → t < 1073741824 → b ≡ n + y * 1073741824 + x * 2147483648 → is_bare (word n (x == 1) (y == 1)) t ≡ (b == t)
is_bare-parts b n zero zero t p q r s e = ap (λ k. k == t) (omega arith)
is_bare-parts b n zero (suc zero) t p q r s e = grind (arith, nat_tests)
is_bare-parts b n zero (suc (suc y)) t p q r s e = absurd (omega arith)
is_bare-parts b n (suc zero) y t p q r s e = grind (arith, nat_tests)
is_bare-parts b n (suc (suc x)) y t p q r s e = absurd (omega arith)

-- whether 32 bits are a bare number is whether they equal it
pub is_bare-word_of : (b t : ℕ) → b < 4294967296 → t < 1073741824 → is_bare (word_of b) t ≡ (b == t)
is_bare-word_of b t h k =
    rw word_of-is
    (is_bare-parts b (b % 1073741824) ((b / 2147483648) % 2) ((b / 1073741824) % 2) t (omega arith) (omega arith) (omega arith) k (sym (parts b h)))

-- a compare-exchange from 0 to t takes a word of 32 bits that is 0
pub take_word-hit : (b t : ℕ) → t < 1073741824 → b ≡ 0 → take_word (word_of b) t ≡ Some (word_of t)
take_word-hit b t k e =
    ap (λ (c : Bool). if c then Some (held_by t) else None) (is_bare-word_of b 0 (omega arith) (omega arith) ∙ eq-eqb b 0 e)
    ∙ ap Some (sym (word_of-number t k))

-- and fails at any other
pub take_word-miss : (b t : ℕ) → b < 4294967296 → b ≢ 0 → take_word (word_of b) t ≡ None
take_word-miss b t h n =
    ap (λ (c : Bool). if c then Some (held_by t) else None) (is_bare-word_of b 0 h (omega arith) ∙ ne_eqb b 0 n)

-- a compare-exchange from t to 0 releases a word of 32 bits that is t
pub release_word-hit : (b t : ℕ) → t < 1073741824 → b ≡ t → release_word (word_of b) t ≡ Some (word_of 0)
release_word-hit b t k e =
    ap (λ (c : Bool). if c then Some free_word else None) (is_bare-word_of b t (omega arith) k ∙ eq-eqb b t e)
    ∙ ap Some (sym (word_of-number 0 (omega arith)))

-- and fails at any other
pub release_word-miss : (b t : ℕ) → b < 4294967296 → t < 1073741824 → b ≢ t → release_word (word_of b) t ≡ None
release_word-miss b t h k n =
    ap (λ (c : Bool). if c then Some free_word else None) (is_bare-word_of b t h k ∙ ne_eqb b t n)

-- `& TID_MASK` is the number
pub number-is : (b : ℕ) → bit_and b 1073741823 ≡ (word_of b).number
unfolding word_of
number-is b = and_mask b 30

-- a flag is set if `&` with it is not 0
flag-test : (x n : ℕ) → 0 < n → x < 2 → not (x * n == 0) ≡ (x == 1)
flag-test zero n p h = rw (zero-mul n) refl
flag-test (suc zero) n p h = rw (one-mul n) (grind (arith, nat_tests))
flag-test (suc (suc x)) n p h = absurd (omega arith)

-- `& WAITERS` is not 0 if WAITERS is set
pub waiters-is : (b : ℕ) → not (bit_and b 2147483648 == 0) ≡ (word_of b).waiters
unfolding word_of
waiters-is b =
    ap (λ k. not (k == 0)) (and_pow b 31) ∙ flag-test ((b / 2147483648) % 2) 2147483648 (omega arith) (omega arith)

-- `& OWNER_DIED` is not 0 if OWNER_DIED is set
pub died-is : (b : ℕ) → not (bit_and b 1073741824 == 0) ≡ (word_of b).died
unfolding word_of
died-is b =
    ap (λ k. not (k == 0)) (and_pow b 30) ∙ flag-test ((b / 1073741824) % 2) 1073741824 (omega arith) (omega arith)

-- `| WAITERS` of bits of which the highest is x
or_waiters-bit : (x r : ℕ) → x < 2 → r < 2147483648 → bit_or (x * 2147483648 + r) 2147483648 ≡ 2147483648 + r
or_waiters-bit zero r p q = or_block 31 0 1 r 0 q (omega arith) ∙ ap (λ k. 2147483648 + k) (or_zero_r r)
or_waiters-bit (suc zero) r p q = or_block 31 1 1 r 0 q (omega arith) ∙ ap (λ k. 2147483648 + k) (or_zero_r r)
or_waiters-bit (suc (suc x)) r p q = absurd (omega arith)

-- `| WAITERS` sets the highest bit
pub or_waiters : (b : ℕ) → b < 4294967296 → bit_or b 2147483648 ≡ 2147483648 + b % 2147483648
or_waiters b h =
    let e : b ≡ (b / 2147483648) * 2147483648 + b % 2147483648 = omega arith in
    ap (λ k. bit_or k 2147483648) e ∙ or_waiters-bit (b / 2147483648) (b % 2147483648) (omega arith) (omega arith)

-- `| WAITERS` sets WAITERS in the word
pub word_of-or_waiters : (b : ℕ) → b < 4294967296 → word_of (bit_or b 2147483648) ≡ record (word_of b) { waiters = true }
unfolding word_of
word_of-or_waiters b h =
    ap word_of (or_waiters b h)
    ∙ word_from (2147483648 + b % 2147483648) (b % 1073741824) 1 ((b / 1073741824) % 2) (omega arith) (omega arith) (omega arith)

-- `| WAITERS` of a number below 2^30
pub word_of-hand : (u : ℕ) → u < 1073741824 → word_of (bit_or u 2147483648) ≡ word u true false
word_of-hand u h =
    ap word_of (or_waiters u (omega arith))
    ∙ word_from (2147483648 + u % 2147483648) u 1 0 (omega arith) (omega arith) (omega arith)

-- `& OWNER_DIED | t` is the word of t, with OWNER_DIED if it was set
pub word_of-taken : (b t : ℕ) → t < 1073741824 → word_of (bit_or (bit_and b 1073741824) t) ≡ word t false (word_of b).died
unfolding word_of
word_of-taken b t h =
    ap (λ k. word_of (bit_or k t)) (and_pow b 30) ∙ ap word_of (or_shifted ((b / 1073741824) % 2) 30 t h)
    ∙ word_from ((b / 1073741824) % 2 * 1073741824 + t) t 0 ((b / 1073741824) % 2) (omega arith) (omega arith) (omega arith)

-- `& !OWNER_DIED` clears OWNER_DIED in the word
pub word_of-without_died : (b : ℕ) → b < 4294967296 → word_of (bit_and b 3221225471) ≡ record (word_of b) { died = false }
unfolding word_of
word_of-without_died b h =
    let n : bit_and b 3221225471 + bit_and b 1073741824 ≡ b =
    ap (λ k. k + bit_and b 1073741824) (and_comm b 3221225471) ∙ ap (λ k. bit_and 3221225471 b + k) (and_comm b 1073741824)
    ∙ and-not 32 1073741824 b (omega arith) h in
    let p : bit_and b 1073741824 ≡ (b / 1073741824) % 2 * 1073741824 = and_pow b 30 in
    word_from (bit_and b 3221225471) (b % 1073741824) ((b / 2147483648) % 2) 0 (omega arith) (omega arith) (omega arith)

-- `& WAITERS | OWNER_DIED` is the word of no owner with OWNER_DIED, and with WAITERS if it was set
pub word_of-orphan : (b : ℕ) → word_of (bit_or (bit_and b 2147483648) 1073741824) ≡ word 0 (word_of b).waiters true
unfolding word_of
word_of-orphan b =
    ap (λ k. word_of (bit_or k 1073741824)) (and_pow b 31)
    ∙ ap word_of (or_shifted ((b / 2147483648) % 2) 31 1073741824 (omega arith))
    ∙ word_from ((b / 2147483648) % 2 * 2147483648 + 1073741824) 0 ((b / 2147483648) % 2) 1 (omega arith) (omega arith) (omega arith)

-- `| (WAITERS | OWNER_DIED)` of a number below 2^30
pub word_of-inherit : (u : ℕ) → u < 1073741824 → word_of (bit_or u 3221225472) ≡ word u true true
word_of-inherit u h =
    ap word_of (or_comm u 3221225472 ∙ or_shifted 3 30 u h)
    ∙ word_from (3 * 1073741824 + u) u 1 1 (omega arith) (omega arith) (omega arith)
