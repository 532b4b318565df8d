-- Bytes that have neither LF nor an equals sign, and are few: numbers, names, and words behind words.
use Rattle.std.proofs.Common.{◌≡◌, ℕ, ◌+◌, ◌<◌, ◌≤◌, ◌==◌, ◌&&◌, not, Bool, true, false, List, [], ◌∷◌, ◌++◌, length, length-append, refl, ap, arith, decimal, codes}
use Rattle.std.specs.Char.{is_ascii_digit}
use Rattle.std.specs.Str.{all_ascii_digits}
use Rattle.std.proofs.lemmas.Bool.{and_parts, and_from}
use Rattle.std.proofs.lemmas.Bool.Decides.{nat_tests}
use Rattle.std.proofs.lemmas.Fmt.{digits_decimal, length-decimal-le}
use Rattle.pif_text_model.specs.Replies.{thread_name, mutex_name, cond_name}
use Rattle.pif_text_model.proofs.Numerals.{own}

-- this byte is not among them
abbrev pub lacks : ℕ → List ℕ → Bool
lacks b [] = true
lacks b (byte ∷ more) = not (byte == b) && lacks b more

pub lacks-append : (b : ℕ) (xs ys : List ℕ) → lacks b xs ≡ true → lacks b ys ≡ true → lacks b (xs ++ ys) ≡ true
lacks-append b [] ys e f = f
lacks-append b (x ∷ xs) ys e f =
    let t = and_parts (not (x == b)) (lacks b xs) e in
    and_from (not (x == b)) (lacks b (xs ++ ys)) t.0 (lacks-append b xs ys t.1 f)

-- at most so many bytes, with neither LF nor an equals sign
pub record IsPlain (most : ℕ) (bytes : List ℕ) : Type 0 where
  pub no_end : lacks 10 bytes ≡ true
  pub no_equals : lacks 61 bytes ≡ true
  pub short : length bytes ≤ most

pub plain-append : (m n : ℕ) (xs ys : List ℕ) → IsPlain m xs → IsPlain n ys → IsPlain (m + n) (xs ++ ys)
plain-append m n xs ys p q = record {
  no_end = lacks-append 10 xs ys p.no_end q.no_end;
  no_equals = lacks-append 61 xs ys p.no_equals q.no_equals;
  short = omega (arith, length-append xs ys, p.short, q.short);
}

pub plain-more : (m n : ℕ) (xs : List ℕ) → m ≤ n → IsPlain m xs → IsPlain n xs
plain-more m n xs h p = record { no_end = p.no_end; no_equals = p.no_equals; short = omega (arith, p.short) }

digit-lacks : (b d : ℕ) → (d == b) ≡ false → not (d == b) ≡ true
digit-lacks b d e = ap not e

digits-lack_end : (digits : List ℕ) → all_ascii_digits digits ≡ true → lacks 10 digits ≡ true
digits-lack_end [] e = refl
digits-lack_end (d ∷ ds) e =
    let t = and_parts (is_ascii_digit d) (all_ascii_digits ds) e in
    let digit : is_ascii_digit d ≡ true = t.0 in
    let other : (d == 10) ≡ false = grind (arith, nat_tests) in
    and_from (not (d == 10)) (lacks 10 ds) (digit-lacks 10 d other) (digits-lack_end ds t.1)

digits-lack_equals : (digits : List ℕ) → all_ascii_digits digits ≡ true → lacks 61 digits ≡ true
digits-lack_equals [] e = refl
digits-lack_equals (d ∷ ds) e =
    let t = and_parts (is_ascii_digit d) (all_ascii_digits ds) e in
    let digit : is_ascii_digit d ≡ true = t.0 in
    let other : (d == 61) ≡ false = grind (arith, nat_tests) in
    and_from (not (d == 61)) (lacks 61 ds) (digit-lacks 61 d other) (digits-lack_equals ds t.1)

pub plain-number : (n : ℕ) → n < 4294967296 → IsPlain 10 (decimal n)
plain-number n small =
    let digits = digits_decimal own n (omega arith) in
    record {
      no_end = digits-lack_end (decimal n) digits;
      no_equals = digits-lack_equals (decimal n) digits;
      short = length-decimal-le 10 n (omega arith) (omega arith) (omega arith);
    }

pub plain-name : (letter n : ℕ) → lacks 10 (letter ∷ []) ≡ true → lacks 61 (letter ∷ []) ≡ true → n < 4294967296 → IsPlain 11 (letter ∷ decimal n)
plain-name letter n e f small =
    plain-append 1 10 (letter ∷ []) (decimal n) (record { no_end = e; no_equals = f; short = omega arith }) (plain-number n small)

pub plain-thread : (t : ℕ) → t < 4294967296 → IsPlain 11 (thread_name t)
plain-thread t small = plain-name 116 t refl refl small

pub plain-mutex : (m : ℕ) → m < 4294967296 → IsPlain 11 (mutex_name m)
plain-mutex m small = plain-name 109 m refl refl small

pub plain-cond : (c : ℕ) → c < 4294967296 → IsPlain 11 (cond_name c)
plain-cond c small = plain-name 99 c refl refl small

space-plain : IsPlain 1 (codes " ")
space-plain = record { no_end = refl; no_equals = refl; short = omega arith }

-- words of the grammar, and what stands behind them
pub behind : (m n : ℕ) (xs ys : List ℕ) → lacks 10 xs ≡ true → lacks 61 xs ≡ true → length xs ≤ m → IsPlain n ys
    → IsPlain (m + n) (xs ++ ys)
behind m n xs ys e f h p = plain-append m n xs ys (record { no_end = e; no_equals = f; short = h }) p

-- a space, and what stands behind it
pub spaced : (m n : ℕ) (xs ys : List ℕ) → IsPlain m xs → IsPlain n ys → IsPlain (m + 1 + n) (xs ++ codes " " ++ ys)
spaced m n xs ys p q = plain-append (m + 1) n (xs ++ codes " ") ys (plain-append m 1 xs (codes " ") p space-plain) q
