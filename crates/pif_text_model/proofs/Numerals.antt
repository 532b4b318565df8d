-- The value of digits, read from the left.
use Rattle.std.proofs.Common.{◌≡◌, ℕ, ◌+◌, ◌-◌, ◌*◌, ◌<◌, ◌≤◌, ◌^◌, ◌≢◌, ◌&&◌, ◌==◌, zero, suc, Bool, true, false, List, [], ◌∷◌, Some, None, length, get_or, take, refl, ap, ◌∙◌, arith, decimal}
use Rattle.std.specs.Char.{is_ascii_digit, digit_value}
use Rattle.std.specs.Str.{all_ascii_digits}
use Rattle.std.specs.Str.Parse.{digits_value}
use Rattle.std.proofs.lemmas.Bool.Decides.{nat_tests}
use Rattle.std.proofs.lemmas.Int.Digits.{digits_value_more}
use Rattle.std.proofs.lemmas.Str.Parse.{digits_value-take-le, tells_all_ascii_digits, numerals_by_value, IsNumeralModel}
use Rattle.std.proofs.lemmas.List.Recursion.{and_from_places, and_fails_at}
use Rattle.std.proofs.lemmas.Fmt.{digits_decimal, digits_value-decimal, first_decimal, decimal_digit, decimal_nonempty}
use Rattle.pif_text_model.specs.Numbers.{value_in, number_in, is_numeral}

-- one more digit
pub value_more : (digits : List ℕ) (i : ℕ) → i < length digits → is_ascii_digit (get_or digits i 0) ≡ true → digits_value 10 (take (i + 1) digits) ≡ digits_value 10 (take i digits) * 10 + (get_or digits i 0 - 48)
value_more digits i lt here =
    let one : digit_value (get_or digits i 0) ≡ get_or digits i 0 - 48 = grind (arith, nat_tests) in
    digits_value_more 10 digits i lt ∙ ap (λ d. digits_value 10 (take i digits) * 10 + d) one

-- another byte among them
pub value_none_at : (digits : List ℕ) (i : ℕ) → i < length digits → is_ascii_digit (get_or digits i 0) ≡ false → value_in digits ≡ None
unfolding value_in
value_none_at digits i lt here =
    let other : all_ascii_digits digits ≡ false = and_fails_at all_ascii_digits is_ascii_digit refl (λ _ _. refl) digits i 0 lt here in
    rw other refl

-- too large a front
pub value_none_above : (digits : List ℕ) (i : ℕ) → 4294967296 ≤ digits_value 10 (take i digits) → value_in digits ≡ None
unfolding value_in
value_none_above digits i above =
    let large : 4294967296 ≤ digits_value 10 digits = omega (arith, digits_value-take-le 10 digits i (omega arith)) in
    grind (arith, nat_tests)

-- digits throughout
pub value_some : (digits : List ℕ) → ((k : ℕ) → k < length digits → is_ascii_digit (get_or digits k 0) ≡ true) → digits_value 10 digits < 4294967296 → value_in digits ≡ Some (digits_value 10 digits)
unfolding value_in
value_some digits each below =
    let throughout : all_ascii_digits digits ≡ true = and_from_places all_ascii_digits is_ascii_digit refl (λ _ _. refl) digits 0 each in
    rw throughout (grind (arith, nat_tests))

and_true : (a b : Bool) → (a && b) ≡ true → a ≡ true
and_true true b h = refl
and_true false b h = h

numeral_is : (digits : List ℕ) → all_ascii_digits digits ≡ true → 0 < length digits → (get_or digits 0 0 ≡ 48 → length digits ≡ 1) → is_numeral digits ≡ true
numeral_is [] each some first = absurd (omega arith)
numeral_is (d ∷ []) each some first = and_true (is_ascii_digit d) true each
numeral_is (d ∷ e ∷ ds) each some first =
    let other : d ≢ 48 = λ h. absurd (omega (arith, first h)) in
    let unequal : (d == 48) ≡ false = grind (arith, nat_tests) in
    rw (unequal, each) refl

pub own : IsNumeralModel (λ ds. all_ascii_digits ds ≡ true) (digits_value 10)
own = numerals_by_value _ tells_all_ascii_digits

lone_zero : (n : ℕ) → n < 4294967296 → get_or (decimal n) 0 0 ≡ 48 → length (decimal n) ≡ 1
lone_zero zero small h = ap length (decimal_digit 0 (omega arith))
lone_zero (suc n) small h = absurd (omega (arith, first_decimal (suc n) (omega arith) (omega arith)))

-- a number below 2 ^ 32, written in decimal digits, is read as itself
pub number_decimal : (n : ℕ) → n < 4294967296 → number_in (decimal n) ≡ Some n
unfolding number_in
number_decimal n small =
    let wide : n < 2 ^ 64 = omega arith in
    let numeral : is_numeral (decimal n) ≡ true = numeral_is (decimal n) (digits_decimal own n wide) (decimal_nonempty n wide) (lone_zero n small) in
    let value : digits_value 10 (decimal n) ≡ n = digits_value-decimal own n wide in
    rw (numeral, value) (grind (arith, nat_tests))
