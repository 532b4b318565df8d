-- Options of commands, and the numbers that they give.
use Rattle.std.proofs.Common.{◌≡◌, ◌∙◌, ℕ, ◌<◌, ◌≤◌, ◌^◌, Bool, true, false, List, Option, Some, None, arith, refl, if◌then◌else◌}
use Rattle.std.specs.Str.Parse.{IsNumeral, digits_value, without_leading_plus}
use Rattle.clap.specs.ValueTests.{is_unsigned_in}
use Rattle.clap.specs.Words.{IsUnsignedIn}
use Rattle.clap.specs.declared.builder.value_parser.ValueParser.TheVariants.{Unsigned}
use Rattle.clap.proofs.ValueTestLemmas.{Accepts-accepts, accepts-Accepts}
use Rattle.pif_cli_words.specs.Options.{number_between}

-- a number if a test says so
taken : (b : Bool) (v : ℕ) → b ≡ true → v ≡ (if b then v else 0)
taken true v e = refl
taken false v e = cc

-- no number if a test says so
left_out : (b : Bool) (v : ℕ) → (b ≡ true → ⊥) → 0 ≡ (if b then v else 0)
left_out true v h = absurd (h refl)
left_out false v h = refl

module _ (low high : ℕ) (text : List ℕ) where
  -- the number that a text writes
  pub number_read : (n : ℕ) → IsNumeral 10 (without_leading_plus text)
      → digits_value 10 (without_leading_plus text) < 2 ^ 64
      → n ≡ digits_value 10 (without_leading_plus text) → low ≤ n → n ≤ high → n ≡ number_between low high (Some text)
  number_read n digits small e least most =
      let within : IsUnsignedIn low high text = (digits, small, omega (arith, e, least), omega (arith, e, most)) in
      e ∙ taken (is_unsigned_in low high text) _ (Accepts-accepts false (Unsigned low high) text within)

  -- a text that writes no number
  pub number_refused : (IsNumeral 10 (without_leading_plus text) × (digits_value 10 (without_leading_plus text) < 2 ^ 64) → ⊥)
      → 0 ≡ number_between low high (Some text)
  number_refused refused =
      left_out (is_unsigned_in low high text) _ (λ (t : is_unsigned_in low high text ≡ true).
      let within : IsUnsignedIn low high text = accepts-Accepts false (Unsigned low high) text t in
      refused (within.0, within.1))

-- a number that is given is within
pub number_within : (low high : ℕ) (given : Option (List ℕ)) → number_between low high given ≤ high
number_within low high None = omega arith
number_within low high (Some text) = by_test (is_unsigned_in low high text) refl
  where
    by_test : (b : Bool) → is_unsigned_in low high text ≡ b
        → (if b then digits_value 10 (without_leading_plus text) else 0) ≤ high
    by_test true t =
        let within : IsUnsignedIn low high text = accepts-Accepts false (Unsigned low high) text t in
        within.3
    by_test false t = omega arith
