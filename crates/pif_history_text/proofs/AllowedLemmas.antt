-- A text has words, so that the rules which it names are some.
use Rattle.std.proofs.Common.{ℕ, ◌≡◌, ◌≤◌, ◌==◌, ◌∙◌, true, false, List, [], ◌∷◌, Some, Ok, Err, length, refl, ap, arith, bytes_eq, codes}
use Rattle.std.specs.List.{list_any}
use Rattle.std.proofs.lemmas.List.Splits.{length-slice_split}
use Rattle.pif_text_model.specs.Words.{words}
use Rattle.pif_rules_model.specs.Sets.{no_rules}
use Rattle.pif_rules_model.specs.declared.rules.Rules.{Rules}
use Rattle.pif_text_model.specs.declared.replies.Cause.TheVariants.{Limits as OutOfRange}
use Rattle.pif_history_text.specs.Histories.{Heard, is_begin, after_allow, next_number}
use Rattle.pif_history_text.specs.Allowed.{rules_in, some_rules_in, with_rule, with_recursion}
use Rattle.pif_rules.specs.Sets.{both, have_common}
use Rattle.pif_rules.specs.Words.{are_beyond, bounds_in}

by_length : (ws : List (List ℕ)) → 1 ≤ length ws → some_rules_in ws ≡ rules_in no_rules ws
by_length [] h = absurd (omega arith)
by_length (w ∷ ws) h = refl

has_words : (text : List ℕ) → 1 ≤ length (words text)
unfolding words
has_words text = omega (arith, length-slice_split (λ (byte : ℕ). byte == 32) text)

-- the rule that stands first is named by its word alone, or by its word and a number
by_first : (r q : Rules) (word : List ℕ) (ws : List (List ℕ)) → 1 ≤ length ws → bytes_eq word (codes "recursion") ≡ false
    → with_rule r word ≡ Some q → rules_in r (word ∷ ws) ≡ rules_in q ws
unfolding rules_in
by_first r q word [] h f g = absurd (omega arith)
by_first r q word (w ∷ ws) h f g = rw (f, g) refl

pub rule_first : (r q : Rules) (text word behind : List ℕ) → words text ≡ word ∷ words behind → bytes_eq word (codes "recursion") ≡ false
    → with_rule r word ≡ Some q → rules_in r (words text) ≡ rules_in q (words behind)
rule_first r q text word behind e f g = ap (rules_in r) e ∙ by_first r q word (words behind) (has_words behind) f g

pub recursion_first : (r q : Rules) (text word behind number : List ℕ) (more : List (List ℕ)) → words text ≡ word ∷ words behind
    → words behind ≡ number ∷ more → bytes_eq word (codes "recursion") ≡ true → with_recursion r (bounds_in number) ≡ Some q
    → rules_in r (words text) ≡ rules_in q more
unfolding rules_in
recursion_first r q text word behind number more e d f g = rw (e, d, f, g) refl

pub some_are_named : (text : List ℕ) → some_rules_in (words text) ≡ rules_in no_rules (words text)
some_are_named text = by_length (words text) (has_words text)

-- the rules of a line are taken, or their bounds are out of range
pub allow_new : (h : Heard) (r q : Rules) → list_any is_begin h.shown ≡ false → have_common h.allowed r ≡ false
    → are_beyond r.recursion ≡ false → q ≡ both h.allowed r
    → after_allow h r ≡ Ok (record h { allowed = q; count = next_number h })
allow_new h r q a b c d = rw (a, b, c, d) refl

pub allow_small : (h : Heard) (r : Rules) → list_any is_begin h.shown ≡ false → have_common h.allowed r ≡ false
    → are_beyond r.recursion ≡ true → after_allow h r ≡ Err OutOfRange
allow_small h r a b c = rw (a, b, c) refl
