-- No answer has an LF in it.
use Rattle.std.proofs.Common.{◌≡◌, ℕ, zero, suc, ◌+◌, ◌/◌, ◌%◌, ◌==◌, not, nat_lt, Bool, true, false, List, [], ◌∷◌, Some, None, decimal, refl, ap, arith, if◌then◌else◌}
use Rattle.std.specs.Fmt.{digit_glyph, digits, digits_onto}
use Rattle.std.proofs.lemmas.Bool.{and_from}
use Rattle.std.proofs.lemmas.Bool.Decides.{nat_tests}
use Rattle.pif_types.specs.declared.errors.AddFault.TheVariants as add_fault
use Rattle.pif_types.specs.declared.errors.Refusal.TheVariants as refusal
use Rattle.pif_types.specs.declared.requests.Health.TheVariants.{Fine, Inconsistent, Unusable}
use Rattle.pif_model.specs.declared.events.Seen.{Seen}
use Rattle.pif_model.specs.declared.events.Seen.TheVariants as seen
use Rattle.pif_text_model.specs.declared.replies.Added.{Added}
use Rattle.pif_text_model.specs.declared.replies.Added.TheVariants as added
use Rattle.pif_text_model.specs.declared.replies.Fact.{Fact}
use Rattle.pif_text_model.specs.declared.replies.Fact.TheVariants as fact
use Rattle.pif_text_model.specs.declared.replies.Reply.{Reply}
use Rattle.pif_text_model.specs.declared.replies.Reply.TheVariants as reply
use Rattle.pif_text_model.specs.Numbers.{hex_digits}
use Rattle.pif_text_model.specs.Replies.{added_text, fact_text, seen_text, text_of}
use Rattle.pif_text_model.proofs.Plain.{lacks, lacks-append}

glyph : (d : ℕ) → not (digit_glyph false d == 10) ≡ true
glyph d = by_test (nat_lt d 10) refl
  where
    by_test : (b : Bool) → nat_lt d 10 ≡ b → not ((if b then 48 + d else 87 + d) == 10) ≡ true
    by_test true e = let other : (48 + d == 10) ≡ false = grind (arith, nat_tests) in ap not other
    by_test false e = let other : (87 + d == 10) ≡ false = grind (arith, nat_tests) in ap not other

-- digits in front of a text without LF
onto : (k n : ℕ) (text : List ℕ) → lacks 10 text ≡ true → lacks 10 (digits_onto k 10 false n text) ≡ true
onto zero n text e = e
onto (suc k) n text e =
    let here : lacks 10 (digit_glyph false (n % 10) ∷ text) ≡ true = and_from _ _ (glyph (n % 10)) e in
    by_test (digit_glyph false (n % 10) ∷ text) (digits_onto k 10 false (n / 10) (digit_glyph false (n % 10) ∷ text))
    (n / 10 == 0) here (onto k (n / 10) (digit_glyph false (n % 10) ∷ text) here)
  where
    by_test : (xs ys : List ℕ) (b : Bool) → lacks 10 xs ≡ true → lacks 10 ys ≡ true
        → lacks 10 (if b then xs else ys) ≡ true
    by_test xs ys true p q = p
    by_test xs ys false p q = q

pub decimal_lacks : (n : ℕ) → lacks 10 (decimal n) ≡ true
unfolding digits
decimal_lacks n = onto 64 n [] refl

hex_lacks : (k n : ℕ) → lacks 10 (hex_digits k n) ≡ true
unfolding hex_digits
hex_lacks zero n = refl
hex_lacks (suc k) n =
    lacks-append 10 (hex_digits k (n / 16)) (digit_glyph false (n % 16) ∷ []) (hex_lacks k (n / 16))
    (and_from _ _ (glyph (n % 16)) refl)

added_lacks : (a : Added) → lacks 10 (added_text a) ≡ true
unfolding added_text
added_lacks (added.Thread t) = decimal_lacks t
added_lacks (added.Mutex m) = decimal_lacks m
added_lacks (added.Cond c) = decimal_lacks c
added_lacks (added.Refused add_fault.TooMany) = refl
added_lacks (added.Refused add_fault.BadPrio) = refl
added_lacks (added.Refused add_fault.NoSuch) = refl

seen_lacks : (s : Seen) → lacks 10 (seen_text s) ≡ true
unfolding seen_text
seen_lacks seen.Begun = refl
seen_lacks seen.Went = refl
seen_lacks seen.Waits = refl
seen_lacks (seen.Answered n) = decimal_lacks n
seen_lacks seen.Ended = refl
seen_lacks seen.Ticked = refl
seen_lacks (seen.Refused refusal.Dead) = refl
seen_lacks (seen.Refused refusal.Busy) = refl
seen_lacks (seen.Refused refusal.Idle) = refl
seen_lacks (seen.Refused refusal.NoSuch) = refl
seen_lacks (seen.Refused refusal.Past) = refl

fact_lacks : (f : Fact) → lacks 10 (fact_text f) ≡ true
unfolding fact_text
fact_lacks fact.NoSuch = refl
fact_lacks (fact.Word w) = hex_lacks 8 w
fact_lacks (fact.Health Fine) = refl
fact_lacks (fact.Health Inconsistent) = refl
fact_lacks (fact.Health Unusable) = refl
fact_lacks (fact.Uses n) = decimal_lacks n
fact_lacks (fact.Priority p) = decimal_lacks p
fact_lacks fact.Dead = refl
fact_lacks (fact.Thread (Some t)) = decimal_lacks t
fact_lacks (fact.Thread None) = refl

pub reply_lacks : (r : Reply) → lacks 10 (text_of r) ≡ true
unfolding text_of
reply_lacks reply.Done = refl
reply_lacks (reply.Added a) = added_lacks a
reply_lacks (reply.Seen s) = seen_lacks s
reply_lacks (reply.Told f) = fact_lacks f
