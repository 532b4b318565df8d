-- A text with nothing but its words, byte by byte.
use Rattle.std.proofs.Common.{◌≡◌, ℕ, ◌+◌, ◌<◌, ◌≤◌, ◌==◌, not, Bool, true, false, List, [], ◌∷◌, ◌++◌, append-nil, append_assoc, drop, get_or, length, refl, sym, ap, ◌∙◌, arith, if◌then◌else◌}
use Rattle.std.specs.Prelude.{filter}
use Rattle.std.specs.List.{join_with_byte, onto_first, slice_split}
use Rattle.std.proofs.lemmas.Bool.{and_from, and_parts, false≢true}
use Rattle.std.proofs.lemmas.List.{drop_all, drop_more}
use Rattle.std.proofs.lemmas.List.Splits.{slice_split-cons_no, slice_split-cons_yes}
use Rattle.pif_text_model.proofs.Plain.{lacks}
use Rattle.pif_script_model.specs.Lines.{is_blank, is_word, plain, words_in}

-- words behind a word: one space before them, if there are any
abbrev pub spaced : List (List ℕ) → List ℕ
spaced [] = []
spaced (word ∷ words) = 32 ∷ join_with_byte 32 (word ∷ words)

-- what is left of a text behind a byte of a word
unfoldable pub behind_byte : List ℕ → List ℕ
behind_byte [] = []
behind_byte (x ∷ xs) = if is_blank x then spaced (words_in xs) else x ∷ behind_byte xs

pub plain_nothing : plain [] ≡ []
unfolding plain words_in
plain_nothing = refl

pub spaced_nothing : spaced (words_in []) ≡ []
unfolding words_in
spaced_nothing = refl

pub behind_nothing : behind_byte [] ≡ []
unfolding behind_byte
behind_nothing = refl

pub behind_blank : (x : ℕ) (xs : List ℕ) → is_blank x ≡ true → behind_byte (x ∷ xs) ≡ spaced (words_in xs)
unfolding behind_byte
behind_blank x xs e = ap (λ b. if b then spaced (words_in xs) else x ∷ behind_byte xs) e

pub behind_more : (x : ℕ) (xs : List ℕ) → is_blank x ≡ false → behind_byte (x ∷ xs) ≡ x ∷ behind_byte xs
unfolding behind_byte
behind_more x xs e = ap (λ b. if b then spaced (words_in xs) else x ∷ behind_byte xs) e

-- a blank in front says nothing
words_blank : (x : ℕ) (xs : List ℕ) → is_blank x ≡ true → words_in (x ∷ xs) ≡ words_in xs
unfolding words_in
words_blank x xs e = ap (filter is_word) (slice_split-cons_yes is_blank x xs e)

pub plain_blank : (x : ℕ) (xs : List ℕ) → is_blank x ≡ true → plain (x ∷ xs) ≡ plain xs
unfolding plain
plain_blank x xs e = ap (join_with_byte 32) (words_blank x xs e)

pub spaced_blank : (x : ℕ) (xs : List ℕ) → is_blank x ≡ true → spaced (words_in (x ∷ xs)) ≡ spaced (words_in xs)
spaced_blank x xs e = ap spaced (words_blank x xs e)

-- the parts of a text behind a byte of a word: the rest of the word, and the words behind it
rest_of : List (List ℕ) → List (List ℕ)
rest_of [] = [] ∷ []
rest_of (part ∷ parts) = part ∷ filter is_word parts

first_word : (x : ℕ) (parts : List (List ℕ)) → filter is_word (onto_first x parts) ≡ onto_first x (rest_of parts)
unfolding rest_of
first_word x [] = refl
first_word x (part ∷ parts) = refl

words_more : (x : ℕ) (xs : List ℕ) → is_blank x ≡ false
    → words_in (x ∷ xs) ≡ onto_first x (rest_of (slice_split is_blank xs))
unfolding words_in
words_more x xs e =
    ap (filter is_word) (slice_split-cons_no is_blank x xs e) ∙ first_word x (slice_split is_blank xs)

joined : (x : ℕ) (parts : List (List ℕ))
    → join_with_byte 32 (onto_first x (rest_of parts)) ≡ x ∷ join_with_byte 32 (rest_of parts)
unfolding rest_of
joined x [] = refl
joined x (part ∷ parts) = by_rest (filter is_word parts)
  where
    by_rest : (ps : List (List ℕ)) → join_with_byte 32 ((x ∷ part) ∷ ps) ≡ x ∷ join_with_byte 32 (part ∷ ps)
    by_rest [] = refl
    by_rest (p ∷ ps) = refl

rest_of-longer : (x : ℕ) (parts : List (List ℕ)) → rest_of (onto_first x parts) ≡ onto_first x (rest_of parts)
unfolding rest_of
rest_of-longer x [] = refl
rest_of-longer x (part ∷ parts) = refl

-- no word is left of the one that ends at a blank; those behind it are spaced
rest-spaced : (words : List (List ℕ)) → join_with_byte 32 ([] ∷ words) ≡ spaced words
rest-spaced [] = refl
rest-spaced (word ∷ words) = refl

rest_is : (xs : List ℕ) → join_with_byte 32 (rest_of (slice_split is_blank xs)) ≡ behind_byte xs
unfolding rest_of words_in
rest_is [] = sym behind_nothing
rest_is (x ∷ xs) = by_test (is_blank x) refl (rest_is xs)
  where
    by_test : (b : Bool) → is_blank x ≡ b → join_with_byte 32 (rest_of (slice_split is_blank xs)) ≡ behind_byte xs
        → join_with_byte 32 (rest_of (slice_split is_blank (x ∷ xs))) ≡ behind_byte (x ∷ xs)
    by_test true e h =
        ap (λ l. join_with_byte 32 (rest_of l)) (slice_split-cons_yes is_blank x xs e)
        ∙ rest-spaced (filter is_word (slice_split is_blank xs)) ∙ sym (behind_blank x xs e)
    by_test false e h =
        ap (λ l. join_with_byte 32 (rest_of l)) (slice_split-cons_no is_blank x xs e)
        ∙ ap (join_with_byte 32) (rest_of-longer x (slice_split is_blank xs)) ∙ joined x (slice_split is_blank xs)
        ∙ ap (λ l. x ∷ l) h ∙ sym (behind_more x xs e)

-- a byte of a word in front
pub plain_more : (x : ℕ) (xs : List ℕ) → is_blank x ≡ false → plain (x ∷ xs) ≡ x ∷ behind_byte xs
unfolding plain
plain_more x xs e =
    ap (join_with_byte 32) (words_more x xs e) ∙ joined x (slice_split is_blank xs) ∙ ap (λ l. x ∷ l) (rest_is xs)

pub spaced_more : (x : ℕ) (xs : List ℕ) → is_blank x ≡ false → spaced (words_in (x ∷ xs)) ≡ 32 ∷ x ∷ behind_byte xs
unfolding rest_of
spaced_more x xs e =
    ap spaced (words_more x xs e) ∙ by_parts (slice_split is_blank xs) ∙ ap (λ l. 32 ∷ x ∷ l) (rest_is xs)
  where
    by_parts : (parts : List (List ℕ))
        → spaced (onto_first x (rest_of parts)) ≡ 32 ∷ x ∷ join_with_byte 32 (rest_of parts)
    by_parts [] = refl
    by_parts (part ∷ parts) = ap (λ l. 32 ∷ l) (joined x (part ∷ parts))

-- ---- a text up to a place

-- what is left of a text: `begun` says whether a word has begun, and `gap` whether a blank stands behind it
abbrev pub left_by : (begun gap : Bool) → List ℕ → List ℕ
left_by begun gap rest = if gap then spaced (words_in rest) else if begun then behind_byte rest else plain rest

left-nothing : (begun gap : Bool) → left_by begun gap [] ≡ []
left-nothing begun true = spaced_nothing
left-nothing true false = behind_nothing
left-nothing false false = plain_nothing

left-blank : (begun gap : Bool) (x : ℕ) (xs : List ℕ) → (gap ≡ true → begun ≡ true) → is_blank x ≡ true
    → left_by begun gap (x ∷ xs) ≡ left_by begun begun xs
left-blank true true x xs h e = spaced_blank x xs e
left-blank true false x xs h e = behind_blank x xs e
left-blank false true x xs h e = absurd (false≢true (h refl))
left-blank false false x xs h e = plain_blank x xs e

-- a byte of a word, and before it the space that is due
abbrev pub byte_behind : (gap : Bool) → ℕ → List ℕ
byte_behind gap x = if gap then 32 ∷ x ∷ [] else x ∷ []

left-byte : (begun gap : Bool) (x : ℕ) (xs : List ℕ) → is_blank x ≡ false
    → left_by begun gap (x ∷ xs) ≡ byte_behind gap x ++ left_by true false xs
left-byte begun true x xs e = spaced_more x xs e
left-byte true false x xs e = behind_more x xs e
left-byte false false x xs e = plain_more x xs e

-- a text that was written as far as a place, and the byte there
module _ (whole out text : List ℕ) (i d : ℕ) (lt : i < length text) (begun gap : Bool) where
  -- a blank
  pub at_blank : whole ≡ out ++ left_by begun gap (drop i text) → (gap ≡ true → begun ≡ true)
      → is_blank (get_or text i d) ≡ true → whole ≡ out ++ left_by begun begun (drop (i + 1) text)
  at_blank e h blank =
      e ∙ ap (λ l. out ++ left_by begun gap l) (drop_more text i d lt)
      ∙ ap (λ l. out ++ l) (left-blank begun gap (get_or text i d) (drop (i + 1) text) h blank)

  -- a byte of a word
  pub at_byte : whole ≡ out ++ left_by begun gap (drop i text) → is_blank (get_or text i d) ≡ false
      → whole ≡ (out ++ byte_behind gap (get_or text i d)) ++ left_by true false (drop (i + 1) text)
  at_byte e none =
      e ∙ ap (λ l. out ++ left_by begun gap l) (drop_more text i d lt)
      ∙ ap (λ l. out ++ l) (left-byte begun gap (get_or text i d) (drop (i + 1) text) none)
      ∙ sym (append_assoc out (byte_behind gap (get_or text i d)) (left_by true false (drop (i + 1) text)))

-- all of it
pub at_end : (whole out text : List ℕ) (i : ℕ) (begun gap : Bool) → whole ≡ out ++ left_by begun gap (drop i text)
    → length text ≤ i → out ≡ whole
at_end whole out text i begun gap e le =
    sym (e ∙ ap (λ l. out ++ left_by begun gap l) (drop_all i text le) ∙ ap (λ l. out ++ l) (left-nothing begun gap)
    ∙ append-nil out)

-- ---- what a text lacks, and how long it is

lacks-all : (xs : List ℕ) → lacks 10 xs ≡ true
    → (lacks 10 (plain xs) ≡ true) × (lacks 10 (spaced (words_in xs)) ≡ true) × (lacks 10 (behind_byte xs) ≡ true)
lacks-all [] e = (ap (lacks 10) plain_nothing, ap (lacks 10) spaced_nothing, ap (lacks 10) behind_nothing)
lacks-all (x ∷ xs) e =
    let p = and_parts (not (x == 10)) (lacks 10 xs) e in
    by_test (is_blank x) refl (lacks-all xs p.1) p.0
  where
    by_test : (b : Bool) → is_blank x ≡ b
        → ((lacks 10 (plain xs) ≡ true) × (lacks 10 (spaced (words_in xs)) ≡ true) × (lacks 10 (behind_byte xs) ≡ true))
        → not (x == 10) ≡ true
        → (lacks 10 (plain (x ∷ xs)) ≡ true) × (lacks 10 (spaced (words_in (x ∷ xs))) ≡ true)
        × (lacks 10 (behind_byte (x ∷ xs)) ≡ true)
    by_test true e h n = (
      ap (lacks 10) (plain_blank x xs e) ∙ h.0,
      ap (lacks 10) (spaced_blank x xs e) ∙ h.1,
      ap (lacks 10) (behind_blank x xs e) ∙ h.1,
    )
    by_test false e h n =
        let here : lacks 10 (x ∷ behind_byte xs) ≡ true =
        and_from (not (x == 10)) (lacks 10 (behind_byte xs)) n h.2 in (
          ap (lacks 10) (plain_more x xs e) ∙ here,
          ap (lacks 10) (spaced_more x xs e) ∙ here,
          ap (lacks 10) (behind_more x xs e) ∙ here,
        )

pub plain_lacks : (xs : List ℕ) → lacks 10 xs ≡ true → lacks 10 (plain xs) ≡ true
plain_lacks xs e = (lacks-all xs e).0

fits-all : (xs : List ℕ)
    → (length (plain xs) ≤ length xs) × (length (spaced (words_in xs)) ≤ length xs + 1)
    × (length (behind_byte xs) ≤ length xs)
fits-all [] =
    let p = ap length plain_nothing in
    let s = ap length spaced_nothing in
    let b = ap length behind_nothing in (omega (arith, p), omega (arith, s), omega (arith, b))
fits-all (x ∷ xs) = by_test (is_blank x) refl (fits-all xs)
  where
    by_test : (b : Bool) → is_blank x ≡ b
        → ((length (plain xs) ≤ length xs) × (length (spaced (words_in xs)) ≤ length xs + 1)
        × (length (behind_byte xs) ≤ length xs))
        → (length (plain (x ∷ xs)) ≤ length (x ∷ xs)) × (length (spaced (words_in (x ∷ xs))) ≤ length (x ∷ xs) + 1)
        × (length (behind_byte (x ∷ xs)) ≤ length (x ∷ xs))
    by_test true e h =
        let p = ap length (plain_blank x xs e) in
        let s = ap length (spaced_blank x xs e) in
        let b = ap length (behind_blank x xs e) in
        let hp = h.0 in
        let hs = h.1 in (omega (arith, p, hp), omega (arith, s, hs), omega (arith, b, hs))
    by_test false e h =
        let p = ap length (plain_more x xs e) in
        let s = ap length (spaced_more x xs e) in
        let b = ap length (behind_more x xs e) in
        let hb = h.2 in (omega (arith, p, hb), omega (arith, s, hb), omega (arith, b, hb))

-- a text is not longer then
pub plain_fits : (xs : List ℕ) → length (plain xs) ≤ length xs
plain_fits xs = (fits-all xs).0
