-- Lines that are split at LF, and texts without the blanks at their end.
use Rattle.std.proofs.Common.{◌≡◌, ℕ, ◌+◌, ◌<◌, ◌≤◌, zero, suc, nat_lt, ◌≢◌, ◌==◌, ◌&&◌, List, [], ◌∷◌, ◌++◌, Bool, true, false, cond, count_by, length, get_or, take, drop, refl, sym, ap, ◌∙◌, add-one, arith, length-take, take_all}
use Rattle.std.specs.List.{slice_split, onto_first, list_all}
use Rattle.std.proofs.lemmas.Bool.Decides.{nat_tests}
use Rattle.std.proofs.lemmas.List.Splits.{length-slice_split, slice_split-cons_yes, slice_split-cons_no}
use Rattle.std.proofs.lemmas.Grind.{take_at_read}
use Rattle.pif_script_model.specs.Lines.{is_blank, lines, without_blanks, without_comment}

splits : List ℕ → List (List ℕ)
splits text = slice_split (λ byte. byte == 10) text

at_end : (text : List ℕ) (i : ℕ) → i < length text → get_or text i 0 ≡ 10
    → ((k : ℕ) → k < i → get_or text k 0 ≢ 10) → splits text ≡ take i text ∷ splits (drop (suc i) text)
unfolding splits
at_end [] i lt here before = absurd (omega arith)
at_end (x ∷ xs) zero lt here before = slice_split-cons_yes _ x xs (grind (arith, nat_tests))
at_end (x ∷ xs) (suc i) lt here before =
    let other : x ≢ 10 = before 0 (omega arith) in
    slice_split-cons_no _ x xs (grind (arith, nat_tests))
    ∙ ap (onto_first x) (at_end xs i (omega arith) here (λ k h. before (suc k) (omega arith)))

nowhere : (text : List ℕ) → ((k : ℕ) → k < length text → get_or text k 0 ≢ 10) → splits text ≡ text ∷ []
unfolding splits
nowhere [] none = refl
nowhere (x ∷ xs) none =
    let other : x ≢ 10 = none 0 (omega arith) in
    slice_split-cons_no _ x xs (grind (arith, nat_tests))
    ∙ ap (onto_first x) (nowhere xs (λ k h. none (suc k) (omega arith)))

-- what stands before a first LF, and the lines of what stands behind it
pub split_at_end : (text : List ℕ) (i : ℕ) → i < length text → get_or text i 0 ≡ 10
    → ((k : ℕ) → k < i → get_or text k 0 ≢ 10) → lines text ≡ take i text ∷ lines (drop (i + 1) text)
unfolding lines splits
split_at_end text i lt here before = rw add-one (at_end text i lt here before)

-- with no LF, the text is the one line
pub split_nowhere : (text : List ℕ) → ((k : ℕ) → k < length text → get_or text k 0 ≢ 10) → lines text ≡ text ∷ []
unfolding lines splits
split_nowhere text none = nowhere text none

-- there is one line more than LFs
pub count_lines : (text : List ℕ) → length (lines text) ≡ count_by (λ byte. byte == 10) text + 1
unfolding lines
count_lines text = length-slice_split _ text

first_part : (x : ℕ) (b : Bool) (parts : List (List ℕ))
    → (l : List ℕ) × (ls : List (List ℕ)) × (cond b ([] ∷ parts) (onto_first x parts) ≡ l ∷ ls)
first_part x true parts = ([], parts, refl)
first_part x false [] = (x ∷ [], [], refl)
first_part x false (part ∷ parts) = (x ∷ part, parts, refl)

-- a text has at least one line
pub some_line : (text : List ℕ) → (l : List ℕ) × (ls : List (List ℕ)) × (lines text ≡ l ∷ ls)
unfolding lines
some_line [] = ([], [], refl)
some_line (x ∷ xs) = first_part x (x == 10) (slice_split (λ byte. byte == 10) xs)

-- with the LFs counted up to a place behind the last byte, the lines are counted
pub lines_counted : (text : List ℕ) (place number : ℕ) → number ≡ count_by (λ byte. byte == 10) (take place text) + 1
    → length text ≤ place → number ≡ length (lines text)
lines_counted text place number e le =
    e ∙ ap (λ front. count_by (λ byte. byte == 10) front + 1) (take_all place text le) ∙ sym (count_lines text)

-- the front of a text has no more bytes than are taken, and as many if there are more
pub front_fits : (most : ℕ) (text : List ℕ) → length (take most text) ≤ most
front_fits most text = omega (arith, length-take most text)

pub front_counts : (most : ℕ) (text : List ℕ) → most < length text → most ≡ length (take most text)
front_counts most text lt = omega (arith, length-take most text)

-- ---- blanks

by_all : (b : Bool) (byte : ℕ) (more : List ℕ) → b ≡ false
    → ◌≡◌ {A = List ℕ} (cond b [] (byte ∷ more)) (byte ∷ more)
by_all true byte more e = cc
by_all false byte more e = refl

all-snoc : (xs : List ℕ) (b : ℕ) → is_blank b ≡ false → list_all is_blank (xs ++ b ∷ []) ≡ false
all-snoc [] b e = rw e refl
all-snoc (x ∷ xs) b e = rw (all-snoc xs b e) (and_false (is_blank x))
  where
    and_false : (t : Bool) → (t && false) ≡ false
    and_false true = refl
    and_false false = refl

-- a text that ends in no blank is as it is
pub without_blanks_kept : (xs : List ℕ) (b : ℕ) → is_blank b ≡ false → without_blanks (xs ++ b ∷ []) ≡ xs ++ b ∷ []
unfolding without_blanks
without_blanks_kept [] b none = rw none refl
without_blanks_kept (x ∷ xs) b none =
    by_all _ x (without_blanks (xs ++ b ∷ [])) (all-snoc (x ∷ xs) b none)
    ∙ ap (λ l. x ∷ l) (without_blanks_kept xs b none)

all-blank : (xs : List ℕ) (b : ℕ) → is_blank b ≡ true → list_all is_blank (xs ++ b ∷ []) ≡ list_all is_blank xs
all-blank [] b e = rw e refl
all-blank (x ∷ xs) b e = rw (all-blank xs b e) refl

-- a blank at the end is taken off
pub without_blanks_less : (xs : List ℕ) (b : ℕ) → is_blank b ≡ true
    → without_blanks (xs ++ b ∷ []) ≡ without_blanks xs
unfolding without_blanks
without_blanks_less [] b e = rw e refl
without_blanks_less (x ∷ xs) b e = rw (all-blank xs b e, without_blanks_less xs b e) refl

-- nothing is taken off nothing
pub blanks_none : without_blanks [] ≡ []
unfolding without_blanks
blanks_none = refl

-- the front of a text up to a byte that is no blank, and up to one that is
pub blanks_stop : (text : List ℕ) (i : ℕ) → i < length text → is_blank (get_or text i 0) ≡ false
    → without_blanks (take (i + 1) text) ≡ take (i + 1) text
blanks_stop text i lt other =
    rw (take_at_read text i 0 lt).1 (without_blanks_kept (take i text) (get_or text i 0) other)

pub blanks_step : (text : List ℕ) (i : ℕ) → i < length text → is_blank (get_or text i 0) ≡ true
    → without_blanks (take (i + 1) text) ≡ without_blanks (take i text)
blanks_step text i lt same =
    rw (take_at_read text i 0 lt).1 (without_blanks_less (take i text) (get_or text i 0) same)

-- ---- comments

-- what stands before a first `#`
comment_at : (text : List ℕ) (i : ℕ) → i < length text → get_or text i 0 ≡ 35
    → ((k : ℕ) → k < i → get_or text k 0 ≢ 35) → without_comment text ≡ take i text
unfolding without_comment
comment_at [] i lt here before = absurd (omega arith)
comment_at (x ∷ xs) zero lt here before = let same : (x == 35) ≡ true = grind (arith, nat_tests) in rw same refl
comment_at (x ∷ xs) (suc i) lt here before =
    let other : x ≢ 35 = before 0 (omega arith) in
    let no : (x == 35) ≡ false = grind (arith, nat_tests) in
    rw no (ap (λ l. x ∷ l) (comment_at xs i (omega arith) here (λ k h. before (suc k) (omega arith))))

-- with no `#`, it is all of a text
comment_nowhere : (text : List ℕ) → ((k : ℕ) → k < length text → get_or text k 0 ≢ 35) → without_comment text ≡ text
unfolding without_comment
comment_nowhere [] none = refl
comment_nowhere (x ∷ xs) none =
    let other : x ≢ 35 = none 0 (omega arith) in
    let no : (x == 35) ≡ false = grind (arith, nat_tests) in
    rw no (ap (λ l. x ∷ l) (comment_nowhere xs (λ k h. none (suc k) (omega arith))))

-- the front of a text up to its first `#`, or to its end
pub comment_cut : (text : List ℕ) (i : ℕ) → i ≤ length text → ((k : ℕ) → k < i → get_or text k 0 ≢ 35)
    → (i < length text → get_or text i 0 ≡ 35) → take i text ≡ without_comment text
comment_cut text i within before found = by_test (nat_lt i (length text)) refl
  where
    by_test : (b : Bool) → nat_lt i (length text) ≡ b → take i text ≡ without_comment text
    by_test true e =
        let lt : i < length text = grind (arith, nat_tests) in sym (comment_at text i lt (found lt) before)
    by_test false e =
        let le : length text ≤ i = grind (arith, nat_tests) in
        take_all i text le ∙ sym (comment_nowhere text (λ k lt. before k (omega (arith, le, lt))))
