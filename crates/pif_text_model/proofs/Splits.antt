-- A line is split at its first space.
use Rattle.std.proofs.Common.{◌≡◌, ℕ, ◌+◌, ◌<◌, zero, suc, ◌≢◌, ◌==◌, List, [], ◌∷◌, None, Bool, true, false, cond, length, get_or, take, drop, refl, ap, ◌∙◌, add-one, arith}
use Rattle.std.specs.List.{slice_split, onto_first}
use Rattle.std.proofs.lemmas.Bool.Decides.{nat_tests}
use Rattle.std.proofs.lemmas.List.Splits.{slice_split-cons_yes, slice_split-cons_no}
use Rattle.pif_text_model.specs.declared.calls.Arguments.{Arguments}
use Rattle.pif_text_model.specs.Commands.{command_of_more, command_of_words, limits_in, robust_in, with_arguments}
use Rattle.pif_text_model.specs.Words.{words}

splits : List ℕ → List (List ℕ)
splits line = slice_split (λ byte. byte == 32) line

at_space : (line : List ℕ) (i : ℕ) → i < length line → get_or line i 0 ≡ 32 → ((k : ℕ) → k < i → get_or line k 0 ≢ 32) → splits line ≡ take i line ∷ splits (drop (suc i) line)
unfolding splits
at_space [] i lt here before = absurd (omega arith)
at_space (x ∷ xs) zero lt here before = slice_split-cons_yes _ x xs (grind (arith, nat_tests))
at_space (x ∷ xs) (suc i) lt here before =
    let other : x ≢ 32 = before 0 (omega arith) in
    slice_split-cons_no _ x xs (grind (arith, nat_tests)) ∙ ap (onto_first x) (at_space xs i (omega arith) here (λ k h. before (suc k) (omega arith)))

nowhere : (line : List ℕ) → ((k : ℕ) → k < length line → get_or line k 0 ≢ 32) → splits line ≡ line ∷ []
unfolding splits
nowhere [] none = refl
nowhere (x ∷ xs) none =
    let other : x ≢ 32 = none 0 (omega arith) in
    slice_split-cons_no _ x xs (grind (arith, nat_tests)) ∙ ap (onto_first x) (nowhere xs (λ k h. none (suc k) (omega arith)))

-- what stands before a first space, and the words of what stands behind it
pub split_at_space : (line : List ℕ) (i : ℕ) → i < length line → get_or line i 0 ≡ 32 → ((k : ℕ) → k < i → get_or line k 0 ≢ 32) → words line ≡ take i line ∷ words (drop (i + 1) line)
unfolding words splits
split_at_space line i lt here before = rw add-one (at_space line i lt here before)

-- with no space, the line is the one word
pub split_nowhere : (line : List ℕ) → ((k : ℕ) → k < length line → get_or line k 0 ≢ 32) → words line ≡ line ∷ []
unfolding words splits
split_nowhere line none = nowhere line none

first_part : (x : ℕ) (b : Bool) (parts : List (List ℕ)) → (w : List ℕ) × (ws : List (List ℕ)) × (cond b ([] ∷ parts) (onto_first x parts) ≡ w ∷ ws)
first_part x true parts = ([], parts, refl)
first_part x false [] = (x ∷ [], [], refl)
first_part x false (part ∷ parts) = (x ∷ part, parts, refl)

-- a line has at least one word
pub some_word : (line : List ℕ) → (w : List ℕ) × (ws : List (List ℕ)) × (words line ≡ w ∷ ws)
unfolding words
some_word [] = ([], [], refl)
some_word (x ∷ xs) = first_part x (x == 32) (slice_split (λ byte. byte == 32) xs)

-- ---- words that go on

-- two words and more
pub more_words : (a b line : List ℕ) → command_of_words (a ∷ b ∷ words line) ≡ command_of_more a b (words line)
unfolding command_of_words
more_words a b line =
    let some = some_word line in
    rw some.2 refl

-- more behind the last parameter
pub no_more_arguments : (a : Arguments) (line : List ℕ) → with_arguments [] (words line) a ≡ None
unfolding with_arguments
no_more_arguments a line =
    let some = some_word line in
    rw some.2 refl

-- more behind `mutex K robust`
pub no_more_robust : (kind last line : List ℕ) → robust_in kind (last ∷ words line) ≡ None
unfolding robust_in
no_more_robust kind last line =
    let some = some_word line in
    rw some.2 refl

-- more behind `limits T M C S`
pub no_more_limits : (a b c d line : List ℕ) → limits_in a (b ∷ c ∷ d ∷ words line) ≡ None
unfolding limits_in
no_more_limits a b c d line =
    let some = some_word line in
    rw some.2 refl
