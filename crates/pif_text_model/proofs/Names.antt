-- Words and names: the words of a text with one space between them, and names that are read back.
use Rattle.std.proofs.Common.{◌≡◌, ℕ, ◌<◌, ◌≤◌, ◌==◌, ◌&&◌, not, Bool, true, false, nat_lt, List, [], ◌∷◌, ◌++◌, Some, refl, sym, ap, ◌∙◌, append_assoc, arith, decimal}
use Rattle.std.specs.Char.{is_ascii_digit}
use Rattle.std.specs.Str.{all_ascii_digits}
use Rattle.std.specs.List.{onto_first}
use Rattle.std.proofs.lemmas.Bool.{and_parts, and_from}
use Rattle.std.proofs.lemmas.Bool.Decides.{nat_tests}
use Rattle.std.proofs.lemmas.Fmt.{digits_decimal}
use Rattle.std.proofs.lemmas.List.Splits.{slice_split-cons_yes, slice_split-cons_no}
use Rattle.pif_text_model.specs.Numbers.{name_in, thread_in, mutex_in, cond_in}
use Rattle.pif_text_model.specs.Replies.{thread_name, mutex_name, cond_name}
use Rattle.pif_text_model.specs.Words.{words}
use Rattle.pif_text_model.proofs.Numerals.{number_decimal, own}

-- ---- words without a space

abbrev pub has_no_space : List ℕ → Bool
has_no_space [] = true
has_no_space (byte ∷ more) = not (byte == 32) && has_no_space more

not_true : (b : Bool) → not b ≡ true → b ≡ false
not_true false e = refl
not_true true e = sym e

pub first_word : (word rest : List ℕ) → has_no_space word ≡ true → words (word ++ 32 ∷ rest) ≡ word ∷ words rest
unfolding words
first_word [] rest e = slice_split-cons_yes _ 32 rest refl
first_word (x ∷ xs) rest e =
    let t = and_parts (not (x == 32)) (has_no_space xs) e in
    slice_split-cons_no _ x (xs ++ 32 ∷ rest) (not_true (x == 32) t.0) ∙ ap (onto_first x) (first_word xs rest t.1)

pub last_word : (word : List ℕ) → has_no_space word ≡ true → words word ≡ word ∷ []
unfolding words
last_word [] e = refl
last_word (x ∷ xs) e =
    let t = and_parts (not (x == 32)) (has_no_space xs) e in
    slice_split-cons_no _ x xs (not_true (x == 32) t.0) ∙ ap (onto_first x) (last_word xs t.1)

digit-no_space : (d : ℕ) → is_ascii_digit d ≡ true → not (d == 32) ≡ true
digit-no_space d e =
    let other : (d == 32) ≡ false = grind (arith, nat_tests) in
    ap not other

digits-no_space : (digits : List ℕ) → all_ascii_digits digits ≡ true → has_no_space digits ≡ true
digits-no_space [] e = refl
digits-no_space (d ∷ ds) e =
    let t = and_parts (is_ascii_digit d) (all_ascii_digits ds) e in
    and_from (not (d == 32)) (has_no_space ds) (digit-no_space d t.0) (digits-no_space ds t.1)

pub number-no_space : (n : ℕ) → n < 4294967296 → has_no_space (decimal n) ≡ true
number-no_space n small = digits-no_space (decimal n) (digits_decimal own n (omega arith))

pub thread-no_space : (t : ℕ) → t < 4294967296 → has_no_space (thread_name t) ≡ true
thread-no_space t small = number-no_space t small

pub mutex-no_space : (m : ℕ) → m < 4294967296 → has_no_space (mutex_name m) ≡ true
mutex-no_space m small = number-no_space m small

pub cond-no_space : (c : ℕ) → c < 4294967296 → has_no_space (cond_name c) ≡ true
cond-no_space c small = number-no_space c small

-- a word that stands between others
pub middle_word : (word rest : List ℕ) → has_no_space word ≡ true → words ((word ++ 32 ∷ []) ++ rest) ≡ word ∷ words rest
middle_word word rest e = ap words (append_assoc word (32 ∷ []) rest) ∙ first_word word rest e

-- a name and one more word
pub two-words : (name word : List ℕ) → has_no_space name ≡ true → has_no_space word ≡ true → words (name ++ 32 ∷ word) ≡ name ∷ word ∷ []
two-words name word e f = first_word name word e ∙ ap (λ l. name ∷ l) (last_word word f)

-- ---- names

-- a letter with a number behind it is read as that number
name_back : (letter n : ℕ) → 1 ≤ n → n < 4294967296 → name_in letter (letter ∷ decimal n) ≡ Some n
name_back letter n some small =
    let same : (letter == letter) ≡ true = grind (arith, nat_tests) in
    let positive : nat_lt 0 n ≡ true = grind (arith, nat_tests) in
    rw (same, number_decimal n small, positive) refl

pub thread_back : (t : ℕ) → 1 ≤ t → t < 4294967296 → thread_in (thread_name t) ≡ Some t
unfolding thread_in
thread_back t some small = name_back 116 t some small

pub mutex_back : (m : ℕ) → 1 ≤ m → m < 4294967296 → mutex_in (mutex_name m) ≡ Some m
unfolding mutex_in
mutex_back m some small = name_back 109 m some small

pub cond_back : (c : ℕ) → 1 ≤ c → c < 4294967296 → cond_in (cond_name c) ≡ Some c
unfolding cond_in
cond_back c some small = name_back 99 c some small
