-- Lines that are cut at LF, and how long their texts are.
use Rattle.std.proofs.Common.{◌≡◌, ℕ, ◌+◌, ◌-◌, ◌<◌, ◌≤◌, suc, ◌≢◌, ◌==◌, List, [], ◌∷◌, ◌++◌, Bool, true, false, cond, length, take, drop, refl, sym, ap, ◌∙◌, arith, length-take, length-drop, None, Some, bytes_eq, codes}
use Rattle.std.specs.List.{slice_split, onto_first}
use Rattle.std.specs.Str.Lines.{strip_carriage_return}
use Rattle.std.proofs.lemmas.Bool.Decides.{nat_tests}
use Rattle.std.proofs.lemmas.List.Splits.{slice_split-cons_yes, slice_split-cons_no}
use Rattle.pif_script_model.specs.Lines.{lines, without_mark}
use Rattle.pif_text_model.specs.Words.{words}
use Rattle.pif_history_text.specs.Lines.{is_long, line_of_words, several_in, text_of_line}
use Rattle.pif_history_text.specs.Reading.{HasNoFeed}

-- a list of lines that is not empty
pub record IsSome1 (ls : List (List ℕ)) : Type 0 where
  pub first : List ℕ
  pub more : List (List ℕ)
  pub is : ls ≡ first ∷ more

parts : List ℕ → List (List ℕ)
parts text = slice_split (λ byte. byte == 10) text

by_byte : (p : ℕ → Bool) (x : ℕ) (xs : List ℕ) (b : Bool) → p x ≡ b → IsSome1 (slice_split p xs)
    → IsSome1 (slice_split p (x ∷ xs))
by_byte p x xs true e rest = record { first = []; more = slice_split p xs; is = slice_split-cons_yes p x xs e }
by_byte p x xs false e rest = record {
  first = x ∷ rest.first;
  more = rest.more;
  is = slice_split-cons_no p x xs e ∙ ap (onto_first x) rest.is;
}

some_split : (p : ℕ → Bool) (text : List ℕ) → IsSome1 (slice_split p text)
some_split p [] = record { first = []; more = []; is = refl }
some_split p (x ∷ xs) = by_byte p x xs (p x) refl (some_split p xs)

some_parts : (text : List ℕ) → IsSome1 (parts text)
unfolding parts
some_parts text = some_split (λ byte. byte == 10) text

-- four words or more make no line
pub too_many : (a b c rest : List ℕ) → line_of_words (a ∷ b ∷ c ∷ words rest) ≡ None
unfolding line_of_words words
too_many a b c rest =
    let ws = some_split (λ byte. byte == 32) rest in ap (λ l. line_of_words (a ∷ b ∷ c ∷ l)) ws.is

-- two words or more after `process`
pub several : (text name names first more : List ℕ) → words text ≡ name ∷ words names → words names ≡ first ∷ words more
    → bytes_eq name (codes "process") ≡ true → Some (words names) ≡ several_in (words text)
unfolding several_in words
several text name names first more e f g =
    let ws = some_split (λ byte. byte == 32) more in
    let all : words names ≡ first ∷ ws.first ∷ ws.more = f ∙ ap (λ (l : List (List ℕ)). first ∷ l) ws.is in
    ap (λ (l : List (List ℕ)). Some l) all
    ∙ sym (ap several_in (e ∙ ap (λ (l : List (List ℕ)). name ∷ l) all) ∙ rw g refl)

-- two words or more after another name
pub none_several : (text name names first more : List ℕ) → words text ≡ name ∷ words names → words names ≡ first ∷ words more
    → bytes_eq name (codes "process") ≡ false → several_in (words text) ≡ None
unfolding several_in words
none_several text name names first more e f g =
    let ws = some_split (λ byte. byte == 32) more in
    let all : words names ≡ first ∷ ws.first ∷ ws.more = f ∙ ap (λ (l : List (List ℕ)). first ∷ l) ws.is in
    ap several_in (e ∙ ap (λ (l : List (List ℕ)). name ∷ l) all) ∙ rw g refl

-- a text has at least one line
pub some_lines : (text : List ℕ) → IsSome1 (lines text)
unfolding lines parts
some_lines text = some_parts text

HasNoFeed-rest : (x : ℕ) (xs : List ℕ) → HasNoFeed (x ∷ xs) → HasNoFeed xs
HasNoFeed-rest x xs h k lt = h (suc k) (omega arith)

HasNoFeed-first : (x : ℕ) (xs : List ℕ) → HasNoFeed (x ∷ xs) → (x == 10) ≡ false
HasNoFeed-first x xs h = let other : x ≢ 10 = h 0 (omega arith) in grind (arith, nat_tests)

parts-ended : (xs rest : List ℕ) → HasNoFeed xs → parts (xs ++ 10 ∷ rest) ≡ xs ∷ parts rest
unfolding parts
parts-ended [] rest h = slice_split-cons_yes _ 10 rest refl
parts-ended (x ∷ xs) rest h =
    slice_split-cons_no _ x (xs ++ 10 ∷ rest) (HasNoFeed-first x xs h)
    ∙ ap (onto_first x) (parts-ended xs rest (HasNoFeed-rest x xs h))

-- bytes without LF, and an LF after them, are a line
pub lines-ended : (xs rest : List ℕ) → HasNoFeed xs → lines (xs ++ 10 ∷ rest) ≡ xs ∷ lines rest
unfolding lines parts
lines-ended xs rest h = parts-ended xs rest h

parts-one : (xs : List ℕ) → HasNoFeed xs → parts xs ≡ xs ∷ []
unfolding parts
parts-one [] h = refl
parts-one (x ∷ xs) h =
    slice_split-cons_no _ x xs (HasNoFeed-first x xs h) ∙ ap (onto_first x) (parts-one xs (HasNoFeed-rest x xs h))

-- bytes without LF are one line
pub lines-one : (xs : List ℕ) → HasNoFeed xs → lines xs ≡ xs ∷ []
unfolding lines parts
lines-one xs h = parts-one xs h

-- the first line of a text that begins with these bytes begins with them
pub record BeginsWith (xs : List ℕ) (ls : List (List ℕ)) : Type 0 where
  pub tail : List ℕ
  pub more : List (List ℕ)
  pub is : ls ≡ (xs ++ tail) ∷ more

parts-begun : (xs rest : List ℕ) → HasNoFeed xs → BeginsWith xs (parts (xs ++ rest))
unfolding parts
parts-begun [] rest h = let p = some_parts rest in record { tail = p.first; more = p.more; is = p.is }
parts-begun (x ∷ xs) rest h =
    let p = parts-begun xs rest (HasNoFeed-rest x xs h) in
    record {
      tail = p.tail;
      more = p.more;
      is = slice_split-cons_no _ x (xs ++ rest) (HasNoFeed-first x xs h) ∙ ap (onto_first x) p.is;
    }

pub lines-begun : (xs rest : List ℕ) → HasNoFeed xs → BeginsWith xs (lines (xs ++ rest))
unfolding lines parts
lines-begun xs rest h = parts-begun xs rest h

-- ---- the length of a line's text

by_test : (b : Bool) (xs ys : List ℕ) (n : ℕ) → n ≤ length xs → n ≤ length ys → n ≤ length (cond b xs ys)
by_test true xs ys n l r = l
by_test false xs ys n l r = r

stripped : (bytes : List ℕ) → length bytes ≤ length (strip_carriage_return bytes) + 1
stripped bytes =
    let le : length bytes - 1 ≤ length (strip_carriage_return bytes) =
    by_test _ (take (length bytes - 1) bytes) bytes (length bytes - 1) (omega (arith, length-take (length bytes - 1) bytes))
    (omega arith) in
    omega arith

unmarked : (bytes : List ℕ) → length bytes ≤ length (without_mark bytes) + 3
unfolding without_mark
unmarked bytes =
    let le : length bytes - 3 ≤ length (without_mark bytes) =
    by_test _ (drop 3 bytes) bytes (length bytes - 3) (omega (arith, length-drop 3 bytes)) (omega arith) in
    omega arith

text-length : (number : ℕ) (bytes : List ℕ) → length bytes ≤ length (text_of_line number bytes) + 4
unfolding text_of_line
text-length number bytes =
    let s = stripped bytes in
    let u = unmarked (strip_carriage_return bytes) in
    let le : length bytes - 4 ≤ length (text_of_line number bytes) =
    by_test (number == 1) (without_mark (strip_carriage_return bytes)) (strip_carriage_return bytes) (length bytes - 4)
    (omega arith) (omega arith) in
    omega arith

-- more bytes than are kept of a line are too many, whatever stands after them
pub long_line : (number : ℕ) (bytes : List ℕ) → 124 < length bytes → is_long number bytes ≡ true
long_line number bytes lt = let le = text-length number bytes in grind (arith, nat_tests)
