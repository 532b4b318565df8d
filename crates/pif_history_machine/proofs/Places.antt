-- What is said at the first place from one on, of the places at which calls of a thread are over, is what is known of
-- the thread's open call from there on.
use Rattle.std.proofs.Common.{ℕ, zero, suc, ◌≡◌, ◌≤◌, ◌<◌, ◌+◌, ◌∙◌, Bool, true, false, nat_lt, List, [], ◌∷◌, ◌++◌, length, drop, get_or, slice_get, Option, Some, None, inl, inr, refl, sym, ap, subst, arith, if◌then◌else◌}
use Rattle.std.specs.Global.{Vec}
use Rattle.std.proofs.lemmas.Bool.{lt-ltb, le-ltb, cases_lt}
use Rattle.std.proofs.lemmas.List.{length_push}
use Rattle.pif_model_lemmas.proofs.Waiting.{by_test}
use Rattle.pif_history_model.specs.declared.lines.Line.{Line}
use Rattle.pif_history_model.specs.Known.{is_over, answer_of, known_answer}
use Rattle.pif_history_machine.specs.declared.overs.Over.{Over}
use Rattle.pif_history_machine.specs.Overs.{places_over, row_at, IsTable}

-- FROM A PLACE ON

-- what is said there, if something is
abbrev pub answer_at : Option Over → Option ℕ
answer_at None = None
answer_at (Some o) = o.answer

-- what is said at the first of these that is at place n or later
abbrev pub first_from : ℕ → List Over → Option ℕ
first_from n [] = None
first_from n (o ∷ os) = if nat_lt o.place n then first_from n os else o.answer

-- if all are at place n or later, it is the first one
first_of_all : (t k n : ℕ) (lines : List Line) → n ≤ k → first_from n (places_over t k lines) ≡ known_answer t lines
first_of_all t k n [] le = refl
first_of_all t k n (x ∷ xs) le =
    let rest = places_over t (suc k) xs in
    by_test (λ b. first_from n (if b then record { place = k; answer = answer_of x } ∷ rest else rest) ≡ (if b then answer_of x else known_answer t xs))
    (is_over t x)
    (λ _. ap (λ (c : Bool). if c then first_from n rest else answer_of x) (le-ltb k n le))
    (λ _. first_of_all t (suc k) n xs (omega (arith, le)))

first_is_known : (t k m n : ℕ) (lines : List Line) → m ≡ k + n → first_from m (places_over t k lines) ≡ known_answer t (drop n lines)
first_is_known t k m zero lines e = first_of_all t k m lines (omega (arith, e))
first_is_known t k m (suc n) [] e = refl
first_is_known t k m (suc n) (x ∷ xs) e =
    let rest = places_over t (suc k) xs in
    let on : first_from m rest ≡ known_answer t (drop n xs) = first_is_known t (suc k) m n xs (omega (arith, e)) in
    by_test (λ b. first_from m (if b then record { place = k; answer = answer_of x } ∷ rest else rest) ≡ known_answer t (drop n xs))
    (is_over t x)
    (λ _. ap (λ (c : Bool). if c then first_from m rest else answer_of x) (lt-ltb k m (omega (arith, e))) ∙ on)
    (λ _. on)

-- THE POINT BETWEEN EARLIER AND LATER PLACES

at_point : (n r : ℕ) (os : List Over) → r ≤ length os → ((i : ℕ) (d : Over) → i < r → nat_lt (get_or os i d).place n ≡ true)
    → ((i : ℕ) (d : Over) → r ≤ i → i < length os → nat_lt (get_or os i d).place n ≡ false) → answer_at (slice_get os r) ≡ first_from n os
at_point n zero [] within before behind = refl
at_point n (suc r) [] within before behind = absurd (omega (arith, within))
at_point n zero (o ∷ os) within before behind =
    sym (ap (λ (c : Bool). if c then first_from n os else o.answer) (behind zero o (omega arith) (omega arith)))
at_point n (suc r) (o ∷ os) within before behind =
    at_point n r os (omega (arith, within)) (λ i d lt. before (suc i) d (omega (arith, lt)))
    (λ i d le lt. behind (suc i) d (omega (arith, le)) (omega (arith, lt)))
    ∙ sym (ap (λ (c : Bool). if c then first_from n os else o.answer) (before zero o (omega arith)))

-- one more in front
first_past : (k : ℕ) (o : Over) (rest : List Over) (d : Over) → o.place ≡ k
    → ((i : ℕ) → i < length rest → suc k ≤ (get_or rest i d).place) → (j : ℕ) → j < length (o ∷ rest) → k ≤ (get_or (o ∷ rest) j d).place
first_past k o rest d e h zero lt = omega (arith, e)
first_past k o rest d e h (suc i) lt = let ih = h i (omega (arith, lt)) in omega (arith, ih)

first_rises : (o : Over) (rest : List Over) (d : Over) → ((j : ℕ) → j < length rest → o.place ≤ (get_or rest j d).place)
    → ((i j : ℕ) → i ≤ j → j < length rest → (get_or rest i d).place ≤ (get_or rest j d).place)
    → (i j : ℕ) → i ≤ j → j < length (o ∷ rest) → (get_or (o ∷ rest) i d).place ≤ (get_or (o ∷ rest) j d).place
first_rises o rest d b h zero zero le lt = omega arith
first_rises o rest d b h zero (suc j) le lt = b j (omega (arith, lt))
first_rises o rest d b h (suc i) zero le lt = absurd (omega (arith, le))
first_rises o rest d b h (suc i) (suc j) le lt = h i j (omega (arith, le)) (omega (arith, lt))

-- all are at the first place or later, and none comes before an earlier one
not_before : (t k : ℕ) (lines : List Line) (j : ℕ) (d : Over) → j < length (places_over t k lines) → k ≤ (get_or (places_over t k lines) j d).place
not_before t k [] j d lt = absurd (omega (arith, lt))
not_before t k (x ∷ xs) j d lt =
    let rest = places_over t (suc k) xs in
    let o : Over = record { place = k; answer = answer_of x } in
    by_test (λ b. j < length (if b then o ∷ rest else rest) → k ≤ (get_or (if b then o ∷ rest else rest) j d).place) (is_over t x)
    (λ _. first_past k o rest d refl (λ i h. not_before t (suc k) xs i d h) j)
    (λ _ h. let ih = not_before t (suc k) xs j d h in omega (arith, ih)) lt

pub places_rise : (t k : ℕ) (lines : List Line) (i j : ℕ) (d : Over) → i ≤ j → j < length (places_over t k lines)
    → (get_or (places_over t k lines) i d).place ≤ (get_or (places_over t k lines) j d).place
places_rise t k [] i j d le lt = absurd (omega (arith, lt))
places_rise t k (x ∷ xs) i j d le lt =
    let rest = places_over t (suc k) xs in
    let o : Over = record { place = k; answer = answer_of x } in
    by_test (λ b. j < length (if b then o ∷ rest else rest)
    → (get_or (if b then o ∷ rest else rest) i d).place ≤ (get_or (if b then o ∷ rest else rest) j d).place) (is_over t x)
    (λ _. first_rises o rest d (λ m h. let b = not_before t (suc k) xs m d h in omega (arith, b))
    (λ m n le h. places_rise t (suc k) xs m n d le h) i j le)
    (λ _ h. places_rise t (suc k) xs i j d le h) lt

-- so what the search for the place finds is known
pub found_is_known : (t n r : ℕ) (lines : List Line) (os : List Over) → os ≡ places_over t 0 lines → r ≤ length os
    → ((i : ℕ) (d : Over) → 0 ≤ i → i < r → nat_lt (get_or os i d).place n ≡ true)
    × ((i : ℕ) (d : Over) → r ≤ i → i < length os → nat_lt (get_or os i d).place n ≡ false)
    → answer_at (slice_get os r) ≡ known_answer t (drop n lines)
found_is_known t n r lines os is within point =
    at_point n r os within (λ i d lt. point.0 i d (omega arith) lt) point.1
    ∙ ap (first_from n) is ∙ first_is_known t 0 n n lines (omega arith)

-- THE TABLE

-- the rows of the threads below n
pub record IsTableBelow (lines : List Line) (rows : List (Vec Over)) (n : ℕ) : Type 0 where
  pub size : length rows ≡ n
  pub each : (t : ℕ) → t < n → row_at (slice_get rows t) ≡ places_over t 0 lines

pushed_before : {X : Type 0} (xs : List X) (y : X) (t : ℕ) → t < length xs → slice_get (xs ++ y ∷ []) t ≡ slice_get xs t
pushed_before [] y t lt = absurd (omega (arith, lt))
pushed_before (x ∷ xs) y zero lt = refl
pushed_before (x ∷ xs) y (suc t) lt = pushed_before xs y t (omega (arith, lt))

pushed_last : {X : Type 0} (xs : List X) (y : X) (t : ℕ) → t ≡ length xs → slice_get (xs ++ y ∷ []) t ≡ Some y
pushed_last [] y zero e = refl
pushed_last [] y (suc t) e = absurd (omega (arith, e))
pushed_last (x ∷ xs) y zero e = absurd (omega (arith, e))
pushed_last (x ∷ xs) y (suc t) e = pushed_last xs y t (omega (arith, e))

pub no_row_yet : (lines : List Line) → IsTableBelow lines [] 0
no_row_yet lines = record { size = refl; each = λ t lt. absurd (omega (arith, lt)) }

pub one_row_more : (lines : List Line) (rows all : List (Vec Over)) (row : Vec Over) (n : ℕ) → all ≡ rows ++ row ∷ [] → row.items ≡ places_over n 0 lines
    → IsTableBelow lines rows n → IsTableBelow lines all (n + 1)
one_row_more lines rows all row n e r b =
    subst (λ (z : List (Vec Over)). IsTableBelow lines z (n + 1)) (sym e) (record {
      size = pushed_size ∙ ap (λ k. k + 1) b.size;
      each = λ t lt. elim (cases_lt t n) [
        | inl below ↦ ap row_at (pushed_before rows row t (omega (arith, below, b.size))) ∙ b.each t below
        | inr last ↦
            let is : t ≡ n = omega (arith, lt, last) in
            ap row_at (pushed_last rows row t (omega (arith, is, b.size))) ∙ r ∙ ap (λ k. places_over k 0 lines) (sym is)
      ];
    })
  where
    pushed_size : length (rows ++ row ∷ []) ≡ length rows + 1
    pushed_size = length_push rows row

pub whole_table : (lines : List Line) (rows : List (Vec Over)) (n : ℕ) → IsTableBelow lines rows n → IsTable lines rows
whole_table lines rows n b t lt = b.each t (omega (arith, lt, b.size))
