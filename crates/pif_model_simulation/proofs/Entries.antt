-- A list of mutexes without one of them.
use Rattle.std.proofs.Common.{◌≡◌, ◌≢◌, ◌⊎◌, inl, inr, ◌||◌, ℕ, Bool, true, false, ◌==◌, List, [], ◌∷◌, ◌++◌, refl, sym, ap, ap₂, ◌∙◌, if◌then◌else◌, eqb-true, eq-eqb, ne_eqb, true≢false}
use Rattle.std.proofs.lemmas.Bool.{cases_eq}
use Rattle.pif_model.specs.RobustList.{RobustRow, has_entry, without_entry, walk_of}
use Rattle.pif_model_lemmas.proofs.Waiting.{by_test, or_true, or_false}

-- has another if the list has it
pub has_entry-without_other : (ms : List ℕ) (m j : ℕ) → j ≢ m → has_entry (without_entry ms m) j ≡ has_entry ms j
has_entry-without_other [] m j d = refl
has_entry-without_other (k ∷ ms) m j d =
    by_test (λ b. (m == k) ≡ b → has_entry (without_entry (k ∷ ms) m) j ≡ has_entry (k ∷ ms) j) (m == k)
    (λ e _. rw (e, ne_eqb j k (λ f. d (f ∙ sym (eqb-true m k e)))) (has_entry-without_other ms m j d))
    (λ e _. rw (e, has_entry-without_other ms m j d) refl) refl

-- and has not the one
pub has_entry-without_same : (ms : List ℕ) (m : ℕ) → has_entry (without_entry ms m) m ≡ false
has_entry-without_same [] m = refl
has_entry-without_same (k ∷ ms) m =
    by_test (λ b. (m == k) ≡ b → has_entry (without_entry (k ∷ ms) m) m ≡ false) (m == k)
    (λ e _. rw e (has_entry-without_same ms m))
    (λ e _. rw (e, e) (has_entry-without_same ms m)) refl

-- a disjunction in another order
or_assoc : (a b c : Bool) → (a || (b || c)) ≡ ((a || b) || c)
or_assoc true b c = refl
or_assoc false b c = refl

-- two lists one after the other
has_entry-append : (xs ys : List ℕ) (j : ℕ) → has_entry (xs ++ ys) j ≡ (has_entry xs j || has_entry ys j)
has_entry-append [] ys j = refl
has_entry-append (x ∷ xs) ys j =
    ap (λ b. (j == x) || b) (has_entry-append xs ys j) ∙ or_assoc (j == x) (has_entry xs j) (has_entry ys j)

-- the list of a mutex alone, or of none
abbrev alone : ℕ → List ℕ
alone p = if p == 0 then [] else p ∷ []

alone-other : (p j : ℕ) → j ≢ p → has_entry (alone p) j ≡ false
alone-other p j d = by_test (λ b. has_entry (if b then [] else p ∷ []) j ≡ false) (p == 0) (λ _. refl)
    (λ _. rw (ne_eqb j p d) refl)

alone-same : (p j : ℕ) → j ≡ p → j ≢ 0 → has_entry (alone p) j ≡ true
alone-same p j e z = by_test (λ b. (p == 0) ≡ b → has_entry (if b then [] else p ∷ []) j ≡ true) (p == 0)
    (λ f _. absurd (z (e ∙ eqb-true p 0 f))) (λ f _. rw (eq-eqb j p e) refl) refl

-- the end of a thread goes through the pending mutex
pub walks-pending : (x : RobustRow) (j : ℕ) → j ≡ x.pending → j ≢ 0 → has_entry (walk_of x) j ≡ true
walks-pending x j e z =
    has_entry-append (without_entry x.listed x.pending) (alone x.pending) j
    ∙ ap (λ b. has_entry (without_entry x.listed x.pending) j || b) (alone-same x.pending j e z)
    ∙ or_true (has_entry (without_entry x.listed x.pending) j)

-- and through those that are listed
pub walks-listed : (x : RobustRow) (j : ℕ) → j ≢ 0 → has_entry x.listed j ≡ true → has_entry (walk_of x) j ≡ true
walks-listed x j z l = go (cases_eq j x.pending)
  where
    go : (j ≡ x.pending) ⊎ (j ≢ x.pending) → has_entry (walk_of x) j ≡ true
    go (inl e) = walks-pending x j e z
    go (inr d) =
        has_entry-append (without_entry x.listed x.pending) (alone x.pending) j
        ∙ ap (λ b. b || has_entry (alone x.pending) j) (has_entry-without_other x.listed x.pending j d ∙ l)

-- and through no other
pub walked : (x : RobustRow) (j : ℕ) → has_entry (walk_of x) j ≡ true
    → (has_entry x.listed j ≡ true) ⊎ ((j ≡ x.pending) × (x.pending ≢ 0))
walked x j e = go (cases_eq j x.pending) (cases_eq x.pending 0)
  where
    both : (has_entry (without_entry x.listed x.pending) j || has_entry (alone x.pending) j) ≡ true
    both = sym (has_entry-append (without_entry x.listed x.pending) (alone x.pending) j) ∙ e

    go : (j ≡ x.pending) ⊎ (j ≢ x.pending) → (x.pending ≡ 0) ⊎ (x.pending ≢ 0)
        → (has_entry x.listed j ≡ true) ⊎ ((j ≡ x.pending) × (x.pending ≢ 0))
    go (inl q) (inr z) = inr (q, z)
    go (inl q) (inl z) =
        let a : has_entry (without_entry x.listed x.pending) j ≡ false =
        ap (has_entry (without_entry x.listed x.pending)) q ∙ has_entry-without_same x.listed x.pending in
        let b : has_entry (alone x.pending) j ≡ false = ap (λ p. has_entry (alone p) j) z in
        absurd (true≢false (sym both ∙ ap₂ (λ c d. c || d) a b))
    go (inr d) z = inl (
        sym (has_entry-without_other x.listed x.pending j d)
        ∙ sym (or_false (has_entry (without_entry x.listed x.pending) j))
        ∙ ap (λ b. has_entry (without_entry x.listed x.pending) j || b) (sym (alone-other x.pending j d)) ∙ both)
