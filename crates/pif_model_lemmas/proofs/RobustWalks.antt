-- Lemmas on a walk along a robust list: what is ahead of a mutex, and that the walk gives each mutex once.
use Rattle.std.proofs.Common.{◌≡◌, ℕ, ◌≤◌, ◌<◌, true, false, eqb, List, [], ◌∷◌, ◌++◌, Option, Some, None, refl, sym, ◌∙◌, ap, subst, ⊎_elim, arith, length}
use Rattle.std.proofs.lemmas.Bool.{or_parts, or_from, eqb-false, cases_Bool, cases_eq, eq-eqb, ne_eqb, eqb-true}
use Rattle.std.proofs.Math.Bool.{or-false}
use Rattle.std.proofs.lemmas.List.{append-nil}
use Rattle.pif_model.specs.RobustList.{Robust, RobustRow, robust_at, has_entry, without_entry, walk_of, HasNoRepeats, IsRobust}
use Rattle.pif_model_lemmas.specs.RobustWalks.{first_or, behind, ahead}
use Rattle.pif_model_lemmas.proofs.RobustEntries.{has-append, has-head, has-tail, apart, length-mutexes, has-without_same, HasNoRepeats-without, has-with, first_or-has}

-- a list without a mutex is no longer than with it
pub length-without : (xs : List ℕ) (p : ℕ) → length (without_entry xs p) ≤ length xs
length-without [] p = omega arith
length-without (x ∷ xs) p = ⊎_elim
    (λ e. rw e (omega (arith, length-without xs p)))
    (λ e. rw e (omega (arith, length-without xs p)))
    (cases_Bool (eqb p x))

-- what is behind a mutex is on the list
pub has-behind : (k m : ℕ) (ms : List ℕ) → has_entry (behind m ms) k ≡ true → has_entry ms k ≡ true
has-behind k m [] h = h
has-behind k m (x ∷ xs) h = ⊎_elim
    (λ e. let rest : has_entry xs k ≡ true = rw e at h in has-tail k x xs rest)
    (λ e. let rest : has_entry (behind m xs) k ≡ true = rw e at h in has-tail k x xs (has-behind k m xs rest))
    (cases_Bool (eqb m x))

-- ahead of a walk that begins is all of it
pub ahead-first : (ms : List ℕ) → ahead (first_or ms None) ms ≡ ms
ahead-first [] = refl
ahead-first (x ∷ xs) = rw (eq-eqb x x refl) refl

-- one more mutex at the front, from which nothing is ahead
ahead-front : (x : ℕ) (xs ys : List ℕ) → has_entry xs x ≡ false →
    ((k : ℕ) → has_entry ys k ≡ true → has_entry xs k ≡ true) →
    ahead (first_or ys None) (x ∷ xs) ≡ ahead (first_or ys None) xs
ahead-front x xs [] lacks on = refl
ahead-front x xs (y ∷ ys) lacks on = rw (ne_eqb y x (apart y x xs (on y (has-head y ys)) lacks)) refl

-- ahead of a walk that goes on is what was behind the mutex at which it stood
pub ahead-next : (m : ℕ) (ms : List ℕ) → HasNoRepeats ms → ahead (first_or (behind m ms) None) ms ≡ behind m ms
ahead-next m [] once = refl
ahead-next m (x ∷ xs) once = ⊎_elim
    (λ e. rw e (ahead-front x xs xs once.0 (λ k h. h) ∙ ahead-first xs))
    (λ e. rw e (ahead-front x xs (behind m xs) once.0 (λ k h. has-behind k m xs h) ∙ ahead-next m xs once.1))
    (cases_Bool (eqb m x))

-- a walk that is over has found all
pub ahead-none : (found ms : List ℕ) (next : Option ℕ) → next ≡ None → found ++ ahead next ms ≡ ms → found ≡ ms
ahead-none found ms next over all = sym (append-nil found) ∙ ap (λ o. found ++ ahead o ms) (sym over) ∙ all

-- a list with one more mutex at its end, which it lacks
HasNoRepeats-push : (xs : List ℕ) (m : ℕ) → HasNoRepeats xs → has_entry xs m ≡ false → HasNoRepeats (xs ++ m ∷ [])
HasNoRepeats-push [] m once lacks = (refl, record {})
HasNoRepeats-push (k ∷ ks) m once lacks =
    let parts = or_parts (eqb m k) (has_entry ks m) lacks in
    let ne : k ≡ m → ⊥ = λ e. eqb-false m k parts.0 (sym e) in (
      has-append k ks (m ∷ [])
          ∙ or_from (has_entry ks k) (has_entry (m ∷ []) k) once.0 (or_from (eqb k m) false (ne_eqb k m ne) refl),
      HasNoRepeats-push ks m once.1 parts.1,
    )

-- a walk gives each mutex once, and mutexes that there may be
module _ (v : Robust) (t : ℕ) (r : IsRobust v) where
  abbrev row : RobustRow
  row = robust_at v t

  abbrev others : List ℕ
  others = without_entry row.listed row.pending

  walk_is : (P : List ℕ → Type 0) → (row.pending ≡ 0 → P others) → (1 ≤ row.pending → P (others ++ row.pending ∷ [])) →
      P (walk_of row)
  walk_is P none some = ⊎_elim
      (λ e. rw (eq-eqb row.pending 0 e) (subst P (sym (append-nil others)) (none e)))
      (λ ne. rw (ne_eqb row.pending 0 ne) (some (omega arith)))
      (cases_eq row.pending 0)

  pub walk_of-once : HasNoRepeats (walk_of row)
  walk_of-once = walk_is HasNoRepeats (λ e. HasNoRepeats-without row.pending row.listed (r.once t))
      (λ some. HasNoRepeats-push others row.pending (HasNoRepeats-without row.pending row.listed (r.once t))
      (has-without_same row.pending row.listed))

  -- what a walk goes through is on the list, or pending
  in_walk : (P : ℕ → Type 0) → ((m : ℕ) → has_entry row.listed m ≡ true → P m) → (1 ≤ row.pending → P row.pending) →
      (m : ℕ) → has_entry (walk_of row) m ≡ true → P m
  in_walk P on last m = walk_is (λ xs. has_entry xs m ≡ true → P m)
      (λ e h. on m (has-with m row.pending row.listed h))
      (λ some h. ⊎_elim
      (λ e. on m (has-with m row.pending row.listed e))
      (λ e. let both = sym (has-append m others (row.pending ∷ [])) ∙ h in
      let here : has_entry (row.pending ∷ []) m ≡ true = rw e at both in
      subst P (sym (eqb-true m row.pending (sym (or-false (eqb m row.pending)) ∙ here))) (last some))
      (cases_Bool (has_entry others m)))

  pub walk_of-some : (m : ℕ) → has_entry (walk_of row) m ≡ true → 1 ≤ m
  walk_of-some = in_walk (λ m. 1 ≤ m) (r.some_listed t) (λ some. some)

  pub walk_of-within : (m : ℕ) → has_entry (walk_of row) m ≡ true → m ≤ v.mutexes
  walk_of-within = in_walk (λ m. m ≤ v.mutexes) (r.most_listed t) (λ some. r.pending t)

  pub walk_of-short : length (walk_of row) ≤ 1024
  walk_of-short = omega (
    arith,
    length-mutexes (walk_of row) v.mutexes walk_of-once walk_of-some walk_of-within,
    r.most,
  )

-- a loop along the walk of a thread, which is sound: where it stands at first, then next to a mutex, and at last
module _ (v : Robust) (t : ℕ) (sound : IsRobust v) where
  abbrev ms : List ℕ
  ms = walk_of (robust_at v t)

  pub first-ahead : {next : Option ℕ} → next ≡ first_or ms None → ahead next ms ≡ ms
  first-ahead is = ap (λ o. ahead o ms) is ∙ ahead-first ms

  pub first-on : {next : Option ℕ} → next ≡ first_or ms None → (m : ℕ) → next ≡ Some m → has_entry ms m ≡ true
  first-on is m h = first_or-has ms m (sym is ∙ h)

  module _ (m : ℕ) {next : Option ℕ} (is : next ≡ first_or (behind m ms) None) where
    pub next-ahead : ahead next ms ≡ behind m ms
    next-ahead = ap (λ o. ahead o ms) is ∙ ahead-next m ms (walk_of-once v t sound)

    pub next-on : (k : ℕ) → next ≡ Some k → has_entry ms k ≡ true
    next-on k h = has-behind k m ms (first_or-has (behind m ms) k (sym is ∙ h))

    pub next-smaller : {was : Option ℕ} → was ≡ Some m → length (ahead next ms) < length (ahead was ms)
    next-smaller at = omega (arith, ap length next-ahead, ap (λ o. length (ahead o ms)) at)
