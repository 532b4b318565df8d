-- The thread that runs next is the first that joined the greatest level that has a thread.
use Rattle.std.proofs.Common.{◌≡◌, ◌≢◌, ◌<◌, ◌≤◌, ◌⊎◌, ◌==◌, ◌||◌, ℕ, zero, suc, Bool, true, false, List, [], ◌∷◌, if◌then◌else◌, refl, sym, ap, ◌∙◌, subst, arith, inl, inr, eqb-true, eq-eqb, true≢false}
use Rattle.std.proofs.lemmas.Bool.{cases_eq, cases_lt, false_from_ne_true}
use Rattle.pif_model.specs.PiKernel.{Kernel, IsKernel, seat_at, has_seat, is_ready, effective_in, is_among, level_at, first_from, pick_in}
use Rattle.pif_model_lemmas.proofs.kernel.Settled.{stands, effective_range}

-- THE FIRST OF SOME LEVELS

-- none of the levels 1 to n has a thread
abbrev pub IsEmptyUpTo : List (List ℕ) → ℕ → Type 0
IsEmptyUpTo levels n = (p : ℕ) → 1 ≤ p → p ≤ n → level_at levels p ≡ []

-- t is the first of the greatest of the levels 1 to n that has a thread
pub record IsFirstIn (levels : List (List ℕ)) (n t : ℕ) : Type 0 where
  pub level : ℕ
  pub least : 1 ≤ level
  pub most : level ≤ n
  pub later : List ℕ
  pub first : level_at levels level ≡ t ∷ later
  pub above : (p : ℕ) → level < p → p ≤ n → level_at levels p ≡ []

-- no level
from_none : (levels : List (List ℕ)) → first_from levels zero ≡ 0
unfolding first_from
from_none levels = refl

-- a level that has a thread
from_first : (levels : List (List ℕ)) (n t : ℕ) (ts : List ℕ) → level_at levels (suc n) ≡ t ∷ ts
    → first_from levels (suc n) ≡ t
unfolding first_from
from_first levels n t ts e = ap (λ (xs : List ℕ). elim xs [ [] ↦ first_from levels n | (u ∷ us) ↦ u ]) e

-- a level that has none
from_empty : (levels : List (List ℕ)) (n : ℕ) → level_at levels (suc n) ≡ []
    → first_from levels (suc n) ≡ first_from levels n
unfolding first_from
from_empty levels n e = ap (λ (xs : List ℕ). elim xs [ [] ↦ first_from levels n | (u ∷ us) ↦ u ]) e

-- one of the two is so
pub first_from-cases : (levels : List (List ℕ)) (n : ℕ)
    → IsFirstIn levels n (first_from levels n) ⊎ (IsEmptyUpTo levels n × (first_from levels n ≡ 0))
first_from-cases levels zero = inr ((λ p l m. absurd (omega arith)), from_none levels)
first_from-cases levels (suc n) = by_level (level_at levels (suc n)) refl (first_from-cases levels n)
  where
    empty : IsEmptyUpTo levels n → level_at levels (suc n) ≡ [] → IsEmptyUpTo levels (suc n)
    empty none e p l m = go (cases_eq p (suc n))
      where
        go : (p ≡ suc n) ⊎ (p ≢ suc n) → level_at levels p ≡ []
        go (inl x) = ap (level_at levels) x ∙ e
        go (inr d) = none p l (omega arith)

    above : (h : IsFirstIn levels n (first_from levels n)) → level_at levels (suc n) ≡ [] → (p : ℕ) → h.level < p
        → p ≤ suc n → level_at levels p ≡ []
    above h e p l m = go (cases_eq p (suc n))
      where
        go : (p ≡ suc n) ⊎ (p ≢ suc n) → level_at levels p ≡ []
        go (inl x) = ap (level_at levels) x ∙ e
        go (inr d) = h.above p l (omega arith)

    by_level : (xs : List ℕ) → level_at levels (suc n) ≡ xs
        → IsFirstIn levels n (first_from levels n) ⊎ (IsEmptyUpTo levels n × (first_from levels n ≡ 0))
        → IsFirstIn levels (suc n) (first_from levels (suc n))
        ⊎ (IsEmptyUpTo levels (suc n) × (first_from levels (suc n) ≡ 0))
    by_level [] e (inl h) = inl (record {
      level = h.level;
      least = h.least;
      most = omega (arith, h.most);
      later = h.later;
      first = h.first ∙ ap (λ t. t ∷ h.later) (sym (from_empty levels n e));
      above = above h e;
    })
    by_level [] e (inr r) = inr (empty r.0 e, from_empty levels n e ∙ r.1)
    by_level (t ∷ ts) e r = inl (record {
      level = suc n;
      least = omega arith;
      most = omega arith;
      later = ts;
      first = e ∙ ap (λ u. u ∷ ts) (sym (from_first levels n t ts e));
      above = λ p l m. absurd (omega arith);
    })

-- WHO RUNS NEXT

-- t is ready, no ready thread has a greater effective priority, and of those that have the same it joined first
pub record IsPicked (k : Kernel) (t : ℕ) : Type 0 where
  pub added : has_seat k t ≡ true
  pub ready : is_ready (seat_at k t).status ≡ true
  pub greatest : (u : ℕ) → has_seat k u ≡ true → is_ready (seat_at k u).status ≡ true
      → effective_in k u ≤ effective_in k t
  pub later : List ℕ
  pub first : level_at k.levels (effective_in k t) ≡ t ∷ later
  -- no greater level has a thread
  pub above : (p : ℕ) → effective_in k t < p → p ≤ 99 → level_at k.levels p ≡ []

-- what stands on a level says
stood : (k : Kernel) (at : ℕ → ℕ) (t p : ℕ) → stands k at t p ≡ true
    → (has_seat k t ≡ true) × (is_ready (seat_at k t).status ≡ true) × (at t ≡ p)
stood k at t p h = go (has_seat k t) (is_ready (seat_at k t).status) (at t == p) refl h
  where
    go : (a b c : Bool) → (at t == p) ≡ c → (if a then (if b then c else false) else false) ≡ true
        → (a ≡ true) × (b ≡ true) × (at t ≡ p)
    go true true true e x = (refl, refl, eqb-true (at t) p e)
    go true true false e x = absurd (true≢false (sym x))
    go true false c e x = absurd (true≢false (sym x))
    go false b c e x = absurd (true≢false (sym x))

module _ (k : Kernel) (h : IsKernel k) where
  -- a ready thread stands at the level of its effective priority
  pub on_level : (u : ℕ) → has_seat k u ≡ true → is_ready (seat_at k u).status ≡ true
      → is_among (level_at k.levels (effective_in k u)) u ≡ true
  on_level u a r = h.level u (effective_in k u) ∙ rw (a, r) (eq-eqb (effective_in k u) (effective_in k u) refl)

  -- no thread stands on a level that has none
  off_level : (u p : ℕ) → level_at k.levels p ≡ [] → is_among (level_at k.levels p) u ≡ false
  off_level u p e = ap (λ xs. is_among xs u) e

  -- the first of the greatest level is the one
  pub picked-from_first : (t : ℕ) → IsFirstIn k.levels 99 t → IsPicked k t
  picked-from_first t f = record {
    added = says.0;
    ready = says.1;
    greatest = greatest;
    later = f.later;
    first = ap (level_at k.levels) says.2 ∙ f.first;
    above = λ p l m. f.above p (subst (λ n. n < p) says.2 l) m;
  }
    where
      says : (has_seat k t ≡ true) × (is_ready (seat_at k t).status ≡ true) × (effective_in k t ≡ f.level)
      says = stood k (effective_in k) t f.level
          (sym (h.level t f.level) ∙ ap (λ xs. is_among xs t) f.first
          ∙ ap (λ b. b || is_among f.later t) (eq-eqb t t refl))

      greatest : (u : ℕ) → has_seat k u ≡ true → is_ready (seat_at k u).status ≡ true
          → effective_in k u ≤ effective_in k t
      greatest u a r = go (cases_lt (effective_in k t) (effective_in k u))
        where
          go : (effective_in k t < effective_in k u) ⊎ (effective_in k u ≤ effective_in k t)
              → effective_in k u ≤ effective_in k t
          go (inr l) = l
          go (inl l) = absurd (true≢false (sym (on_level u a r)
              ∙ off_level u (effective_in k u)
              (f.above (effective_in k u) (omega (arith, says.2)) (effective_range k h.shape u a).1)))

  -- who runs next is picked, or nobody is ready
  pub pick_cases : IsPicked k (pick_in k)
      ⊎ (((u : ℕ) → has_seat k u ≡ true → is_ready (seat_at k u).status ≡ false) × (pick_in k ≡ 0))
  pick_cases = go (first_from-cases k.levels 99)
    where
      unready : IsEmptyUpTo k.levels 99 → (u : ℕ) → has_seat k u ≡ true → is_ready (seat_at k u).status ≡ false
      unready none u a = false_from_ne_true (is_ready (seat_at k u).status) (λ r.
          let e = effective_range k h.shape u a in
          true≢false (sym (on_level u a r) ∙ off_level u (effective_in k u) (none (effective_in k u) e.0 e.1)))

      go : IsFirstIn k.levels 99 (pick_in k) ⊎ (IsEmptyUpTo k.levels 99 × (pick_in k ≡ 0))
          → IsPicked k (pick_in k)
          ⊎ (((u : ℕ) → has_seat k u ≡ true → is_ready (seat_at k u).status ≡ false) × (pick_in k ≡ 0))
      go (inl f) = inl (picked-from_first (pick_in k) f)
      go (inr r) = inr (unready r.0, r.1)

  -- if somebody is picked
  pub pick_law : pick_in k ≢ 0 → IsPicked k (pick_in k)
  pick_law n = go pick_cases
    where
      go : IsPicked k (pick_in k)
          ⊎ (((u : ℕ) → has_seat k u ≡ true → is_ready (seat_at k u).status ≡ false) × (pick_in k ≡ 0))
          → IsPicked k (pick_in k)
      go (inl p) = p
      go (inr r) = absurd (n r.1)

  -- if nobody is picked, no thread is ready
  pub pick_none : pick_in k ≡ 0 → (u : ℕ) → has_seat k u ≡ true → is_ready (seat_at k u).status ≡ false
  pick_none e = go pick_cases
    where
      go : IsPicked k (pick_in k)
          ⊎ (((u : ℕ) → has_seat k u ≡ true → is_ready (seat_at k u).status ≡ false) × (pick_in k ≡ 0))
          → (u : ℕ) → has_seat k u ≡ true → is_ready (seat_at k u).status ≡ false
      go (inl p) = absurd (true≢false (sym p.added ∙ ap (has_seat k) e))
      go (inr r) = r.0

  -- if a thread is ready, somebody is picked
  pub pick_some : (u : ℕ) → has_seat k u ≡ true → is_ready (seat_at k u).status ≡ true → pick_in k ≢ 0
  pick_some u a r e = true≢false (sym r ∙ pick_none e u a)
