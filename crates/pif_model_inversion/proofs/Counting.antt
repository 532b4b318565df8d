-- How often threads ran: there are no more turns of threads than the sum, over threads among which all of them are, of
-- how often each one ran.
use Rattle.std.proofs.Common.{◌≡◌, ◌⊎◌, ◌≤◌, ◌+◌, ℕ, Bool, true, false, ◌==◌, ◌||◌, nat_lt, cond, if◌then◌else◌, List, [], ◌∷◌, length, refl, sym, ap, ◌∙◌, subst, inl, inr, arith, eq-eqb}
use Rattle.std.specs.List.{list_any, count_by, sum_by, AllByRecursion}
use Rattle.std.proofs.lemmas.Bool.{cases_eq, cases_Bool, true≢false, ne_eqb}
use Rattle.std.proofs.lemmas.List.Sums.{sum_by-cons}
use Rattle.pif_model.specs.Posix.{World, thread_at}
use Rattle.pif_model_inversion.specs.Delays.{has_run, owns_any, times_owning, is_high, ran_high, lower_turns}

-- whether this was a turn of t that owned a mutex
abbrev is_owning : ℕ → ℕ × World → Bool
is_owning t x = if x.0 == t then owns_any x.1 t else false

-- one more turn, of t itself that owned a mutex, or any
times-own : (turns : List (ℕ × World)) (x : ℕ × World) (t : ℕ) → x.0 ≡ t → owns_any x.1 x.0 ≡ true
    → times_owning (x ∷ turns) t ≡ 1 + times_owning turns t
times-own turns x t e owns =
    sum_by-cons (λ y. cond (is_owning t y) 1 0) x turns
    ∙ ap (λ b. cond b 1 0 + times_owning turns t) (ap (λ b. if b then owns_any x.1 t else false) (eq-eqb x.0 t e) ∙ subst (λ u. owns_any x.1 u ≡ true) e owns)

times_grow : (turns : List (ℕ × World)) (x : ℕ × World) (t : ℕ) → times_owning turns t ≤ times_owning (x ∷ turns) t
times_grow turns x t = omega (arith, sum_by-cons (λ y. cond (is_owning t y) 1 0) x turns)

-- each one ran as often or more
sums_grow : (x : ℕ × World) (turns : List (ℕ × World)) (ts : List ℕ) → sum_by (times_owning turns) ts ≤ sum_by (times_owning (x ∷ turns)) ts
sums_grow x turns [] = omega arith
sums_grow x turns (t ∷ ts) =
    omega (arith, sums_grow x turns ts, times_grow turns x t, sum_by-cons (times_owning turns) t ts, sum_by-cons (times_owning (x ∷ turns)) t ts)

-- and one of them more often
sums_more : (x : ℕ × World) (turns : List (ℕ × World)) (ts : List ℕ) → owns_any x.1 x.0 ≡ true → list_any (λ u. u == x.0) ts ≡ true
    → 1 + sum_by (times_owning turns) ts ≤ sum_by (times_owning (x ∷ turns)) ts
sums_more x turns [] owns h = absurd (true≢false (sym h))
sums_more x turns (t ∷ ts) owns h = go (cases_eq t x.0) (sums_more x turns ts owns)
  where
    go : (t ≡ x.0) ⊎ (t ≡ x.0 → ⊥)
        → (list_any (λ u. u == x.0) ts ≡ true → 1 + sum_by (times_owning turns) ts ≤ sum_by (times_owning (x ∷ turns)) ts)
        → 1 + sum_by (times_owning turns) (t ∷ ts) ≤ sum_by (times_owning (x ∷ turns)) (t ∷ ts)
    go (inl e) more =
        omega (arith, sums_grow x turns ts, times-own turns x t (sym e) owns, sum_by-cons (times_owning turns) t ts, sum_by-cons (times_owning (x ∷ turns)) t ts)
    go (inr d) more =
        omega (arith, more (rw (ne_eqb t x.0 d) at h), times_grow turns x t, sum_by-cons (times_owning turns) t ts, sum_by-cons (times_owning (x ∷ turns)) t ts)

-- whether this was a turn of t with less than the base priority of h
abbrev pub is_low : ℕ → ℕ × World → Bool
is_low h x = nat_lt (thread_at x.1 x.0).base (thread_at x.1 h).base

-- those that are not among `high` ran low
low-from_none : (h : ℕ) (x : ℕ × World) → is_high h x.0 x ≡ false → is_low h x ≡ true
low-from_none h x e = go (is_low h x) (rw (eq-eqb x.0 x.0 refl) at e)
  where
    go : (b : Bool) → (if b then false else true) ≡ false → b ≡ true
    go true k = refl
    go false k = absurd (true≢false k)

-- the turns of others than the high ones are no more than those that they had as owners
counted : (h : ℕ) (high : ℕ → Bool) (turns : List (ℕ × World)) (ts : List ℕ)
    → AllByRecursion (λ x. is_low h x ≡ true → owns_any x.1 x.0 ≡ true) turns
    → ((p : ℕ) → ran_high h turns p ≡ true → high p ≡ true)
    → ((p : ℕ) → has_run turns p ≡ true → high p ≡ false → list_any (λ u. u == p) ts ≡ true)
    → count_by (λ x. if high x.0 then false else true) turns ≤ sum_by (times_owning turns) ts
counted h high [] ts own up all = omega arith
counted h high (x ∷ turns) ts own up all = go (cases_Bool (high x.0)) (counted h high turns ts own.1 rest_up rest_all)
  where
    either : (p : ℕ) (b : Bool) {c : Bool} → c ≡ true → (b || c) ≡ true
    either p true e = refl
    either p false e = e

    rest_up : (p : ℕ) → ran_high h turns p ≡ true → high p ≡ true
    rest_up p k = up p (either p (is_high h p x) k)

    rest_all : (p : ℕ) → has_run turns p ≡ true → high p ≡ false → list_any (λ u. u == p) ts ≡ true
    rest_all p k n = all p (either p (x.0 == p) k) n

    -- if it isn't high it ran low
    not_high : high x.0 ≡ false → is_high h x.0 x ≡ false
    not_high n = by_case (cases_Bool (is_high h x.0 x))
      where
        by_case : (is_high h x.0 x ≡ true) ⊎ (is_high h x.0 x ≡ false) → is_high h x.0 x ≡ false
        by_case (inl y) = absurd (true≢false (sym (up x.0 (ap (λ b. b || ran_high h turns x.0) y)) ∙ n))
        by_case (inr k) = k

    here : has_run (x ∷ turns) x.0 ≡ true
    here = ap (λ b. b || has_run turns x.0) (eq-eqb x.0 x.0 refl)

    more : count_by (λ y. if high y.0 then false else true) (x ∷ turns)
        ≡ cond (if high x.0 then false else true) 1 0 + count_by (λ y. if high y.0 then false else true) turns
    more = sum_by-cons (λ y. cond (if high y.0 then false else true) 1 0) x turns

    go : (high x.0 ≡ true) ⊎ (high x.0 ≡ false)
        → count_by (λ y. if high y.0 then false else true) turns ≤ sum_by (times_owning turns) ts
        → count_by (λ y. if high y.0 then false else true) (x ∷ turns) ≤ sum_by (times_owning (x ∷ turns)) ts
    go (inl y) ih =
        let e = more ∙ ap (λ b. cond (if b then false else true) 1 0 + count_by (λ y. if high y.0 then false else true) turns) y in
        omega (arith, ih, e, sums_grow x turns ts)
    go (inr n) ih =
        let e = more ∙ ap (λ b. cond (if b then false else true) 1 0 + count_by (λ y. if high y.0 then false else true) turns) n in
        omega (arith, ih, e, sums_more x turns ts (own.0 (low-from_none h x (not_high n))) (all x.0 here n))

-- if each one that ran low owned a mutex then, there were no more such turns than those had together
pub counted_below : (h : ℕ) (turns : List (ℕ × World)) (ts : List ℕ)
    → AllByRecursion (λ x. is_low h x ≡ true → owns_any x.1 x.0 ≡ true) turns
    → ((p : ℕ) → has_run turns p ≡ true → ran_high h turns p ≡ false → list_any (λ u. u == p) ts ≡ true)
    → lower_turns h turns ≤ sum_by (times_owning turns) ts
counted_below h turns ts own all = counted h (ran_high h turns) turns ts own (λ p k. k) all

-- if nobody ran with the base priority of h or more, all turns are such
pub all_lower : (h : ℕ) (turns : List (ℕ × World)) → ((t : ℕ) → ran_high h turns t ≡ false) → lower_turns h turns ≡ length turns
all_lower h turns none = go turns
  where
    go : (xs : List (ℕ × World)) → count_by (λ x. if ran_high h turns x.0 then false else true) xs ≡ length xs
    go [] = refl
    go (x ∷ xs) =
        let e =
        sum_by-cons (λ y. cond (if ran_high h turns y.0 then false else true) 1 0) x xs
        ∙ ap (λ b. cond (if b then false else true) 1 0 + count_by (λ y. if ran_high h turns y.0 then false else true) xs) (none x.0) in
        omega (arith, e, go xs)
