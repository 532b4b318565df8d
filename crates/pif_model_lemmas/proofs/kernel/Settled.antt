-- A kernel that keeps all but that its ready threads stand each on exactly one level is a kernel once it is settled.
use Rattle.std.proofs.Common.{◌≡◌, ◌≢◌, ◌⊎◌, ℕ, suc, ◌≤◌, ◌<◌, ◌-◌, Bool, true, false, ◌||◌, ◌==◌, eqb, nat_lt, List, [], ◌++◌, filter, length, map, refl, sym, ap, ap₂, ◌∙◌, subst, arith, if◌then◌else◌, eq-eqb, ne_eqb, true≢false, inl, inr}
use Rattle.std.specs.List.{list_any, IsDistinct}
use Rattle.std.proofs.lemmas.Bool.{cases_eq, cases_lt, false_from_ne_true}
use Rattle.std.proofs.lemmas.List.Folds.{list_any-append}
use Rattle.pif_model.specs.declared.lines.Status.TheVariants.{Queued}
use Rattle.pif_model.specs.Graph.{is_priority, has_waiter, reaches_within}
use Rattle.pif_model.specs.PiKernel.{Kernel, Seat, IsKernel, IsKernelShaped, ParksAsTold, seat_at, has_seat, state_at, waits_for, effective_in, is_ready, is_among, numbers, level_at, moves_to, with_effective_levels}
use Rattle.pif_model_lemmas.proofs.Numbers.{within, from_within}
use Rattle.pif_model_lemmas.proofs.Greatest.{effective_most, effective_own}
use Rattle.pif_model_lemmas.proofs.kernel.Numbers.{among-filter, distinct-filter, distinct-append, distinct-none, distinct-numbers, any_number, no_number, among-numbers}
use Rattle.pif_model_lemmas.proofs.kernel.Parks.{parks_same}
use Rattle.pif_model_lemmas.proofs.kernel.Levels.{level-by, level-by_none, level-by_past, length-levels_by}

-- PRIORITIES

-- a number that passes the test of a priority is 1 to 99
pub priority-range : (p : ℕ) → is_priority p ≡ true → (1 ≤ p) × (p ≤ 99)
priority-range p h = let r = within p 100 h in (omega (arith, r.0), omega (arith, r.1))

-- and back
pub priority-from_range : (p : ℕ) → 1 ≤ p → p ≤ 99 → is_priority p ≡ true
priority-from_range p l h = from_within p 100 (omega arith) (omega arith)

-- no base priority is above 99
pub base_most : (k : Kernel) → IsKernelShaped k → (u : ℕ) → u < length k.seats → (seat_at k u).base ≤ 99
base_most k h u l = go (cases_eq u 0)
  where
    go : (u ≡ 0) ⊎ (u ≢ 0) → (seat_at k u).base ≤ 99
    go (inl e) =
        let b : (seat_at k u).base ≡ 0 = ap (λ v. (seat_at k v).base) e ∙ ap (λ (x : Seat). x.base) h.nobody in
        omega arith
    go (inr d) = (priority-range (seat_at k u).base (h.priorities u (from_within u (length k.seats) d l))).1

-- the effective priority of a thread that was added is 1 to 99
pub effective_range : (k : Kernel) → IsKernelShaped k → (t : ℕ) → has_seat k t ≡ true
    → (1 ≤ effective_in k t) × (effective_in k t ≤ 99)
effective_range k h t e = (low, high)
  where
    low : 1 ≤ effective_in k t
    low =
        omega (
          arith,
          (priority-range (seat_at k t).base (h.priorities t e)).0,
          effective_own (length k.seats)
              (waits_for k) (λ u. (seat_at k u).base) t (within t (length k.seats) e).1,
        )

    high : effective_in k t ≤ 99
    high = effective_most (length k.seats) (waits_for k) (λ u. (seat_at k u).base) t 99 (λ u l r. base_most k h u l)

-- LISTED

-- whether t may run and `at` tells level p for it
abbrev pub stands : Kernel → (ℕ → ℕ) → ℕ → ℕ → Bool
stands k at t p = if has_seat k t then (if is_ready (seat_at k t).status then at t == p else false) else false

-- each ready thread stands on one level of 1 to 99, that which `at` tells, and nobody else stands on any
pub record IsListed (k : Kernel) (at : ℕ → ℕ) : Type 0 where
  pub on : (t p : ℕ) → is_among (level_at k.levels p) t ≡ stands k at t p
  pub range : (t : ℕ) → has_seat k t ≡ true → (1 ≤ at t) × (at t ≤ 99)
  pub once : (p : ℕ) → IsDistinct eqb (level_at k.levels p)

-- a thread is on some level exactly if it is ready
pub listed_any : (k : Kernel) (at : ℕ → ℕ) → IsListed k at → (t : ℕ)
    → list_any (λ q. is_among (level_at k.levels q) t) (numbers 99)
    ≡ (if has_seat k t then is_ready (seat_at k t).status else false)
listed_any k at h t = by_seat (has_seat k t) refl (is_ready (seat_at k t).status) refl
  where
    by_seat : (b : Bool) → has_seat k t ≡ b → (r : Bool) → is_ready (seat_at k t).status ≡ r
        → list_any (λ q. is_among (level_at k.levels q) t) (numbers 99)
        ≡ (if has_seat k t then is_ready (seat_at k t).status else false)
    by_seat true e true r =
        let here : is_among (level_at k.levels (at t)) t ≡ true = h.on t (at t)
        ∙ rw (e, r) (eq-eqb (at t) (at t) refl) in
        any_number (λ q. is_among (level_at k.levels q) t) 99 (at t) (h.range t e).0 (h.range t e).1 here
        ∙ sym (rw (e, r) refl)
    by_seat true e false r =
        no_number (λ q. is_among (level_at k.levels q) t) 99 (λ q. h.on t q ∙ rw (e, r) refl) ∙ sym (rw (e, r) refl)
    by_seat false e r x =
        no_number (λ q. is_among (level_at k.levels q) t) 99 (λ q. h.on t q ∙ rw e refl) ∙ sym (rw e refl)

-- SETTLED

module _ (k : Kernel) (at : ℕ → ℕ) (s : IsKernelShaped k) (h : IsListed k at) where
  -- those of a level that stay there
  abbrev stay : ℕ → List ℕ
  stay p = filter (λ u. effective_in k u == p) (level_at k.levels p)

  -- those that move there
  abbrev move : ℕ → List ℕ
  move p = filter (moves_to (effective_in k) k.levels p) (numbers (length k.seats - 1))

  -- a settled level of 1 to 99
  pub level-settled : (p : ℕ) → 1 ≤ p → p ≤ 99 → level_at (with_effective_levels k).levels p ≡ stay p ++ move p
  level-settled p l m = level-by (λ q. stay q ++ move q) p l m

  -- who is among the numbers of all threads was added
  added : (t : ℕ) → is_among (numbers (length k.seats - 1)) t ≡ has_seat k t
  added t =
      let e : suc (length k.seats - 1) ≡ length k.seats = omega (arith, s.some) in
      among-numbers (length k.seats - 1) t ∙ ap (λ n. if t == 0 then false else nat_lt t n) e

  -- who moves to a level was not on it
  moves-not_on : (t p : ℕ) → is_among (move p) t ≡ true → is_among (level_at k.levels p) t ≡ false
  moves-not_on t p e =
      go (effective_in k t == p) (is_among (level_at k.levels p) t) (is_among (numbers (length k.seats - 1)) t)
      (list_any (λ q. is_among (level_at k.levels q) t) (numbers 99))
      (sym (among-filter (moves_to (effective_in k) k.levels p) (numbers (length k.seats - 1)) t) ∙ e)
    where
      go : (here on inside any : Bool)
          → (if (if here then (if on then false else any) else false) then inside else false) ≡ true → on ≡ false
      go true true inside any x = absurd (true≢false (sym x))
      go true false inside any x = refl
      go false on inside any x = absurd (true≢false (sym x))

  -- who stands on a settled level
  among-settled : (t p : ℕ) → is_among (stay p ++ move p) t ≡ stands k (effective_in k) t p
  among-settled t p =
      list_any-append (λ u. u == t) (stay p) (move p)
      ∙ ap₂ (λ a b. a || b) (among-filter (λ u. effective_in k u == p) (level_at k.levels p) t)
      (among-filter (moves_to (effective_in k) k.levels p) (numbers (length k.seats - 1)) t)
      ∙ by_cases (effective_in k t == p) (is_among (level_at k.levels p) t)
      (list_any (λ q. is_among (level_at k.levels q) t) (numbers 99)) (is_among (numbers (length k.seats - 1)) t)
      (has_seat k t) (is_ready (seat_at k t).status) (at t == p) (added t) (listed_any k at h t) (h.on t p)
    where
      by_cases : (here listed any inside seat ready was : Bool) → inside ≡ seat
          → any ≡ (if seat then ready else false) → listed ≡ (if seat then (if ready then was else false) else false)
          → ((if here then listed else false)
          || (if (if here then (if listed then false else any) else false) then inside else false))
          ≡ (if seat then (if ready then here else false) else false)
      by_cases true true any inside true true was i a l = refl
      by_cases true true any inside true false was i a l = cc
      by_cases true true any inside false ready was i a l = cc
      by_cases true false any inside true true was i a l = rw (a, i) refl
      by_cases true false any inside true false was i a l = rw a refl
      by_cases true false any inside false ready was i a l = rw a refl
      by_cases false listed any inside true true was i a l = refl
      by_cases false listed any inside true false was i a l = refl
      by_cases false listed any inside false ready was i a l = refl

  -- nobody stands on a level that there is not
  stands_nowhere : (t p : ℕ) → (p ≡ 0) ⊎ (100 ≤ p) → stands k (effective_in k) t p ≡ false
  stands_nowhere t p out = by_seat (has_seat k t) refl (is_ready (seat_at k t).status)
    where
      apart : has_seat k t ≡ true → (p ≡ 0) ⊎ (100 ≤ p) → effective_in k t ≢ p
      apart e (inl z) x = omega (arith, effective_range k s t e)
      apart e (inr g) x = omega (arith, effective_range k s t e)

      by_seat : (b : Bool) → has_seat k t ≡ b → (r : Bool)
          → (if b then (if r then effective_in k t == p else false) else false) ≡ false
      by_seat true e true = ne_eqb (effective_in k t) p (apart e out)
      by_seat true e false = refl
      by_seat false e r = refl

  -- by the number of the level
  by_level : (P : List ℕ → ℕ → Type 0) → ((p : ℕ) → 1 ≤ p → p ≤ 99 → P (stay p ++ move p) p)
      → ((p : ℕ) → (p ≡ 0) ⊎ (100 ≤ p) → P [] p)
      → (p : ℕ) → P (level_at (with_effective_levels k).levels p) p
  by_level P inside outside p = go (cases_eq p 0) (cases_lt p 100)
    where
      go : (p ≡ 0) ⊎ (p ≢ 0) → (p < 100) ⊎ (100 ≤ p) → P (level_at (with_effective_levels k).levels p) p
      go (inl z) c =
          subst (λ q. P (level_at (with_effective_levels k).levels q) q) (sym z)
          (subst (λ xs. P xs 0) (sym (level-by_none (λ q. stay q ++ move q))) (outside 0 (inl refl)))
      go (inr d) (inl l) =
          subst (λ xs. P xs p) (sym (level-settled p (omega arith) (omega arith)))
          (inside p (omega arith) (omega arith))
      go (inr d) (inr g) = subst (λ xs. P xs p) (sym (level-by_past (λ q. stay q ++ move q) p g)) (outside p (inr g))

  -- each stands at the level of its effective priority
  pub settled_level : (t p : ℕ) → is_among (level_at (with_effective_levels k).levels p) t ≡ stands k (effective_in k) t p
  settled_level t p =
      by_level (λ xs q. is_among xs t ≡ stands k (effective_in k) t q) (λ q l m. among-settled t q)
      (λ q out. sym (stands_nowhere t q out)) p

  -- and once
  pub settled_once : (p : ℕ) → IsDistinct eqb (level_at (with_effective_levels k).levels p)
  settled_once p = by_level (λ xs q. IsDistinct eqb xs) (λ q l m. once q) (λ q out. distinct-none) p
    where
      once : (q : ℕ) → IsDistinct eqb (stay q ++ move q)
      once q =
          distinct-append (stay q) (move q)
          (distinct-filter (λ u. effective_in k u == q) (level_at k.levels q) (h.once q))
          (distinct-filter (moves_to (effective_in k) k.levels q) (numbers (length k.seats - 1))
          (distinct-numbers (length k.seats - 1)))
          (λ u e. false_from_ne_true (is_among (move q) u) (λ x. true≢false (sym (stayed u q e) ∙ moves-not_on u q x)))
        where
          stayed : (u q : ℕ) → is_among (stay q) u ≡ true → is_among (level_at k.levels q) u ≡ true
          stayed u q e =
              go (effective_in k u == q) (sym (among-filter (λ v. effective_in k v == q) (level_at k.levels q) u) ∙ e)
            where
              go : (b : Bool) → (if b then is_among (level_at k.levels q) u else false) ≡ true
                  → is_among (level_at k.levels q) u ≡ true
              go true x = x
              go false x = absurd (true≢false (sym x))

  -- as many levels
  pub settled_shape : IsKernelShaped (with_effective_levels k)
  settled_shape = record {
    some = s.some;
    few = s.few;
    nobody = s.nobody;
    priorities = s.priorities;
    states = s.states;
    no_mutex = s.no_mutex;
    levels = length-levels_by (λ p. stay p ++ move p);
  }

-- all that a kernel keeps but for its levels
pub record IsUnsettled (k : Kernel) : Type 0 where
  pub shape : IsKernelShaped k
  pub queue : (u m : ℕ) → list_any (λ (w : ℕ × ℕ). if w.0 == u then w.1 == m else false) k.waiters ≡ true
      → (seat_at k u).status ≡ Queued m
  pub queued : (u m : ℕ) → (seat_at k u).status ≡ Queued m
      → list_any (λ (w : ℕ × ℕ). if w.0 == u then w.1 == m else false) k.waiters ≡ true
  pub once : IsDistinct eqb (map (λ (w : ℕ × ℕ). w.0) k.waiters)
  pub parking : ParksAsTold k
  pub states : (m : ℕ) → (state_at k m == 0) ≡ (if has_waiter k.waiters m then false else true)
  pub owners : (m : ℕ) → state_at k m ≢ 0 → has_seat k (state_at k m) ≡ true
  pub acyclic : (u : ℕ) → waits_for k u ≢ 0 → reaches_within (length k.seats) (waits_for k) (waits_for k u) u ≡ false

-- a kernel whose ready threads stand each on exactly one level is one that keeps all once it is settled
pub settled_kept : (k : Kernel) (at : ℕ → ℕ) → IsUnsettled k → IsListed k at → IsKernel (with_effective_levels k)
settled_kept k at w h = record {
  shape = settled_shape k at w.shape h;
  queue = w.queue;
  queued = w.queued;
  once = w.once;
  parking = parks_same k (with_effective_levels k) refl (λ u. refl) w.parking;
  states = w.states;
  owners = w.owners;
  acyclic = w.acyclic;
  level = settled_level k at w.shape h;
  level_once = settled_once k at w.shape h;
}

-- a kernel's ready threads stand at their effective priorities
pub listed-from_kernel : (k : Kernel) → IsKernel k → IsListed k (effective_in k)
listed-from_kernel k h = record { on = h.level; range = effective_range k h.shape; once = h.level_once }

-- a kernel whose ready threads stand at their effective priorities keeps all
pub kernel-from_listed : (k : Kernel) → IsUnsettled k → IsListed k (effective_in k) → IsKernel k
kernel-from_listed k w h = record {
  shape = w.shape;
  queue = w.queue;
  queued = w.queued;
  once = w.once;
  parking = w.parking;
  states = w.states;
  owners = w.owners;
  acyclic = w.acyclic;
  level = h.on;
  level_once = h.once;
}
