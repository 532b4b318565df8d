-- The greatest base priority of a thread and of all that wait for it, over the owner states.
use Rattle.std.proofs.Common.{◌≡◌, ◌≢◌, ◌⊎◌, ◌↔◌, ℕ, zero, suc, ◌<◌, ◌≤◌, ◌+◌, max, Bool, true, false, ◌==◌, eqb, List, [], ◌∷◌, length, Option, Some, None, refl, sym, ap, ◌∙◌, subst, inl, inr, if◌then◌else◌, arith}
use Rattle.std.specs.Prelude.{option_map, option_and_then, unwrap_or}
use Rattle.std.specs.List.{list_any, IsDistinct}
use Rattle.std.proofs.lemmas.Bool.{cases_eq, cases_lt, eqb-true, eq-eqb, or_cases, false_from_ne_true}
use Rattle.std.proofs.lemmas.List.{get_or_past}
use Rattle.std.proofs.lemmas.Map.Keys.{IsDistinct-cons}
use Rattle.std.proofs.lemmas.Map.Steps.{length-le_from_distinct_below}
use Rattle.pif_model.specs.Graph.{reaches_within, greatest_where, effective_among, Reaches, IsEffective}
use Rattle.pif_model.specs.Graph.Reaches.{here, hop}
use Rattle.pif_model_lemmas.proofs.Following.{IsGreatestAt, reaches-from_within, all_apart, no_repeats, greatest_where_above, greatest_where_some}
use Rattle.pif_model_lemmas.proofs.Greatest.{effective_above, effective_attained, effective_own, effective_same}
use Rattle.pif_model_lemmas.proofs.Hops.{Reaches-then, alone, nobody, found, found_below}
use Rattle.pif_kernel_model.specs.Owners.{Owners, Task, Wait, no_task, task_at, owner_at, waits_on, waits_for, WaitsFor, AreSoundOwners}
use Rattle.pif_kernel_model.specs.Boosts.{IsThread, base_of, local_of, greatest_base, greatest_waiting, with_rank_priority, with_effective, IsRepairedBut}

-- for whom a thread with this wait waits
abbrev waits_by : Owners → Option Wait → ℕ
waits_by v w = unwrap_or (option_and_then (owner_at v) (option_map (λ (x : Wait). x.state) w)) 0

-- who has no seat waits for nobody
pub out_waits : (v : Owners) (x : ℕ) → length v.seats ≤ x → waits_for v x ≡ 0
out_waits v x l = ap (λ (s : Task). waits_by v s.wait) (get_or_past v.seats x no_task l)

-- nor does nobody
pub nobody_waits : (v : Owners) → AreSoundOwners v → waits_for v 0 ≡ 0
nobody_waits v s = ap (λ (x : Task). waits_by v x.wait) s.nobody

pub nobody_base : (v : Owners) → AreSoundOwners v → base_of v 0 ≡ 0
nobody_base v s = ap (λ (x : Task). x.base) s.nobody

-- who waits on no state waits for nobody
pub waits_for-none : (v : Owners) (u : ℕ) → waits_on v u ≡ None → waits_for v u ≡ 0
waits_for-none v u e = ap (λ (o : Option ℕ). unwrap_or (option_and_then (owner_at v) o) 0) e

-- and who waits on a state for its owner
pub waits_for-owner : (v : Owners) (u state owner : ℕ) → waits_on v u ≡ Some state → owner_at v state ≡ Some owner → waits_for v u ≡ owner
waits_for-owner v u state owner e o = ap (λ (s : Option ℕ). unwrap_or (option_and_then (owner_at v) s) 0) e ∙ ap (λ (s : Option ℕ). unwrap_or s 0) o

-- a search over one hop more than there are seats finds each chain
pub closes : (v : Owners) (u t : ℕ) (b : Bool) → b ≡ reaches_within (suc (length v.seats)) (waits_for v) u t → (b ≡ true) ↔ Reaches (WaitsFor v) u t
closes v u t b e =
    (λ h. reaches-from_within (suc (length v.seats)) (waits_for v) u t (sym e ∙ h), λ r. e ∙ found (length v.seats) (waits_for v) (out_waits v) u t r)

-- who reaches t by waiting has no greater base priority than t is to have
pub greatest_base-above : (v : Owners) (u t : ℕ) → u < length v.seats → t < length v.seats → Reaches (WaitsFor v) u t → base_of v u ≤ greatest_base v t
greatest_base-above v u t lu lt r =
    effective_above (length v.seats) (waits_for v) (base_of v) t u lu
    (found_below (length v.seats) (waits_for v) (out_waits v) u t lu lt r)

-- somebody who reaches t by waiting has that base priority
pub greatest_base-attained : (v : Owners) (t : ℕ) → t < length v.seats → (u : ℕ) × (u < length v.seats) × Reaches (WaitsFor v) u t × (base_of v u ≡ greatest_base v t)
greatest_base-attained v t lt =
    let best : (u : ℕ) × (u < length v.seats) × (reaches_within (length v.seats) (waits_for v) u t ≡ true) × (base_of v u ≡ greatest_base v t) =
    effective_attained (length v.seats) (waits_for v) (base_of v) t lt in
    (best.0, best.1, reaches-from_within (length v.seats) (waits_for v) best.0 t best.2, best.3)

-- the same in the subject's words
pub greatest_base-IsEffective : (v : Owners) → AreSoundOwners v → (t : ℕ) → IsThread v t → IsEffective (IsThread v) (WaitsFor v) (base_of v) t (greatest_base v t)
greatest_base-IsEffective v s t th =
    record {
      attained = (best.0, (some (cases_eq best.0 0), best.1), best.2, best.3);
      greatest = λ u k r. greatest_base-above v u t k.1 th.1 r;
    }
  where
    best : (u : ℕ) × (u < length v.seats) × Reaches (WaitsFor v) u t × (base_of v u ≡ greatest_base v t)
    best = greatest_base-attained v t th.1

    zero_alone : best.0 ≡ 0 → 0 ≡ t
    zero_alone e = alone (waits_for v) (nobody_waits v s) (subst (λ (x : ℕ). Reaches (WaitsFor v) x t) e best.2)

    some : ((best.0 ≡ 0) ⊎ (best.0 ≡ 0 → ⊥)) → 1 ≤ best.0
    some (inl e) = let z : 0 ≡ t = zero_alone e in let k : 1 ≤ t = th.0 in absurd (omega arith)
    some (inr ne) = omega arith

-- nobody is to have no priority
pub greatest_base-nobody : (v : Owners) → AreSoundOwners v → greatest_base v 0 ≡ 0
greatest_base-nobody v s =
    let best : (u : ℕ) × (u < length v.seats) × Reaches (WaitsFor v) u 0 × (base_of v u ≡ greatest_base v 0) = greatest_base-attained v 0 s.least in
    sym best.3 ∙ ap (base_of v) (nobody (waits_for v) refl best.2) ∙ nobody_base v s

-- no thread is to have less than its base priority
pub greatest_base-least : (v : Owners) (t : ℕ) → t < length v.seats → base_of v t ≤ greatest_base v t
greatest_base-least v t lt = effective_own (length v.seats) (waits_for v) (base_of v) t lt

-- what a thread is to have depends on base priorities and waits alone
pub greatest_base-same : (old new : Owners) → length new.seats ≡ length old.seats → ((x : ℕ) → waits_for new x ≡ waits_for old x) → ((x : ℕ) → base_of new x ≡ base_of old x)
    → (t : ℕ) → greatest_base new t ≡ greatest_base old t
greatest_base-same old new threads waits bases t =
    effective_same (length new.seats) (length old.seats) (waits_for new) (waits_for old) (base_of new) (base_of old) t threads waits bases

-- ONE THREAD MORE

-- nobody yet
pub greatest_start : (v : Owners) (t : ℕ) → AreSoundOwners v → 0 ≡ greatest_where (λ u. reaches_within (length v.seats) (waits_for v) u t) (base_of v) 1
unfolding greatest_where
greatest_start v t s = by_test (reaches_within (length v.seats) (waits_for v) 0 t)
  where
    by_test : (b : Bool) → 0 ≡ (if b then max (base_of v 0) 0 else 0)
    by_test true = rw (nobody_base v s) refl
    by_test false = refl

-- all threads were looked at
pub greatest_all : (v : Owners) (t n best : ℕ) → n ≡ length v.seats
    → best ≡ greatest_where (λ u. reaches_within (length v.seats) (waits_for v) u t) (base_of v) n → best ≡ greatest_base v t
unfolding effective_among
greatest_all v t n best e is = is ∙ ap (λ (j : ℕ). greatest_where (λ u. reaches_within (length v.seats) (waits_for v) u t) (base_of v) j) e

-- WHERE NOTHING IS LEFT TO REPAIR

-- a wait of no priority stands with none
unranked_wait : (o : Option Wait) → ((w : Wait) → o ≡ Some w → w.rank.prio ≡ 0)
    → o ≡ option_map (with_rank_priority 0) o
unranked_wait None h = refl
unranked_wait (Some w) h =
    let p : w.rank.prio ≡ 0 = h w refl in
    λ i. Some (record { state = w.state; rank = record { prio = p i; ticket = w.rank.ticket } })

-- nor does a seat
unranked : (x : Task) → x.local ≡ 0 → ((w : Wait) → x.wait ≡ Some w → w.rank.prio ≡ 0) → x ≡ with_effective 0 x
unranked x l h = let w : x.wait ≡ option_map (with_rank_priority 0) x.wait = unranked_wait x.wait h in
    λ i. record { base = x.base; local = l i; wait = w i }

-- x is reached from t over one hop or more
abbrev IsBefore : Owners → ℕ → ℕ → Type 0
IsBefore v t x = (y : ℕ) × WaitsFor v t y × Reaches (WaitsFor v) y x

-- `start` doesn't wait for the thread t, xs are numbers that t reaches over one hop or more, and k is how many there
-- are besides
record IsBack (v : Owners) (start k : ℕ) (xs : List ℕ) (t : ℕ) : Type 0 where
  long : length xs + k ≡ length v.seats
  distinct : IsDistinct eqb xs
  below : (x : ℕ) → list_any (eqb x) xs ≡ true → x < length v.seats
  before : (x : ℕ) → list_any (eqb x) xs ≡ true → IsBefore v t x
  thread : IsThread v t
  free : Reaches (WaitsFor v) start t → ⊥

-- somebody who reaches t has a base priority that is no lower than the effective priority of t
abbrev IsBacked : Owners → ℕ → Type 0
IsBacked v t = (u : ℕ) × IsThread v u × Reaches (WaitsFor v) u t × (local_of v t ≤ base_of v u)

module _ (v : Owners) (start : ℕ) (sound : AreSoundOwners v) (repaired : IsRepairedBut start v) where
  -- who waits for somebody is a thread
  waiter : (u t : ℕ) → WaitsFor v u t → IsThread v u
  waiter u t a = (some (cases_eq u 0), below (cases_lt u (length v.seats)))
    where
      some : ((u ≡ 0) ⊎ (u ≡ 0 → ⊥)) → 1 ≤ u
      some (inl e) = absurd (a.1 (sym a.0 ∙ ap (waits_for v) e ∙ nobody_waits v sound))
      some (inr ne) = omega arith

      below : ((u < length v.seats) ⊎ (length v.seats ≤ u)) → u < length v.seats
      below (inl l) = l
      below (inr l) = absurd (a.1 (sym a.0 ∙ out_waits v u l))

  new : (k : ℕ) (xs : List ℕ) (t : ℕ) → IsBack v start k xs t → list_any (eqb t) xs ≡ false
  new k xs t b = false_from_ne_true (list_any (eqb t) xs) (λ h. let c = b.before t h in sound.acyclic t c.0 c.1 c.2)

  distinct_more : (k : ℕ) (xs : List ℕ) (t : ℕ) → IsBack v start k xs t → IsDistinct eqb (t ∷ xs)
  distinct_more k xs t b = IsDistinct-cons eqb t xs (all_apart t xs (new k xs t b)) b.distinct

  below_more : (k : ℕ) (xs : List ℕ) (t : ℕ) → IsBack v start k xs t → (x : ℕ) → list_any (eqb x) (t ∷ xs) ≡ true → x < length v.seats
  below_more k xs t b x h = by_place (or_cases (eqb x t) (list_any (eqb x) xs) h)
    where
      by_place : ((eqb x t ≡ true) ⊎ (list_any (eqb x) xs ≡ true)) → x < length v.seats
      by_place (inl e) = subst (λ (y : ℕ). y < length v.seats) (sym (eqb-true x t e)) b.thread.1
      by_place (inr m) = b.below x m

  before_more : (k : ℕ) (xs : List ℕ) (t u : ℕ) → IsBack v start k xs t → WaitsFor v u t → (x : ℕ) → list_any (eqb x) (t ∷ xs) ≡ true → IsBefore v u x
  before_more k xs t u b a x h = by_place (or_cases (eqb x t) (list_any (eqb x) xs) h)
    where
      by_place : ((eqb x t ≡ true) ⊎ (list_any (eqb x) xs ≡ true)) → IsBefore v u x
      by_place (inl e) = (t, a, here (sym (eqb-true x t e)))
      by_place (inr m) = let c = b.before x m in (t, a, hop c.1 c.2)

  back : (k : ℕ) (xs : List ℕ) (t u : ℕ) → IsBack v start (suc k) xs t → WaitsFor v u t → IsBack v start k (t ∷ xs) u
  back k xs t u b a =
      record {
        long = omega (arith, b.long);
        distinct = distinct_more (suc k) xs t b;
        below = below_more (suc k) xs t b;
        before = before_more (suc k) xs t u b a;
        thread = waiter u t a;
        free = λ r. b.free (Reaches-then r a);
      }

  not_start : (k : ℕ) (xs : List ℕ) (t : ℕ) → IsBack v start k xs t → t ≢ start
  not_start k xs t b e = b.free (here (sym e))

  -- one goes back along those who wait, none of whom comes twice
  backed : (k : ℕ) (xs : List ℕ) (t : ℕ) → IsBack v start k xs t → IsBacked v t
  backed zero xs t b =
      absurd (omega (arith, b.long, length-le_from_distinct_below (t ∷ xs) (length v.seats) (distinct_more zero xs t b) (below_more zero xs t b)))
  backed (suc k) xs t b = by_most (λ u. backed k (t ∷ xs) u) (cases_lt (base_of v t) (greatest_waiting v t))
    where
      local : local_of v t ≡ max (base_of v t) (greatest_waiting v t)
      local = repaired.locals t b.thread (not_start (suc k) xs t b)

      by_most : ((u : ℕ) → IsBack v start k (t ∷ xs) u → IsBacked v u) → ((base_of v t < greatest_waiting v t) ⊎ (greatest_waiting v t ≤ base_of v t)) → IsBacked v t
      by_most ih (inr l) = (t, b.thread, here refl, omega (arith, local))
      by_most ih (inl l) =
          let found : IsGreatestAt (λ u. waits_for v u == t) (local_of v) (length v.seats) =
          greatest_where_some (λ u. waits_for v u == t) (local_of v) (length v.seats) (omega arith) in
          let a : WaitsFor v found.0 t = (eqb-true (waits_for v found.0) t found.2, λ e. (let one : 1 ≤ t = b.thread.0 in absurd (omega arith))) in
          let r : IsBacked v found.0 = ih found.0 (back k xs t found.0 b a) in
          (r.0, r.1, Reaches-then r.2 a, omega (arith, local, r.3, found.3))

  -- so somebody backs each thread for which `start` doesn't wait
  all_backed : (t : ℕ) → IsThread v t → (Reaches (WaitsFor v) start t → ⊥) → IsBacked v t
  all_backed t th free =
      backed (length v.seats) [] t
      (record {
        long = omega arith;
        distinct = no_repeats;
        below = λ x h. absurd (no_member h);
        before = λ x h. absurd (no_member h);
        thread = th;
        free = free;
      })
    where
      no_member : false ≡ true → ⊥
      no_member h = cc

  -- a thread that nobody who was admitted reaches has no effective priority
  local_none : (t : ℕ) → IsThread v t → (Reaches (WaitsFor v) start t → ⊥) → greatest_base v t ≡ 0 → local_of v t ≡ 0
  local_none t th free e =
      let r : IsBacked v t = all_backed t th free in
      let l : base_of v r.0 ≤ greatest_base v t = greatest_base-above v r.0 t r.1.1 th.1 r.2 in
      omega (arith, l, r.3)

  -- who reaches a thread is one
  thread_along : {u t : ℕ} → Reaches (WaitsFor v) u t → IsThread v t → IsThread v u
  thread_along (here e) th = subst (IsThread v) (sym e) th
  thread_along (hop {u = u} {v = w} a r) th = waiter u w a

  -- along a chain that doesn't come from `start` effective priorities don't fall
  local_along : {u t : ℕ} → Reaches (WaitsFor v) u t → IsThread v t → (Reaches (WaitsFor v) start t → ⊥)
      → local_of v u ≤ local_of v t
  local_along (here e) th free = omega (arith, ap (local_of v) e)
  local_along (hop {u = u} {v = w} {t = t} a r) th free =
      let local : local_of v w ≡ max (base_of v w) (greatest_waiting v w) =
      repaired.locals w (thread_along r th) (λ e. free (subst (λ (x : ℕ). Reaches (WaitsFor v) x t) e r)) in
      let high : local_of v u ≤ greatest_waiting v w =
      greatest_where_above (λ x. waits_for v x == w) (local_of v) (length v.seats) u (waiter u w a).1
      (eq-eqb (waits_for v u) w a.0) in
      omega (arith, local, high, local_along r th free)

  -- so a thread for which `start` doesn't wait has the effective priority that it is to have
  pub local_is_greatest : (t : ℕ) → IsThread v t → (Reaches (WaitsFor v) start t → ⊥) → local_of v t ≡ greatest_base v t
  local_is_greatest t th free =
      let r : IsBacked v t = all_backed t th free in
      let most : base_of v r.0 ≤ greatest_base v t = greatest_base-above v r.0 t r.1.1 th.1 r.2 in
      let best = greatest_base-attained v t th.1 in
      let own : local_of v best.0 ≡ max (base_of v best.0) (greatest_waiting v best.0) =
      repaired.locals best.0 (thread_along best.2 th)
      (λ e. free (subst (λ (x : ℕ). Reaches (WaitsFor v) x t) e best.2)) in
      let least : local_of v best.0 ≤ local_of v t = local_along best.2 th free in
      omega (arith, r.3, most, own, least, best.3)

  -- and it stays as it is if it is given none
  pub idle : start < length v.seats → 1 ≤ base_of v start → (t : ℕ) → IsThread v t → greatest_base v t ≡ 0
      → task_at v t ≡ with_effective 0 (task_at v t)
  idle row admitted t th e = unranked (task_at v t) (local_none t th free e) (λ w is. rank w is ∙ local_none t th free e)
    where
      free : Reaches (WaitsFor v) start t → ⊥
      free r = let l : base_of v start ≤ greatest_base v t = greatest_base-above v start t row th.1 r in absurd (omega arith)

      rank : (w : Wait) → (task_at v t).wait ≡ Some w → w.rank.prio ≡ local_of v t
      rank w is = repaired.ranks t w.rank (ap (option_map (λ (x : Wait). x.rank)) is)
