-- Owner states while a walk repairs one thread after the other: so far the threads up to k.
use Rattle.std.proofs.Common.{◌≡◌, ◌⊎◌, ℕ, zero, suc, ◌<◌, ◌≤◌, ◌+◌, List, [], ◌∷◌, length, Option, Some, None, refl, sym, ap, ◌∙◌, subst, inl, inr, arith, length-set}
use Rattle.std.specs.Prelude.{option_map, option_and_then, unwrap_or, set}
use Rattle.std.proofs.lemmas.Bool.{cases_eq, cases_lt}
use Rattle.std.proofs.lemmas.List.{get_or_past, get_or-set_same, get_or-set_other}
use Rattle.pif_kernel_model.specs.Owners.{Owners, Task, Wait, no_task, task_at, owner_at, waits_on, with_task, with_local, with_prio, AreSoundOwners}
use Rattle.pif_kernel_model.specs.Boosts.{greatest_base, with_rank_priority, with_effective, IsRepaired}
use Rattle.pif_kernel_model.proofs.Greatest.{greatest_base-same, greatest_base-nobody}

-- the threads up to k are repaired, and all else is as it was
pub record IsRepairedTo (k : ℕ) (old new : Owners) : Type 0 where
  pub threads : length new.seats ≡ length old.seats
  pub owners : new.owners ≡ old.owners
  pub done : (t : ℕ) → t < length old.seats → t ≤ k
      → task_at new t ≡ with_effective (greatest_base old t) (task_at old t)
  pub left : (t : ℕ) → k < t → task_at new t ≡ task_at old t

-- the state on which a thread waits doesn't depend on its rank there
pub ranked-state : (p : ℕ) (o : Option Wait) → option_map (λ (w : Wait). w.state)
    (option_map (with_rank_priority p) o) ≡ option_map (λ (w : Wait). w.state) o
ranked-state p None = refl
ranked-state p (Some w) = refl

-- a seat and the same boosted have one base priority and one state on which they wait
record IsAlike (x y : Task) : Type 0 where
  base : x.base ≡ y.base
  state : option_map (λ (w : Wait). w.state) x.wait ≡ option_map (λ (w : Wait). w.state) y.wait

alike : (k : ℕ) (old new : Owners) → IsRepairedTo k old new → (x : ℕ) → IsAlike (task_at new x) (task_at old x)
alike k old new r x = by_row (cases_lt x (length old.seats)) (cases_lt k x)
  where
    same : task_at new x ≡ task_at old x → IsAlike (task_at new x) (task_at old x)
    same e = record { base = ap (λ (s : Task). s.base) e; state = ap (λ (s : Task). option_map (λ (w : Wait). w.state) s.wait) e }

    by_row : ((x < length old.seats) ⊎ (length old.seats ≤ x)) → ((k < x) ⊎ (x ≤ k)) → IsAlike (task_at new x) (task_at old x)
    by_row (inl l) (inl b) = same (r.left x b)
    by_row (inl l) (inr b) =
        record {
          base = ap (λ (s : Task). s.base) (r.done x l b);
          state = ap (λ (s : Task). option_map (λ (w : Wait). w.state) s.wait) (r.done x l b) ∙ ranked-state (greatest_base old x) (task_at old x).wait;
        }
    by_row (inr l) _ = same (get_or_past new.seats x no_task (omega (arith, r.threads)) ∙ sym (get_or_past old.seats x no_task l))

-- so each thread is to have what it was to have
pub greatest-kept : (k : ℕ) (old new : Owners) → IsRepairedTo k old new → (t : ℕ) → greatest_base new t ≡ greatest_base old t
greatest-kept k old new r t =
    greatest_base-same old new r.threads
    (λ x. ap (λ (o : Option ℕ). unwrap_or (option_and_then (owner_at new) o) 0) (alike k old new r x).state
    ∙ ap (λ m. unwrap_or (option_and_then (owner_at (record old { owners = m })) (option_map (λ (w : Wait). w.state) (task_at old x).wait)) 0) r.owners)
    (λ x. (alike k old new r x).base) t

-- nobody is repaired from the start
pub repaired-start : (v : Owners) → AreSoundOwners v → IsRepairedTo 0 v v
repaired-start v s =
    record {
      threads = refl;
      owners = refl;
      done = λ t l z. let e : t ≡ 0 = omega arith in
          subst (λ (x : ℕ). task_at v x ≡ with_effective (greatest_base v x) (task_at v x)) (sym e) nobody_done;
      left = λ t l. refl;
    }
  where
    nobody_done : task_at v 0 ≡ with_effective (greatest_base v 0) (task_at v 0)
    nobody_done = s.nobody ∙ sym ((λ i. with_effective (greatest_base-nobody v s i) (s.nobody i)))

-- one thread more
pub repaired-more : (k t p : ℕ) (old new now : Owners) → t ≡ k + 1 → t < length old.seats → p ≡ greatest_base old t → IsRepairedTo k old new
    → now ≡ with_task t (with_effective p (task_at new t)) new → IsRepairedTo (k + 1) old now
repaired-more k t p old new now at row priority r e = subst (IsRepairedTo (k + 1) old) (sym e) made
  where
    x : Task
    x = with_effective p (task_at new t)

    is : x ≡ with_effective (greatest_base old t) (task_at old t)
    is = λ i. with_effective (priority i) (r.left t (omega arith) i)

    there : t < length new.seats
    there = omega (arith, r.threads)

    made : IsRepairedTo (k + 1) old (with_task t x new)
    made =
        record {
          threads = length-set new.seats t x ∙ r.threads;
          owners = r.owners;
          done = λ u l b. by_place u l b (cases_eq u t);
          left = λ u l. get_or-set_other new.seats t u x no_task (λ (s : u ≡ t). omega arith) ∙ r.left u (omega arith);
        }
      where
        by_place : (u : ℕ) → u < length old.seats → u ≤ k + 1 → ((u ≡ t) ⊎ (u ≡ t → ⊥))
            → task_at (with_task t x new) u ≡ with_effective (greatest_base old u) (task_at old u)
        by_place u l b (inl s) =
            subst (λ (y : ℕ). task_at (with_task t x new) y ≡ with_effective (greatest_base old y) (task_at old y))
            (sym s) (get_or-set_same new.seats t x no_task there ∙ is)
        by_place u l b (inr ne) = get_or-set_other new.seats t u x no_task ne ∙ r.done u l (omega (arith, ne))

-- all threads are repaired at the end
pub repaired-all : (k : ℕ) (old new : Owners) → k + 1 ≡ length old.seats → IsRepairedTo k old new → IsRepaired old new
repaired-all k old new e r = record { threads = r.threads; owners = r.owners; seats = λ t l. r.done t l (omega arith) }

-- ONE THREAD

-- the second of two writes to a place is left
set_twice : (xs : List Task) (t : ℕ) (a b : Task) → set (set xs t a) t b ≡ set xs t b
set_twice [] t a b = refl
set_twice (x ∷ xs) zero a b = refl
set_twice (x ∷ xs) (suc t) a b = ap (λ (ys : List Task). x ∷ ys) (set_twice xs t a b)

-- a thread with another effective priority that stands with it where it waits
pub boosted-waiting : (v : Owners) (t p : ℕ) → t < length v.seats
    → with_prio t p (with_local t p v) ≡ with_task t (with_effective p (task_at v t)) v
boosted-waiting v t p row =
    ap (λ (x : Task). with_task t (record x { wait = option_map (with_rank_priority p) x.wait }) (with_local t p v))
    (get_or-set_same v.seats t (record (task_at v t) { local = p }) no_task row)
    ∙ ap (λ (xs : List Task). record v { seats = xs })
    (set_twice v.seats t (record (task_at v t) { local = p }) (with_effective p (task_at v t)))

-- no wait is none with any rank
unranked_none : (p : ℕ) (o : Option Wait) → option_map (λ (w : Wait). w.state) o ≡ None
    → o ≡ option_map (with_rank_priority p) o
unranked_none p None e = refl
unranked_none p (Some w) e = absurd cc

-- a thread with another effective priority that waits for nothing
pub boosted-free : (v : Owners) (t p : ℕ) → t < length v.seats → waits_on (with_local t p v) t ≡ None
    → with_local t p v ≡ with_task t (with_effective p (task_at v t)) v
boosted-free v t p row free =
    let same : waits_on (with_local t p v) t ≡ waits_on v t =
    ap (λ (x : Task). option_map (λ (w : Wait). w.state) x.wait) (get_or-set_same v.seats t (record (task_at v t) { local = p }) no_task row) in
    let none : (task_at v t).wait ≡ option_map (with_rank_priority p) (task_at v t).wait =
    unranked_none p (task_at v t).wait (sym same ∙ free) in
    ap (λ (w : Option Wait). with_task t (record { base = (task_at v t).base; local = p; wait = w }) v) none
