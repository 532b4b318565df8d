-- What the answers tell of who holds a mutex once a call has finished.
use Rattle.std.proofs.Common.{◌≡◌, ℕ, ◌+◌, ◌==◌, zero, suc, nat_lt, Bool, true, false, List, ◌∷◌, ◌++◌, Option, Some, None, Result, Ok, Err, IfOk, eqb-true, refl, sym, ap, ◌∙◌, subst, arith, inl, inr, ◌⊎◌, if◌then◌else◌}
use Rattle.std.proofs.lemmas.Bool.{eq-eqb, lt-ltb}
use Rattle.pif_types.specs.declared.errors.Refusal.{Refusal}
use Rattle.pif_types.specs.declared.requests.Request.{Request}
use Rattle.pif_types.specs.declared.requests.Request.TheVariants.{Lock, Unlock, Consistent, Wait}
use Rattle.pif_model.specs.declared.events.Event.TheVariants.{Begin, Go}
use Rattle.pif_model.specs.declared.events.Seen.{Seen}
use Rattle.pif_model.specs.declared.events.Seen.TheVariants.{Begun, Went, Waits, Answered, Ended, Ticked, Refused}
use Rattle.pif_model.specs.declared.events.Entry.{Entry}
use Rattle.pif_model.specs.declared.events.Entry.TheVariants.{Step as Happened}
use Rattle.pif_model.specs.Deadlines.{plain}
use Rattle.pif_model.specs.History.{open_call, hold_count, hold_count_after_answer, holds}
use Rattle.pif_model.specs.Posix.{World, mutex_at}
use Rattle.pif_model.specs.Standing.{Stands}
use Rattle.pif_model.specs.Table.{Table}
use Rattle.pif_model.specs.Lines.{Outcome, event_outcome, accepted_outcome, table_refusal, by_refusal, goes_on}
use Rattle.pif_model_simulation.proofs.runs.Holders.{holder_owns}
use Rattle.pif_model_simulation.specs.Calls.{StandsOn, call_outcome, after_call, after_finish, steps_before, went}
use Rattle.pif_core_callers.specs.declared.locking.Held.{Held}
use Rattle.pif_core_callers.specs.declared.locking.Held.TheVariants.{InOrder, OwnerDied}
use Rattle.pif_core_callers.specs.declared.waiting.Awaited.TheVariants.{Met}
use Rattle.pif_core_callers.specs.Waiting.{awaited_by, if_resumed, if_waited}
use Rattle.pif_core_callers.specs.Holding.{HoldsOn, CountsOn, lock_finds, locked_by, if_died, after_lock}
use Rattle.pif_model_simulation.proofs.CallLemmas.{call_other, call_refused, called-other}
use Rattle.pif_model_simulation.proofs.StandingLemmas.{along, call_stands, finish_stands, next_stands}

-- steps that went change no open call
went_open : (n t u : ℕ) (h : List Entry) → open_call u (went n t h) ≡ open_call u h
unfolding went
went_open zero t u h = refl
went_open (suc n) t u h = went_open n t u (Happened (Go t) Went ∷ h)

-- nor how often a mutex is held
went_count : (n t u m : ℕ) (h : List Entry) → hold_count u m (went n t h) ≡ hold_count u m h
unfolding went
went_count zero t u m h = refl
went_count (suc n) t u m h = went_count n t u m (Happened (Go t) Went ∷ h)

-- a number is itself
itself : (n : ℕ) → (n == n) ≡ true
itself n = eq-eqb n n refl

-- once a call was answered, none is open
answer_closes : (t a : ℕ) (h : List Entry) → open_call t (Happened (Go t) (Answered a) ∷ h) ≡ None
answer_closes t a h = rw (itself t) refl

-- and its answer is counted
answer_counts : (t m a : ℕ) (h : List Entry)
    → hold_count t m (Happened (Go t) (Answered a) ∷ h) ≡ hold_count_after_answer m (open_call t h) a (hold_count t m h)
answer_counts t m a h = rw (itself t) refl

-- once an open call has finished with an answer, none is open, and the answer is counted
module _ (t a : ℕ) (s : Table) (h : List Entry) (e : (goes_on 23 t s).seen ≡ Answered a) where
  pub finished_closes : open_call t (after_finish t s h) ≡ None
  finished_closes =
      let P : Seen → Type 0 = λ x. open_call t (Happened (Go t) x ∷ went (steps_before 23 t s) t h) ≡ None in
      subst P (sym e) (answer_closes t a (went (steps_before 23 t s) t h))

  pub finished_counts : (m : ℕ)
      → hold_count t m (after_finish t s h) ≡ hold_count_after_answer m (open_call t h) a (hold_count t m h)
  finished_counts m =
      let n = steps_before 23 t s in
      let P : Seen → Type 0 = λ x.
      hold_count t m (Happened (Go t) x ∷ went n t h) ≡ hold_count_after_answer m (open_call t h) a (hold_count t m h) in
      subst P (sym e) (answer_counts t m a (went n t h)
      ∙ ap (λ o. hold_count_after_answer m o a (hold_count t m (went n t h))) (went_open n t t h)
      ∙ ap (hold_count_after_answer m (open_call t h) a) (went_count n t t m h))

-- a begin is refused, or the call is open
begin_answer : (t : ℕ) (q : Request) (s : Table)
    → ((event_outcome (Begin t q) s).seen ≡ Begun) ⊎ ((r : Refusal) × (event_outcome (Begin t q) s).seen ≡ Refused r)
unfolding event_outcome accepted_outcome
begin_answer t q s = by_refusal_of (table_refusal s (Begin t q))
  where
    by_refusal_of : (x : Option Refusal)
        → ((by_refusal x (Begin t q) s).seen ≡ Begun) ⊎ ((r : Refusal) × (by_refusal x (Begin t q) s).seen ≡ Refused r)
    by_refusal_of None = inl refl
    by_refusal_of (Some r) = inr (r, refl)

-- a whole call that was answered: it was begun, and has finished with that answer
module _ (t a : ℕ) (q : Request) (s : Table) (h : List Entry) (e : (call_outcome t q s).seen ≡ Answered a) where
  abbrev o : Outcome
  o = event_outcome (Begin t q) s

  pub begun : o.seen ≡ Begun
  begun = by_answer (begin_answer t q s)
    where
      no_refusal : (r : Refusal) → o.seen ≡ Refused r → Refused r ≡ Answered a
      no_refusal r d = sym d ∙ ap (λ (x : Outcome). x.seen) (sym (call_refused t q s r d)) ∙ e

      by_answer : (o.seen ≡ Begun) ⊎ ((r : Refusal) × o.seen ≡ Refused r) → o.seen ≡ Begun
      by_answer (inl d) = d
      by_answer (inr d) = let f = no_refusal d.0 d.1 in absurd cc

  pub allowed : (r : Refusal) → o.seen ≡ Refused r → ⊥
  allowed r d = let f : Begun ≡ Refused r = sym begun ∙ d in absurd cc

  pub rest : (goes_on 23 t o.after).seen ≡ Answered a
  rest = ap (λ (x : Outcome). x.seen) (sym (call_other t q s allowed)) ∙ e

  whole : after_call t q s h ≡ after_finish t o.after (Happened (Begin t q) Begun ∷ h)
  whole = called-other t q s h allowed ∙ ap (λ x. after_finish t o.after (Happened (Begin t q) x ∷ h)) begun

  opened : open_call t (Happened (Begin t q) Begun ∷ h) ≡ Some (plain q)
  opened = rw (itself t) refl

  pub called_closes : open_call t (after_call t q s h) ≡ None
  called_closes = ap (open_call t) whole ∙ finished_closes t a o.after (Happened (Begin t q) Begun ∷ h) rest

  pub called_counts : (m : ℕ)
      → hold_count t m (after_call t q s h) ≡ hold_count_after_answer m (Some (plain q)) a (hold_count t m h)
  called_counts m =
      ap (hold_count t m) whole ∙ finished_counts t a o.after (Happened (Begin t q) Begun ∷ h) rest m
      ∙ ap (λ x. hold_count_after_answer m x a (hold_count t m h)) opened

-- who has no call open and is counted holds the mutex
idle_holds : (t m n : ℕ) (h : List Entry) → open_call t h ≡ None → hold_count t m h ≡ n + 1 → holds t m h ≡ true
idle_holds t m n h idle count =
    let above : nat_lt 0 (n + 1) ≡ true = lt-ltb 0 (n + 1) (omega arith) in
    rw (idle, count) above

-- and is its one holder, and its owner
holds_on : (t m n : ℕ) (s : Table) (h : List Entry) (r : List World) (w : World) → StandsOn s h r w
    → open_call t h ≡ None → hold_count t m h ≡ n + 1 → HoldsOn t m (n + 1) s h r w
holds_on t m n s h r w on idle count =
    let held = idle_holds t m n h idle count in
    let owner : (u : ℕ) → holds u m h ≡ true → (mutex_at on.last m).owner ≡ u =
    λ u k. holder_owns s.limits h (on.more ++ w ∷ r) on.last on.stands.run u m k in
    record {
      on = on;
      idle = idle;
      count = count;
      holder = held;
      alone = λ u k. sym (owner u k) ∙ owner t held;
      owns = owner t held;
    }

-- a call that is answered while a core stands on
module _ (t a : ℕ) (q : Request) (s : Table) (h : List Entry) (r : List World) (w : World) (on : StandsOn s h r w)
    (e : (call_outcome t q s).seen ≡ Answered a) where
  -- it stands on, and how often t holds m is counted
  call_counts_on : (m : ℕ) → CountsOn t m (hold_count_after_answer m (Some (plain q)) a (hold_count t m h))
      (call_outcome t q s).after (after_call t q s h) r w
  call_counts_on m = record {
    on = along on (call_stands s (call_outcome t q s).after t q refl h (on.more ++ w ∷ r) on.last on.stands);
    idle = called_closes t a q s h e;
    count = called_counts t a q s h e m;
  }

-- LOCKS

-- a lock of m that was answered 0 or EOWNERDEAD has taken it
lock_taken : (seen : Seen) (x : Held) → Ok x ≡ locked_by seen → (a : ℕ) × (seen ≡ Answered a) × ((a ≡ 0) ⊎ (a ≡ 130))
lock_taken (Answered a) x e = by_zero (a == 0) refl (a == 130) refl e
  where
    by_zero : (b : Bool) → (a == 0) ≡ b → (d : Bool) → (a == 130) ≡ d
        → Ok x ≡ (if b then Ok InOrder else (if d then Ok OwnerDied else Err (Answered a)))
        → (n : ℕ) × (Answered a ≡ Answered n) × ((n ≡ 0) ⊎ (n ≡ 130))
    by_zero true z d y f = (a, refl, inl (eqb-true a 0 z))
    by_zero false z true y f = (a, refl, inr (eqb-true a 130 y))
    by_zero false z false y f = absurd cc
lock_taken Begun x e = absurd cc
lock_taken Went x e = absurd cc
lock_taken Waits x e = absurd cc
lock_taken Ended x e = absurd cc
lock_taken Ticked x e = absurd cc
lock_taken (Refused r) x e = absurd cc

-- a lock that found the mutex in order was answered 0
pub in_order : (seen : Seen) → Ok InOrder ≡ locked_by seen → seen ≡ Answered 0
in_order (Answered a) e = by_zero (a == 0) refl (a == 130) e
  where
    by_zero : (b : Bool) → (a == 0) ≡ b → (d : Bool)
        → ◌≡◌ {A = Result Held Seen} (Ok InOrder)
        (if b then Ok InOrder else (if d then Ok OwnerDied else Err (Answered a)))
        → Answered a ≡ Answered 0
    by_zero true z d f = ap Answered (eqb-true a 0 z)
    by_zero false z true f = absurd cc
    by_zero false z false f = absurd cc
in_order Begun e = absurd cc
in_order Went e = absurd cc
in_order Waits e = absurd cc
in_order Ended e = absurd cc
in_order Ticked e = absurd cc
in_order (Refused r) e = absurd cc

-- it counts
lock_counts : (m a n : ℕ) → (a ≡ 0) ⊎ (a ≡ 130) → hold_count_after_answer m (Some (Lock m)) a n ≡ n + 1
lock_counts m a n (inl z) = rw (itself m, z) refl
lock_counts m a n (inr z) = rw (itself m, z) refl

-- a thread that has locked holds
pub lock_holds : (s v : Table) (t m : ℕ) (o : Result Held Seen) → o ≡ locked_by (call_outcome t (Lock m) s).seen
    → v ≡ (call_outcome t (Lock m) s).after
    → IfOk o (λ x. (h : List Entry) (r : List World) (w : World) → Stands s h r w
    → HoldsOn t m (hold_count t m h + 1) v (after_call t (Lock m) s h) r w)
lock_holds s v t m (Err x) e after = tt
lock_holds s v t m (Ok x) e after = λ h r w st.
    let taken = lock_taken (call_outcome t (Lock m) s).seen x e in
    holds_on t m (hold_count t m h) v (after_call t (Lock m) s h) r w (call_stands s v t (Lock m) after h r w st)
    (called_closes t taken.0 (Lock m) s h taken.1)
    (called_counts t taken.0 (Lock m) s h taken.1 m ∙ lock_counts m taken.0 (hold_count t m h) taken.2)

-- so does one whose open lock has finished
pub finish_holds : (s v : Table) (t m : ℕ) (o : Result Held Seen) → o ≡ locked_by (goes_on 23 t s).seen
    → v ≡ (goes_on 23 t s).after
    → IfOk o (λ x. (h : List Entry) (r : List World) (w : World) → Stands s h r w
    → open_call t h ≡ Some (Lock m) → HoldsOn t m (hold_count t m h + 1) v (after_finish t s h) r w)
finish_holds s v t m (Err x) e after = tt
finish_holds s v t m (Ok x) e after = λ h r w st busy.
    let taken = lock_taken (goes_on 23 t s).seen x e in
    holds_on t m (hold_count t m h) v (after_finish t s h) r w (finish_stands s v t after h r w st)
    (finished_closes t taken.0 s h taken.1)
    (finished_counts t taken.0 s h taken.1 m
    ∙ ap (λ q. hold_count_after_answer m q taken.0 (hold_count t m h)) busy
    ∙ lock_counts m taken.0 (hold_count t m h) taken.2)

-- WHAT COMES BETWEEN A LOCK AND ITS UNLOCK

-- an unlock that was answered 0 takes one away
unlock_counts : (m n : ℕ) → hold_count_after_answer m (Some (Unlock m)) 0 (n + 1) ≡ n
unlock_counts m n = rw (itself m) (omega arith)

-- a thread that has locked and unlocked holds the mutex as often as before
pub unlock_leaves : (s v : Table) (t m n : ℕ) (h : List Entry) (r : List World) (w : World) → HoldsOn t m (n + 1) s h r w
    → (call_outcome t (Unlock m) s).seen ≡ Answered 0 → v ≡ (call_outcome t (Unlock m) s).after
    → CountsOn t m n v (after_call t (Unlock m) s h) r w
unlock_leaves s v t m n h r w held e after =
    let next = call_counts_on t 0 (Unlock m) s h r w held.on e m in
    rw after (record {
      on = next.on;
      idle = next.idle;
      count = next.count ∙ ap (hold_count_after_answer m (Some (Unlock m)) 0) held.count ∙ unlock_counts m n;
    })

-- a holder that has made the mutex consistent holds it still
pub consistent_holds : (s v : Table) (t m n : ℕ) (h : List Entry) (r : List World) (w : World)
    → HoldsOn t m (n + 1) s h r w → (call_outcome t (Consistent m) s).seen ≡ Answered 0
    → v ≡ (call_outcome t (Consistent m) s).after → HoldsOn t m (n + 1) v (after_call t (Consistent m) s h) r w
consistent_holds s v t m n h r w held e after =
    let next = call_counts_on t 0 (Consistent m) s h r w held.on e m in
    rw after (holds_on t m n (call_outcome t (Consistent m) s).after (after_call t (Consistent m) s h) r w next.on next.idle
    (next.count ∙ held.count))

-- a core stands on after a lock that found that the last owner had ended, and the call consistent behind it
pub died_stands : (s u v : Table) (t m : ℕ) → Ok OwnerDied ≡ lock_finds t m s
    → ((h : List Entry) (r : List World) (w : World) → Stands s h r w → StandsOn u (after_call t (Lock m) s h) r w)
    → u ≡ after_lock t m s → v ≡ (call_outcome t (Consistent m) u).after
    → (h : List Entry) (r : List World) (w : World) → Stands s h r w
    → StandsOn v (if_died (lock_finds t m s) (after_call t (Lock m) s h)
    (after_call t (Consistent m) (after_lock t m s) (after_call t (Lock m) s h))) r w
died_stands s u v t m died stands same after h r w st =
    let k = after_call t (Lock m) s h in
    subst (λ (f : Result Held Seen). StandsOn v (if_died f k (after_call t (Consistent m) (after_lock t m s) k)) r w) died
    (next_stands u (after_lock t m s) v t (Consistent m) k r w (stands h r w st) same after)

-- a wait that was answered 0 changes nothing that is counted
wait_counts : (c m n : ℕ) → hold_count_after_answer m (Some (Wait c m)) 0 n ≡ n
wait_counts c m n = rw (itself m) refl

-- a holder whose open wait has finished holds the mutex again
pub wait_holds : (s v : Table) (t c m n : ℕ) → (goes_on 23 t s).seen ≡ Answered 0 → v ≡ (goes_on 23 t s).after
    → (h : List Entry) (r : List World) (w : World) → Stands s h r w → open_call t h ≡ Some (Wait c m)
    → hold_count t m h ≡ n + 1 → HoldsOn t m (n + 1) v (after_finish t s h) r w
wait_holds s v t c m n e after h r w st busy count =
    holds_on t m n v (after_finish t s h) r w (finish_stands s v t after h r w st) (finished_closes t 0 s h e)
    (finished_counts t 0 s h e m ∙ ap (λ q. hold_count_after_answer m q 0 (hold_count t m h)) busy
    ∙ wait_counts c m (hold_count t m h) ∙ count)

-- a test that is met is met
pub met_by : (b : Bool) (seen : Seen) → awaited_by b seen ≡ Met → b ≡ true
met_by true seen e = refl
met_by false seen e = absurd cc

-- another wait comes only after one that was answered 0
pub finished_only : {A : Type 0} (met : Bool) (seen : Seen) (f g : A) → (seen ≡ Answered 0 → ⊥)
    → f ≡ if_resumed met seen f g
finished_only met (Answered a) f g n = by_zero (a == 0) refl
  where
    by_zero : (b : Bool) → (a == 0) ≡ b → f ≡ (if b then if_waited met f g else f)
    by_zero true z = absurd (n (ap Answered (eqb-true a 0 z)))
    by_zero false z = refl
finished_only met Begun f g n = refl
finished_only met Went f g n = refl
finished_only met Waits f g n = refl
finished_only met Ended f g n = refl
finished_only met Ticked f g n = refl
finished_only met (Refused r) f g n = refl

-- a core stands on after a wait that was answered 0, and the other wait behind it if the test is not met
pub resumed_stands : (s u v : Table) (t c m : ℕ) (met : Bool) (seen : Seen) (k : List Entry) (r : List World)
    (w : World) → seen ≡ Answered 0 → StandsOn u k r w → u ≡ (goes_on 23 t s).after
    → v ≡ if_waited met u (call_outcome t (Wait c m) u).after
    → StandsOn v (if_resumed met seen k (after_call t (Wait c m) (goes_on 23 t s).after k)) r w
resumed_stands s u v t c m true seen k r w e on same after =
    subst (λ x. StandsOn v (if_resumed true x k (after_call t (Wait c m) (goes_on 23 t s).after k)) r w) (sym e)
    (subst (λ x. StandsOn x k r w) (sym after) on)
resumed_stands s u v t c m false seen k r w e on same after =
    subst (λ x. StandsOn v (if_resumed false x k (after_call t (Wait c m) (goes_on 23 t s).after k)) r w) (sym e)
    (next_stands u (goes_on 23 t s).after v t (Wait c m) k r w on same after)
