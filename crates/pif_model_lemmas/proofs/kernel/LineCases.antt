-- What each line of the calls comes to, case by case: a fact on an outcome holds of a line if it holds in each of
-- the line's cases.
use Rattle.std.proofs.Common.{◌≡◌, ◌≢◌, ℕ, ◌+◌, ◌-◌, ◌<◌, ◌≤◌, Bool, true, false, ◌==◌, nat_lt, Some, None, Result, Ok, Err, refl, if◌then◌else◌, eqb-true, ltb-true, ltb-false, sym}
use Rattle.std.proofs.lemmas.Bool.{true≢false, eqb-false}
use Rattle.pif_types.specs.Numbers.{number_of}
use Rattle.pif_types.specs.declared.errors.Errno.{Errno}
use Rattle.pif_model.specs.declared.lines.Relock.{Relock}
use Rattle.pif_model.specs.declared.lines.Relock.TheVariants.{Deadlocks, Answers, Counts}
use Rattle.pif_model.specs.Kinds.{relock_of}
use Rattle.pif_types.specs.declared.requests.Request.{Request}
use Rattle.pif_types.specs.declared.requests.Request.TheVariants.{TryLock, Unlock, Consistent, Wait}
use Rattle.pif_model.specs.declared.events.Seen.TheVariants.{Waits}
use Rattle.pif_model.specs.declared.lines.Place.{Place}
use Rattle.pif_model.specs.declared.lines.Place.TheVariants.{NamePending, Exchange, CallKernel, Stop, Take, Link, Give, LoadUses, Repair, Wake}
use Rattle.pif_model.specs.declared.lines.TakeStep.TheVariants.{LoadHealth, StoreInconsistent}
use Rattle.pif_model.specs.declared.lines.LinkStep.TheVariants.{WriteNext}
use Rattle.pif_model.specs.declared.lines.GiveStep.TheVariants.{SetPending, StoreUnusable, Unlink, Release, CallUnlock}
use Rattle.pif_model.specs.declared.lines.Purpose.{Purpose}
use Rattle.pif_model.specs.declared.lines.Purpose.TheVariants.{ToUnlock, ToPark, ToLeave}
use Rattle.pif_model.specs.declared.lines.RepairStep.TheVariants.{CheckHealth, StoreFine}
use Rattle.pif_model.specs.declared.lines.WakeStep.TheVariants.{CountUse, Requeue}
use Rattle.pif_model.specs.Word.{Word, free_word, held_by, is_bare}
use Rattle.pif_model.specs.PiKernel.{is_ready, is_woken_again}
use Rattle.pif_model.specs.Table.{Table, status_at, cell_at, bound_to, uses_of, with_count, with_word, with_cond_word}
use Rattle.pif_model.specs.Lines.{Outcome, goes_to, answers, is_robust, goes_by, ends_by, relocks, after_exchange, own_exchange, lock_load, lock_queued, take_load, take_health, give_health, given_up, give_exchange, try_load, unlock_load, consistent_load, consistent_health, wait_load, wait_uses, wait_parked, use_read, use_exchange, answered_by}
use Rattle.pif_model_lemmas.proofs.Waiting.{by_test}

-- a word that is exchanged has no flag, and the number from which it is exchanged
bare : (a d : Bool) (n t : ℕ) → is_bare (record { number = n; waiters = a; died = d }) t ≡ true
    → (a ≡ false) × (d ≡ false) × (n ≡ t)
bare true d n t h = absurd (true≢false (sym h))
bare false true n t h = absurd (true≢false (sym h))
bare false false n t h = (refl, refl, eqb-true n t h)

-- WHAT CALLS HAVE IN COMMON

-- a call goes on for a robust mutex here, and for a stalled one there
pub goes_by_cases : (P : Outcome → Type 0) (q : Request) (robust stalled : Place) (t m : ℕ) (s : Table)
    → ((cell_at s m).robust ≡ true → P (goes_to t q robust s))
    → ((cell_at s m).robust ≡ false → P (goes_to t q stalled s))
    → P (goes_by t q m robust stalled s)
goes_by_cases P q robust stalled t m s =
    by_test (λ b. P (if b then goes_to t q robust s else goes_to t q stalled s)) (is_robust m s)

-- a call goes on for a robust mutex, and answers for a stalled one
pub ends_by_cases : (P : Outcome → Type 0) (q : Request) (robust : Place) (a t m : ℕ) (s : Table)
    → ((cell_at s m).robust ≡ true → P (goes_to t q robust s))
    → ((cell_at s m).robust ≡ false → P (answers t a s))
    → P (ends_by t q m robust a s)
ends_by_cases P q robust a t m s =
    by_test (λ b. P (if b then goes_to t q robust s else answers t a s)) (is_robust m s)

-- the owner of a RECURSIVE mutex locks it again
pub locked_again_cases : (P : Outcome → Type 0) (t m : ℕ) (s : Table)
    → ((cell_at s m).count < 255 → P (answers t 0 (with_count m ((cell_at s m).count + 1) s)))
    → (255 ≤ (cell_at s m).count → P (answers t 11 s))
    → P (relocks t m s)
unfolding relocks
locked_again_cases P t m s rises full =
    by_test (λ b. P (if b then answers t 0 (with_count m ((cell_at s m).count + 1) s) else answers t 11 s))
    (nat_lt (cell_at s m).count 255)
    (λ e. rises (ltb-true (cell_at s m).count 255 e)) (λ e. full (ltb-false (cell_at s m).count 255 e))

-- an exchange of a word from a bare number n
pub exchanged_cases : (P : Outcome → Type 0) (x w : Word) (n m : ℕ) (done failed : Table → Outcome) (s : Table)
    → (w.waiters ≡ false → w.died ≡ false → w.number ≡ n → P (done (with_word m x s))) → P (failed s)
    → P (after_exchange (if is_bare w n then Some x else None) m done failed s)
unfolding after_exchange
exchanged_cases P x w n m done failed s ok fails =
    by_test (λ b. P (after_exchange (if b then Some x else None) m done failed s)) (is_bare w n)
    (λ e. let b = bare w.waiters w.died w.number n e in ok b.0 b.1 b.2) (λ e. fails)

-- compare-exchange from 0 to t
pub own_exchange_cases : (P : Outcome → Type 0) (q : Request) (t m : ℕ) (s : Table)
    → ((cell_at s m).word.died ≡ false → (cell_at s m).word.number ≡ 0 → (cell_at s m).robust ≡ true
    → P (goes_to t q (Take (LoadHealth false)) (with_word m (held_by t) s)))
    → ((cell_at s m).word.died ≡ false → (cell_at s m).word.number ≡ 0 → (cell_at s m).robust ≡ false
    → P (answers t 0 (with_word m (held_by t) s)))
    → P (goes_to t q CallKernel s)
    → P (own_exchange q t m s)
unfolding own_exchange
own_exchange_cases P q t m s robust stalled fails =
    exchanged_cases P (held_by t) (cell_at s m).word 0 m (ends_by t q m (Take (LoadHealth false)) 0)
    (goes_to t q CallKernel) s
    (λ w d n. ends_by_cases P q (Take (LoadHealth false)) 0 t m (with_word m (held_by t) s) (λ r. robust d n r)
    (λ r. stalled d n r)) fails

-- LOCK

-- load the word
pub lock_load_cases : (P : Outcome → Type 0) (q : Request) (t m : ℕ) (s : Table)
    → ((cell_at s m).word.number ≡ t → relock_of (cell_at s m).kind ≡ Deadlocks → P (goes_to t q Stop s))
    → ((cell_at s m).word.number ≡ t → relock_of (cell_at s m).kind ≡ Answers → P (answers t 35 s))
    → ((cell_at s m).word.number ≡ t → relock_of (cell_at s m).kind ≡ Counts → P (relocks t m s))
    → ((cell_at s m).word.number ≢ t → (cell_at s m).robust ≡ true → P (goes_to t q NamePending s))
    → ((cell_at s m).word.number ≢ t → (cell_at s m).robust ≡ false → P (goes_to t q Exchange s))
    → P (lock_load q t m s)
unfolding lock_load
lock_load_cases P q t m s normal errorcheck recursive robust stalled =
    by_test (λ b. P (if b then elim (relock_of (cell_at s m).kind)
    [ Deadlocks ↦ goes_to t q Stop s | Answers ↦ answers t 35 s | Counts ↦ relocks t m s ] else goes_by
    t q m NamePending Exchange s))
    ((cell_at s m).word.number == t)
    (λ e. by_relock (relock_of (cell_at s m).kind) (normal (eqb-true (cell_at s m).word.number t e))
    (errorcheck (eqb-true (cell_at s m).word.number t e)) (recursive (eqb-true (cell_at s m).word.number t e)))
    (λ e. goes_by_cases P q NamePending Exchange t m s (robust (eqb-false (cell_at s m).word.number t e))
    (stalled (eqb-false (cell_at s m).word.number t e)))
  where
    by_relock : (x : Relock) → (x ≡ Deadlocks → P (goes_to t q Stop s)) → (x ≡ Answers → P (answers t 35 s))
        → (x ≡ Counts → P (relocks t m s))
        → P (elim x [ Deadlocks ↦ goes_to t q Stop s | Answers ↦ answers t 35 s | Counts ↦ relocks t m s ])
    by_relock Deadlocks a b c = a refl
    by_relock Answers a b c = b refl
    by_relock Counts a b c = c refl

-- queued, or made the owner
pub lock_queued_cases : (P : Outcome → Type 0) (q : Request) (t m : ℕ) (s : Table)
    → (is_ready (status_at s t) ≡ true → (cell_at s m).robust ≡ true
    → P (goes_to t q (Take (LoadHealth (cell_at s m).word.died)) s))
    → (is_ready (status_at s t) ≡ true → (cell_at s m).robust ≡ false → P (answers t 0 s))
    → (is_ready (status_at s t) ≡ false → P (record { seen = Waits; after = s }))
    → P (lock_queued q t m s)
unfolding lock_queued take_load
lock_queued_cases P q t m s robust stalled waits =
    by_test (λ b. P (if b then (if is_robust m s then goes_to t q (Take (LoadHealth (cell_at s m).word.died)) s else
    answers t 0 s) else record { seen = Waits; after = s }))
    (is_ready (status_at s t))
    (λ e. by_test (λ b. P (if b then goes_to t q (Take (LoadHealth (cell_at s m).word.died)) s else answers t 0 s))
    (is_robust m s) (robust e) (stalled e))
    waits

-- TAKING OVER AND LEAVING

-- load the health word
pub take_health_cases : (P : Outcome → Type 0) (q : Request) (died : Bool) (t m : ℕ) (s : Table)
    → ((cell_at s m).health ≡ 2 → P (goes_to t q (Give Release ToLeave) s))
    → ((cell_at s m).health ≢ 2 → died ≡ true → P (goes_to t q (Take StoreInconsistent) s))
    → ((cell_at s m).health ≢ 2 → died ≡ false → P (goes_to t q (Link WriteNext 0) s))
    → P (take_health q died t m s)
unfolding take_health
take_health_cases P q died t m s unusable behind fine =
    by_test (λ b. P (if b then goes_to t q (Give Release ToLeave) s else (if died then goes_to t q (Take StoreInconsistent) s else
    goes_to t q (Link WriteNext 0) s)))
    ((cell_at s m).health == 2)
    (λ e. unusable (eqb-true (cell_at s m).health 2 e))
    (λ e. by_test (λ b. P (if b then goes_to t q (Take StoreInconsistent) s else goes_to t q (Link WriteNext 0) s)) died
    (behind (eqb-false (cell_at s m).health 2 e)) (fine (eqb-false (cell_at s m).health 2 e)))

-- GIVING UP

-- load the health word
pub give_health_cases : (P : Outcome → Type 0) (q : Request) (y : Purpose) (t m : ℕ) (s : Table)
    → ((cell_at s m).health ≡ 1 → P (goes_to t q (Give StoreUnusable y) s))
    → ((cell_at s m).health ≢ 1 → P (goes_to t q (Give Unlink y) s))
    → P (give_health q y t m s)
unfolding give_health
give_health_cases P q y t m s disorder order =
    by_test (λ b. P (if b then goes_to t q (Give StoreUnusable y) s else goes_to t q (Give Unlink y) s))
    ((cell_at s m).health == 1)
    (λ e. disorder (eqb-true (cell_at s m).health 1 e)) (λ e. order (eqb-false (cell_at s m).health 1 e))

-- compare-exchange from t to 0
pub give_exchange_cases : (P : Outcome → Type 0) (q : Request) (y : Purpose) (t m : ℕ) (s : Table)
    → ((cell_at s m).word.waiters ≡ false → P (given_up q y t m (with_word m free_word s)))
    → P (goes_to t q (Give CallUnlock y) s)
    → P (give_exchange q y t m s)
unfolding give_exchange
give_exchange_cases P q y t m s done fails =
    exchanged_cases P free_word (cell_at s m).word t m (given_up q y t m) (goes_to t q (Give CallUnlock y)) s
    (λ w d n. done w) fails

-- TRYLOCK

-- load the word
pub try_load_cases : (P : Outcome → Type 0) (t m : ℕ) (s : Table)
    → ((cell_at s m).word.number ≡ t → relock_of (cell_at s m).kind ≡ Counts → P (relocks t m s))
    → ((cell_at s m).word.number ≡ t → relock_of (cell_at s m).kind ≢ Counts → P (answers t 16 s))
    → ((cell_at s m).word.number ≢ t → (cell_at s m).robust ≡ true → P (goes_to t (TryLock m) NamePending s))
    → ((cell_at s m).word.number ≢ t → (cell_at s m).robust ≡ false → P (goes_to t (TryLock m) Exchange s))
    → P (try_load t m s)
unfolding try_load
try_load_cases P t m s recursive busy robust stalled =
    by_test (λ b. P (if b then elim (relock_of (cell_at s m).kind) [ Counts ↦ relocks t m s | _ ↦ answers t 16 s ] else
    goes_by t (TryLock m) m NamePending Exchange s))
    ((cell_at s m).word.number == t)
    (λ e. by_relock (relock_of (cell_at s m).kind) (recursive (eqb-true (cell_at s m).word.number t e))
    (busy (eqb-true (cell_at s m).word.number t e)))
    (λ e. goes_by_cases P (TryLock m) NamePending Exchange t m s
    (robust (eqb-false (cell_at s m).word.number t e)) (stalled (eqb-false (cell_at s m).word.number t e)))
  where
    by_relock : (x : Relock) → (x ≡ Counts → P (relocks t m s)) → (x ≢ Counts → P (answers t 16 s))
        → P (elim x [ Counts ↦ relocks t m s | _ ↦ answers t 16 s ])
    by_relock Deadlocks a b = b (λ e. cc)
    by_relock Answers a b = b (λ e. cc)
    by_relock Counts a b = a refl

-- UNLOCK

-- load the word
pub unlock_load_cases : (P : Outcome → Type 0) (t m : ℕ) (s : Table)
    → ((cell_at s m).word.number ≡ t → 1 < (cell_at s m).count
    → P (answers t 0 (with_count m ((cell_at s m).count - 1) s)))
    → ((cell_at s m).word.number ≡ t → (cell_at s m).count ≤ 1 → (cell_at s m).robust ≡ true
    → P (goes_to t (Unlock m) (Give SetPending ToUnlock) s))
    → ((cell_at s m).word.number ≡ t → (cell_at s m).count ≤ 1 → (cell_at s m).robust ≡ false
    → P (goes_to t (Unlock m) (Give Release ToUnlock) s))
    → ((cell_at s m).word.number ≢ t → P (answers t 1 s))
    → P (unlock_load t m s)
unfolding unlock_load
unlock_load_cases P t m s falls robust stalled other =
    by_test (λ b. P (if b then (if nat_lt 1 (cell_at s m).count then answers t 0
    (with_count m ((cell_at s m).count - 1) s) else goes_by t (Unlock m) m (Give SetPending ToUnlock) (Give Release ToUnlock) s) else
    answers t 1 s))
    ((cell_at s m).word.number == t)
    (λ e. by_test (λ b. P (if b then answers t 0 (with_count m ((cell_at s m).count - 1) s) else
    goes_by t (Unlock m) m (Give SetPending ToUnlock) (Give Release ToUnlock) s))
    (nat_lt 1 (cell_at s m).count)
    (λ f. falls (eqb-true (cell_at s m).word.number t e) (ltb-true 1 (cell_at s m).count f))
    (λ f. goes_by_cases P (Unlock m) (Give SetPending ToUnlock) (Give Release ToUnlock) t m s
    (robust (eqb-true (cell_at s m).word.number t e) (ltb-false 1 (cell_at s m).count f))
    (stalled (eqb-true (cell_at s m).word.number t e) (ltb-false 1 (cell_at s m).count f))))
    (λ e. other (eqb-false (cell_at s m).word.number t e))

-- CONSISTENT

-- load the word
pub consistent_load_cases : (P : Outcome → Type 0) (t m : ℕ) (s : Table)
    → ((cell_at s m).robust ≡ true → (cell_at s m).word.number ≡ t
    → P (goes_to t (Consistent m) (Repair CheckHealth) s))
    → ((cell_at s m).robust ≡ true → (cell_at s m).word.number ≢ t → P (answers t 1 s))
    → ((cell_at s m).robust ≡ false → P (answers t 22 s))
    → P (consistent_load t m s)
unfolding consistent_load
consistent_load_cases P t m s own other stalled =
    by_test (λ b. P (if b then (if (cell_at s m).word.number == t then goes_to t (Consistent m) (Repair CheckHealth) s
    else answers t 1 s) else answers t 22 s))
    (is_robust m s)
    (λ r. by_test (λ b. P (if b then goes_to t (Consistent m) (Repair CheckHealth) s else answers t 1 s))
    ((cell_at s m).word.number == t)
    (λ e. own r (eqb-true (cell_at s m).word.number t e)) (λ e. other r (eqb-false (cell_at s m).word.number t e)))
    stalled

-- load the health word
pub consistent_health_cases : (P : Outcome → Type 0) (t m : ℕ) (s : Table)
    → ((cell_at s m).health ≡ 1 → P (goes_to t (Consistent m) (Repair StoreFine) s))
    → ((cell_at s m).health ≢ 1 → P (answers t 22 s))
    → P (consistent_health t m s)
unfolding consistent_health
consistent_health_cases P t m s disorder order =
    by_test (λ b. P (if b then goes_to t (Consistent m) (Repair StoreFine) s else answers t 22 s))
    ((cell_at s m).health == 1)
    (λ e. disorder (eqb-true (cell_at s m).health 1 e)) (λ e. order (eqb-false (cell_at s m).health 1 e))

-- WAIT

-- load the word
pub wait_load_cases : (P : Outcome → Type 0) (c m t : ℕ) (s : Table)
    → (bound_to s c ≡ m → (cell_at s m).word.number ≡ t → 1 < (cell_at s m).count → P (answers t 22 s))
    → (bound_to s c ≡ m → (cell_at s m).word.number ≡ t → (cell_at s m).count ≤ 1 → P (goes_to t (Wait c m) LoadUses s))
    → (bound_to s c ≡ m → (cell_at s m).word.number ≢ t → P (answers t 1 s))
    → (bound_to s c ≢ m → P (answers t 22 s))
    → P (wait_load c m t s)
unfolding wait_load
wait_load_cases P c m t s more once other apart =
    by_test (λ b. P (if b then (if (cell_at s m).word.number == t then (if nat_lt 1 (cell_at s m).count then
    answers t 22 s else goes_to t (Wait c m) LoadUses s) else answers t 1 s) else answers t 22 s))
    (bound_to s c == m)
    (λ d. by_test (λ b. P (if b then (if nat_lt 1 (cell_at s m).count then answers t 22 s else
    goes_to t (Wait c m) LoadUses s) else answers t 1 s))
    ((cell_at s m).word.number == t)
    (λ e. by_test (λ b. P (if b then answers t 22 s else goes_to t (Wait c m) LoadUses s))
    (nat_lt 1 (cell_at s m).count)
    (λ f. more (eqb-true (bound_to s c) m d) (eqb-true (cell_at s m).word.number t e)
    (ltb-true 1 (cell_at s m).count f))
    (λ f. once (eqb-true (bound_to s c) m d) (eqb-true (cell_at s m).word.number t e)
    (ltb-false 1 (cell_at s m).count f)))
    (λ e. other (eqb-true (bound_to s c) m d) (eqb-false (cell_at s m).word.number t e)))
    (λ d. apart (eqb-false (bound_to s c) m d))

-- load the condition word
pub wait_uses_cases : (P : Outcome → Type 0) (c m t : ℕ) (s : Table)
    → ((cell_at s m).robust ≡ true → P (goes_to t (Wait c m) (Give SetPending (ToPark (uses_of s c))) s))
    → ((cell_at s m).robust ≡ false → P (goes_to t (Wait c m) (Give Release (ToPark (uses_of s c))) s))
    → P (wait_uses c m t s)
unfolding wait_uses
wait_uses_cases P c m t s =
    goes_by_cases P (Wait c m) (Give SetPending (ToPark (uses_of s c))) (Give Release (ToPark (uses_of s c))) t m s

-- woken to lock the mutex; or queued, parked or made the owner
pub wait_parked_cases : (P : Outcome → Type 0) (c m t : ℕ) (s : Table)
    → (is_woken_again (status_at s t) ≡ true → P (own_exchange (Wait c m) t m s))
    → (is_woken_again (status_at s t) ≡ false → P (lock_queued (Wait c m) t m s))
    → P (wait_parked c m t s)
unfolding wait_parked
wait_parked_cases P c m t s =
    by_test (λ b. P (if b then own_exchange (Wait c m) t m s else lock_queued (Wait c m) t m s))
    (is_woken_again (status_at s t))

-- SIGNAL AND BROADCAST

-- the condition word was read
pub use_read_cases : (P : Outcome → Type 0) (q : Request) (n t : ℕ) (s : Table)
    → (n ≡ s.limits.signals → P (answers t 75 s)) → (n ≢ s.limits.signals → P (goes_to t q (Wake (CountUse n)) s))
    → P (use_read q n t s)
unfolding use_read
use_read_cases P q n t s full some =
    by_test (λ b. P (if b then answers t 75 s else goes_to t q (Wake (CountUse n)) s)) (n == s.limits.signals)
    (λ e. full (eqb-true n s.limits.signals e)) (λ e. some (eqb-false n s.limits.signals e))

-- compare-exchange of the condition word from v to one more
pub use_exchange_cases : (P : Outcome → Type 0) (q : Request) (v c t : ℕ) (s : Table)
    → (uses_of s c ≡ v → P (goes_to t q (Wake (Requeue (v + 1))) (with_cond_word c (v + 1) s)))
    → (uses_of s c ≢ v → uses_of s c ≡ s.limits.signals → P (answers t 75 s))
    → (uses_of s c ≢ v → uses_of s c ≢ s.limits.signals → P (goes_to t q (Wake (CountUse (uses_of s c))) s))
    → P (use_exchange q v c t s)
unfolding use_exchange
use_exchange_cases P q v c t s done full again =
    by_test (λ b. P (if b then goes_to t q (Wake (Requeue (v + 1))) (with_cond_word c (v + 1) s) else
    use_read q (uses_of s c) t s))
    (uses_of s c == v)
    (λ e. done (eqb-true (uses_of s c) v e))
    (λ e. use_read_cases P q (uses_of s c) t s (full (eqb-false (uses_of s c) v e))
    (again (eqb-false (uses_of s c) v e)))

-- SETPRIO

-- by what its kernel call answered a call is closed
pub answered_by_cases : (P : Outcome → Type 0) (r : Result (record {}) Errno) (t : ℕ) (s : Table)
    → ((a : ℕ) → P (answers t a s)) → P (answered_by r t s)
unfolding answered_by
answered_by_cases P (Ok x) t s closes = closes 0
answered_by_cases P (Err e) t s closes = closes (number_of e)
