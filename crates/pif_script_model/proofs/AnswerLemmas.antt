-- The answers of the table machine are numbers that a line can write: 0, or the number of an error. A call that takes
-- a mutex over keeps its answer in its place until it is given, so the places are bounded along with the answers.
use Rattle.std.proofs.Common.{ℕ, ◌+◌, ◌==◌, zero, suc, nat_lt, Bool, true, false, List, [], ◌∷◌, ◌++◌, get_or, set, Option, Some, None, Result, Ok, Err, if◌then◌else◌, arith}
use Rattle.pif_types.specs.Numbers.{number_of}
use Rattle.pif_types.specs.declared.errors.Errno.{Errno}
use Rattle.pif_types.specs.declared.errors.Errno.TheVariants.{NotPermitted, NoSuchThread, Again, Fault, Busy, Invalid, Deadlock, Overflow, TimedOut, OwnerDead, NotRecoverable}
use Rattle.pif_types.specs.declared.errors.Refusal.{Refusal}
use Rattle.pif_model.specs.declared.lines.Relock.{Relock}
use Rattle.pif_model.specs.declared.lines.Relock.TheVariants.{Deadlocks, Answers, Counts}
use Rattle.pif_model.specs.Kinds.{relock_of}
use Rattle.pif_types.specs.declared.requests.Request.{Request}
use Rattle.pif_types.specs.declared.requests.Request.TheVariants.{Lock, TryLock, Unlock, Consistent, Wait, Signal, Broadcast, SetPrio}
use Rattle.pif_model.specs.declared.events.Event.{Event}
use Rattle.pif_model.specs.declared.events.Event.TheVariants.{Begin, Go, End, Tick}
use Rattle.pif_model.specs.declared.events.Seen.{Seen}
use Rattle.pif_model.specs.declared.events.Seen.TheVariants as seen
use Rattle.pif_model.specs.declared.lines.Line.{Line}
use Rattle.pif_model.specs.declared.lines.Line.TheVariants.{Idle, At}
use Rattle.pif_model.specs.declared.lines.Place.{Place}
use Rattle.pif_model.specs.declared.lines.Place.TheVariants.{Load, NamePending, Exchange, CallKernel, StayQueued, Stop, StayStopped, Take, Link, Give, Clear, LoadUses, Park, StayParked, Repair, Wake, SetPriority}
use Rattle.pif_model.specs.declared.lines.TakeStep.{TakeStep}
use Rattle.pif_model.specs.declared.lines.TakeStep.TheVariants.{LoadWord, LoadHealth, StoreInconsistent, ClearDied}
use Rattle.pif_model.specs.declared.lines.LinkStep.{LinkStep}
use Rattle.pif_model.specs.declared.lines.LinkStep.TheVariants.{WriteNext, WriteHead}
use Rattle.pif_model.specs.declared.lines.GiveStep.{GiveStep}
use Rattle.pif_model.specs.declared.lines.GiveStep.TheVariants.{SetPending, SeeHealth, StoreUnusable, Unlink, Release, CallUnlock}
use Rattle.pif_model.specs.declared.lines.Purpose.{Purpose}
use Rattle.pif_model.specs.declared.lines.Purpose.TheVariants.{ToUnlock, ToPark, ToLeave}
use Rattle.pif_model.specs.declared.lines.Footing.TheVariants.{Linked, Unowned}
use Rattle.pif_model.specs.declared.lines.RepairStep.TheVariants.{CheckHealth, StoreFine}
use Rattle.pif_model.specs.declared.lines.WakeStep.{WakeStep}
use Rattle.pif_model.specs.declared.lines.WakeStep.TheVariants.{ReadUses, CountUse, Requeue, ReadAgain}
use Rattle.pif_model.specs.declared.lines.Took.{Took}
use Rattle.pif_model.specs.declared.lines.Took.TheVariants.{Owns as TookOwns, Queued as TookQueued}
use Rattle.pif_model.specs.PiKernel.{is_ready, is_woken_again, lock_answer, try_lock_answer, unlock_answer, set_prio_answer, wait_requeue_answer, requeue_answer}
use Rattle.pif_model.specs.Word.{Word, take_word, release_word}
use Rattle.pif_model.specs.Table.{Table, cell_at, status_at, bound_to, uses_of, with_word, line_at, timer_at}
use Rattle.pif_model.specs.Lines.{Outcome, goes_to, waits_at, answers, is_robust, ends_by, relocks, after_exchange, own_exchange, lock_load, lock_by, lock_kernel, take_load, lock_queued, lock_stop, take_health, take_line, link_line, clears, given_up, give_health, give_exchange, given_up_by, gives_up, give_line, try_load, try_by, try_kernel, unlock_load, consistent_load, consistent_health, repair_line, answered_by, set_priority, wait_load, wait_uses, wait_by, wait_park, wait_parked, use_read, use_exchange, more_in, use_by, use_requeue, ended_table, giving_line, shared_line, locking_line, use_line, line_of, is_line_due, expired_place, expired_in, expires_at, reported_outcome, go_outcome, first_place, table_refusal, accepted_outcome, by_refusal, event_outcome}
use Rattle.pif_model.specs.Deadlines.{plain, reported_result, reported_seen}
use Rattle.pif_text_model.specs.Numbers.{IsNumber}
use Rattle.pif_text_model.specs.Traces.{IsSeenTraced}

-- an answer that a place keeps is a number that a line can write
abbrev pub IsSmallPlace : Place → Type 0
IsSmallPlace (Link x a) = IsNumber a
IsSmallPlace (Clear f a) = IsNumber a
IsSmallPlace _ = Unit {0}

-- so is what a line keeps
abbrev pub IsSmallLine : Line → Type 0
IsSmallLine Idle = Unit {0}
IsSmallLine (At q p) = IsSmallPlace p

-- so at each of these lines
abbrev pub AreSmall : List Line → Type 0
AreSmall ls = (u : ℕ) → IsSmallLine (get_or ls u Idle)

-- an outcome whose answer is written, and whose lines keep such answers
pub record Fits (o : Outcome) : Type 0 where
  pub seen : IsSeenTraced o.seen
  pub lines : AreSmall o.after.lines

-- the number of an error is one
number-small : (e : Errno) → IsNumber (number_of e)
number-small NotPermitted = omega arith
number-small NoSuchThread = omega arith
number-small Again = omega arith
number-small Fault = omega arith
number-small Busy = omega arith
number-small Invalid = omega arith
number-small Deadlock = omega arith
number-small Overflow = omega arith
number-small TimedOut = omega arith
number-small OwnerDead = omega arith
number-small NotRecoverable = omega arith

-- no line keeps anything if nothing is open
pub none-small : AreSmall (Idle ∷ [])
none-small zero = tt
none-small (suc u) = tt

-- nor does the line of a new thread
pub added-small : (ls : List Line) → AreSmall ls → AreSmall (ls ++ Idle ∷ [])
added-small [] h u = none-small u
added-small (l ∷ ls) h zero = h 0
added-small (l ∷ ls) h (suc u) = added-small ls (λ v. h (suc v)) u

-- one line more of them
set-small : (ls : List Line) (t : ℕ) (l : Line) → IsSmallLine l → AreSmall ls → AreSmall (set ls t l)
set-small [] t l n h u = h u
set-small (x ∷ xs) zero l n h zero = n
set-small (x ∷ xs) zero l n h (suc u) = h (suc u)
set-small (x ∷ xs) (suc t) l n h zero = h 0
set-small (x ∷ xs) (suc t) l n h (suc u) = set-small xs t l n (λ v. h (suc v)) u

-- ---- what steps have in common

-- the call goes on
goes : (s : Table) → AreSmall s.lines → (t : ℕ) (q : Request) (p : Place) → IsSmallPlace p → Fits (goes_to t q p s)
goes s h t q p n = record { seen = tt; lines = set-small s.lines t (At q p) n h }

-- it waits
rests : (s : Table) → AreSmall s.lines → (t : ℕ) (q : Request) (p : Place) → IsSmallPlace p → Fits (waits_at t q p s)
rests s h t q p n = record { seen = tt; lines = set-small s.lines t (At q p) n h }

-- it is answered
closes : (s : Table) → AreSmall s.lines → (t a : ℕ) → IsNumber a → Fits (answers t a s)
closes s h t a n = record { seen = n; lines = set-small s.lines t Idle tt h }

-- it is answered by an error
fails : (s : Table) → AreSmall s.lines → (t : ℕ) (e : Errno) → Fits (answers t (number_of e) s)
fails s h t e = closes s h t (number_of e) (number-small e)

-- by a test
either : (b : Bool) (x y : Outcome) → Fits x → Fits y → Fits (if b then x else y)
either true x y f g = f
either false x y f g = g

-- by an exchange
by_exchange : (o : Option Word) (m : ℕ) (done failed : Table → Outcome) (s : Table)
    → ((w : Word) → Fits (done (with_word m w s))) → Fits (failed s) → Fits (after_exchange o m done failed s)
unfolding after_exchange
by_exchange (Some w) m done failed s f g = f w
by_exchange None m done failed s f g = g

-- it goes on for a robust mutex, and is answered for a stalled one
ends : (s : Table) → AreSmall s.lines → (t : ℕ) (q : Request) (m : ℕ) (p : Place) (a : ℕ) → IsSmallPlace p → IsNumber a
    → Fits (ends_by t q m p a s)
ends s h t q m p a n k = either (is_robust m s) _ _ (goes s h t q p n) (closes s h t a k)

-- it is answered once the pending field is cleared
clears-fit : (s : Table) → AreSmall s.lines → (t a : ℕ) → IsNumber a → Fits (clears a t s)
unfolding clears
clears-fit s h t a n = closes _ h t a n

-- the steps that look at a mutex
module _ (s : Table) (h : AreSmall s.lines) (t m : ℕ) where
  locked_again-fits : Fits (relocks t m s)
  unfolding relocks
  locked_again-fits =
      either (nat_lt (cell_at s m).count 255) _ _ (closes _ h t 0 (omega arith)) (closes s h t 11 (omega arith))

  own_exchange-fits : (q : Request) → Fits (own_exchange q t m s)
  unfolding own_exchange
  own_exchange-fits q =
      by_exchange (take_word (cell_at s m).word t) m _ _ s
      (λ w. ends (with_word m w s) h t q m (Take (LoadHealth false)) 0 tt (omega arith)) (goes s h t q CallKernel tt)

  lock_load-fits : (q : Request) → Fits (lock_load q t m s)
  unfolding lock_load
  lock_load-fits q =
      either ((cell_at s m).word.number == t) _ _ (by_relock (relock_of (cell_at s m).kind))
      (either (is_robust m s) _ _ (goes s h t q NamePending tt) (goes s h t q Exchange tt))
    where
      by_relock : (x : Relock) → Fits (elim x as (λ _. Outcome)
          [ Deadlocks ↦ goes_to t q Stop s | Answers ↦ answers t 35 s | Counts ↦ relocks t m s ])
      by_relock Deadlocks = goes s h t q Stop tt
      by_relock Answers = closes s h t 35 (omega arith)
      by_relock Counts = locked_again-fits

  lock_by-fits : (r : Result Took Errno) (q : Request) → Fits (lock_by r q t m s)
  unfolding lock_by
  lock_by-fits (Ok TookOwns) q = ends s h t q m (Take LoadWord) 0 tt (omega arith)
  lock_by-fits (Ok TookQueued) q = rests s h t q StayQueued tt
  lock_by-fits (Err Deadlock) q = ends s h t q m (Clear Unowned 35) 35 (omega arith) (omega arith)
  lock_by-fits (Err NoSuchThread) q = goes s h t q Stop tt
  lock_by-fits (Err e) q = fails s h t e

  lock_queued-fits : (q : Request) → Fits (lock_queued q t m s)
  unfolding lock_queued take_load
  lock_queued-fits q =
      either (is_ready (status_at s t)) _ _
      (either (is_robust m s) _ _ (goes s h t q (Take (LoadHealth (cell_at s m).word.died)) tt) (closes s h t 0 (omega arith)))
      (record { seen = tt; lines = h })

  take_health-fits : (q : Request) (died : Bool) → Fits (take_health q died t m s)
  unfolding take_health
  take_health-fits q died =
      either ((cell_at s m).health == 2) _ _ (goes s h t q (Give Release ToLeave) tt)
      (either died _ _ (goes s h t q (Take StoreInconsistent) tt) (goes s h t q (Link WriteNext 0) (omega arith)))

  given_up-fits : (q : Request) (y : Purpose) → Fits (given_up q y t m s)
  given_up-fits q ToUnlock = ends s h t q m (Clear Unowned 0) 0 (omega arith) (omega arith)
  given_up-fits q (ToPark v) = goes s h t q (Park v) tt
  given_up-fits q ToLeave = goes s h t q (Clear Unowned 131) (omega arith)

  give_health-fits : (q : Request) (y : Purpose) → Fits (give_health q y t m s)
  unfolding give_health
  give_health-fits q y =
      either ((cell_at s m).health == 1) _ _ (goes s h t q (Give StoreUnusable y) tt) (goes s h t q (Give Unlink y) tt)

  given_up_by-fits : (r : Result (record {}) Errno) (done : Table → Outcome) → Fits (done s)
      → Fits (given_up_by r t done s)
  unfolding given_up_by
  given_up_by-fits (Ok x) done f = f
  given_up_by-fits (Err e) done f = fails s h t e

  try_load-fits : Fits (try_load t m s)
  unfolding try_load
  try_load-fits =
      either ((cell_at s m).word.number == t) _ _ (by_relock (relock_of (cell_at s m).kind))
      (either (is_robust m s) _ _ (goes s h t (TryLock m) NamePending tt) (goes s h t (TryLock m) Exchange tt))
    where
      by_relock : (x : Relock) → Fits (elim x as (λ _. Outcome) [ Counts ↦ relocks t m s | _ ↦ answers t 16 s ])
      by_relock Deadlocks = closes s h t 16 (omega arith)
      by_relock Answers = closes s h t 16 (omega arith)
      by_relock Counts = locked_again-fits

  try_by-fits : (r : Result (record {}) Errno) → Fits (try_by r t m s)
  unfolding try_by
  try_by-fits (Ok x) = ends s h t (TryLock m) m (Take LoadWord) 0 tt (omega arith)
  try_by-fits (Err Again) = ends s h t (TryLock m) m (Clear Unowned 16) 16 (omega arith) (omega arith)
  try_by-fits (Err e) = fails s h t e

  unlock_load-fits : Fits (unlock_load t m s)
  unfolding unlock_load
  unlock_load-fits =
      either ((cell_at s m).word.number == t) _ _
      (either (nat_lt 1 (cell_at s m).count) _ _ (closes _ h t 0 (omega arith))
      (either (is_robust m s) _ _ (goes s h t (Unlock m) (Give SetPending ToUnlock) tt) (goes s h t (Unlock m) (Give Release ToUnlock) tt)))
      (closes s h t 1 (omega arith))

  consistent_load-fits : Fits (consistent_load t m s)
  unfolding consistent_load
  consistent_load-fits =
      either (is_robust m s) _ _
      (either ((cell_at s m).word.number == t) _ _ (goes s h t (Consistent m) (Repair CheckHealth) tt)
      (closes s h t 1 (omega arith)))
      (closes s h t 22 (omega arith))

  consistent_health-fits : Fits (consistent_health t m s)
  unfolding consistent_health
  consistent_health-fits =
      either ((cell_at s m).health == 1) _ _ (goes s h t (Consistent m) (Repair StoreFine) tt) (closes s h t 22 (omega arith))

  wait_load-fits : (c : ℕ) → Fits (wait_load c m t s)
  unfolding wait_load
  wait_load-fits c =
      either (bound_to s c == m) _ _
      (either ((cell_at s m).word.number == t) _ _
      (either (nat_lt 1 (cell_at s m).count) _ _ (closes s h t 22 (omega arith)) (goes s h t (Wait c m) LoadUses tt))
      (closes s h t 1 (omega arith)))
      (closes s h t 22 (omega arith))

  wait_uses-fits : (c : ℕ) → Fits (wait_uses c m t s)
  unfolding wait_uses
  wait_uses-fits c =
      either (is_robust m s) _ _ (goes s h t (Wait c m) (Give SetPending (ToPark (uses_of s c))) tt)
      (goes s h t (Wait c m) (Give Release (ToPark (uses_of s c))) tt)

  wait_by-fits : (r : Result (record {}) Errno) (c : ℕ) → Fits (wait_by r c m t s)
  unfolding wait_by
  wait_by-fits (Ok x) c = rests s h t (Wait c m) StayParked tt
  wait_by-fits (Err Again) c = goes s h t (Wait c m) Exchange tt
  wait_by-fits (Err e) c = fails s h t e

  wait_parked-fits : (c : ℕ) → Fits (wait_parked c m t s)
  unfolding wait_parked
  wait_parked-fits c =
      either (is_woken_again (status_at s t)) _ _ (own_exchange-fits (Wait c m)) (lock_queued-fits (Wait c m))

-- the other steps
module _ (s : Table) (h : AreSmall s.lines) (t : ℕ) where
  answered_by-fits : (r : Result (record {}) Errno) → Fits (answered_by r t s)
  unfolding answered_by
  answered_by-fits (Ok x) = closes s h t 0 (omega arith)
  answered_by-fits (Err e) = fails s h t e

  use_read-fits : (q : Request) (n : ℕ) → Fits (use_read q n t s)
  unfolding use_read
  use_read-fits q n = either (n == s.limits.signals) _ _ (closes s h t 75 (omega arith)) (goes s h t q (Wake (CountUse n)) tt)

  use_exchange-fits : (q : Request) (v c : ℕ) → Fits (use_exchange q v c t s)
  unfolding use_exchange
  use_exchange-fits q v c =
      either (uses_of s c == v) _ _ (goes _ h t q (Wake (Requeue (v + 1))) tt) (use_read-fits q (uses_of s c))

  use_by-fits : (r : Result ℕ Errno) (q : Request) → Fits (use_by r q t s)
  unfolding use_by
  use_by-fits (Ok n) q = closes s h t 0 (omega arith)
  use_by-fits (Err Again) q = goes s h t q (Wake ReadAgain) tt
  use_by-fits (Err e) q = fails s h t e

-- ---- kernel calls

module _ (s : Table) (h : AreSmall s.lines) (t : ℕ) where
  lock_kernel-fits : (q : Request) (m : ℕ) → Fits (lock_kernel q t m s)
  unfolding lock_kernel
  lock_kernel-fits q m = lock_by-fits _ h t m (lock_answer t m s.words s.kernel) q

  lock_stop-fits : (q : Request) → Fits (lock_stop q t s)
  unfolding lock_stop
  lock_stop-fits q = rests _ h t q StayStopped tt

  gives_up-fits : (m : ℕ) (done : Table → Outcome) → ((v : Table) → AreSmall v.lines → Fits (done v))
      → Fits (gives_up t m done s)
  unfolding gives_up
  gives_up-fits m done f = given_up_by-fits _ h t m (unlock_answer t m s.words s.kernel) done (f _ h)

  try_kernel-fits : (m : ℕ) → Fits (try_kernel t m s)
  unfolding try_kernel
  try_kernel-fits m = try_by-fits _ h t m (try_lock_answer t m s.words s.kernel)

  set_priority-fits : (u p : ℕ) → Fits (set_priority t u p s)
  unfolding set_priority
  set_priority-fits u p = answered_by-fits _ h t (set_prio_answer u p s.kernel)

  wait_park-fits : (v c m : ℕ) → Fits (wait_park v c m t s)
  unfolding wait_park
  wait_park-fits v c m = wait_by-fits _ h t m (wait_requeue_answer c v m s.words) c

  use_requeue-fits : (q : Request) (v c : ℕ) → Fits (use_requeue q v c t s)
  unfolding use_requeue
  use_requeue-fits q v c = use_by-fits _ h t (requeue_answer c (bound_to s c) 1 (more_in q) v s.words s.kernel) q

-- ---- lines

-- taking over
take-fits : (q : Request) (x : TakeStep) (t m : ℕ) (s : Table) → AreSmall s.lines → Fits (take_line q x t m s)
unfolding take_line take_load
take-fits q LoadWord t m s h = goes s h t q (Take (LoadHealth (cell_at s m).word.died)) tt
take-fits q (LoadHealth died) t m s h = take_health-fits s h t m q died
take-fits q StoreInconsistent t m s h = goes _ h t q (Take ClearDied) tt
take-fits q ClearDied t m s h = goes _ h t q (Link WriteNext 130) (omega arith)

link-fits : (q : Request) (x : LinkStep) (a t m : ℕ) (s : Table) → IsNumber a → AreSmall s.lines
    → Fits (link_line q x a t m s)
unfolding link_line
link-fits q WriteNext a t m s n h = goes _ h t q (Link WriteHead a) n
link-fits q WriteHead a t m s n h = goes _ h t q (Clear Linked a) n

-- giving up
give-fits : (q : Request) (x : GiveStep) (y : Purpose) (t m : ℕ) (s : Table) → AreSmall s.lines
    → Fits (give_line q x y t m s)
unfolding give_line give_exchange
give-fits q SetPending y t m s h = goes _ h t q (Give SeeHealth y) tt
give-fits q SeeHealth y t m s h = give_health-fits s h t m q y
give-fits q StoreUnusable y t m s h = goes _ h t q (Give Unlink y) tt
give-fits q Unlink y t m s h = goes _ h t q (Give Release y) tt
give-fits q Release y t m s h =
    by_exchange (release_word (cell_at s m).word t) m _ _ s (λ w. given_up-fits (with_word m w s) h t m q y)
    (goes s h t q (Give CallUnlock y) tt)
give-fits q CallUnlock y t m s h = gives_up-fits s h t m (given_up q y t m) (λ v k. given_up-fits v k t m q y)

giving-fits : (q : Request) (p : Place) (t m : ℕ) (s : Table) → IsSmallPlace p → AreSmall s.lines
    → Fits (giving_line q p t m s)
unfolding giving_line
giving-fits q (Give x y) t m s n h = give-fits q x y t m s h
giving-fits q (Clear f a) t m s n h = clears-fit s h t a n
giving-fits q p t m s n h = closes s h t 22 (omega arith)

-- what all requests share which lock
shared-fits : (q : Request) (p : Place) (t m : ℕ) (s : Table) → IsSmallPlace p → AreSmall s.lines
    → Fits (shared_line q p t m s)
unfolding shared_line
shared-fits q Exchange t m s n h = own_exchange-fits s h t m q
shared-fits q (Take x) t m s n h = take-fits q x t m s h
shared-fits q (Link x a) t m s n h = link-fits q x a t m s n h
shared-fits q p t m s n h = giving-fits q p t m s n h

-- what locks, from the exchange on
locking-fits : (q : Request) (p : Place) (t m : ℕ) (s : Table) → IsSmallPlace p → AreSmall s.lines
    → Fits (locking_line q p t m s)
unfolding locking_line
locking-fits q CallKernel t m s n h = lock_kernel-fits s h t q m
locking-fits q StayQueued t m s n h = lock_queued-fits s h t m q
locking-fits q Stop t m s n h = lock_stop-fits s h t q
locking-fits q StayStopped t m s n h = record { seen = tt; lines = h }
locking-fits q p t m s n h = shared-fits q p t m s n h

-- signal and broadcast
use-fits : (q : Request) (x : WakeStep) (c t : ℕ) (s : Table) → AreSmall s.lines → Fits (use_line q x c t s)
unfolding use_line
use-fits q ReadUses c t s h = use_read-fits s h t q (uses_of s c)
use-fits q (CountUse v) c t s h = use_exchange-fits s h t q v c
use-fits q (Requeue v) c t s h = use_requeue-fits s h t q v c
use-fits q ReadAgain c t s h = goes s h t q (Wake (Requeue (uses_of s c))) tt

-- each place of each request
line-fits : (q : Request) (p : Place) (t : ℕ) (s : Table) → IsSmallPlace p → AreSmall s.lines → Fits (line_of q p t s)
unfolding line_of repair_line
line-fits (Lock m) Load t s n h = lock_load-fits s h t m (Lock m)
line-fits (Lock m) NamePending t s n h = goes _ h t (Lock m) Exchange tt
line-fits (Lock m) p t s n h = locking-fits (Lock m) p t m s n h
line-fits (TryLock m) Load t s n h = try_load-fits s h t m
line-fits (TryLock m) NamePending t s n h = goes _ h t (TryLock m) Exchange tt
line-fits (TryLock m) CallKernel t s n h = try_kernel-fits s h t m
line-fits (TryLock m) p t s n h = shared-fits (TryLock m) p t m s n h
line-fits (Unlock m) Load t s n h = unlock_load-fits s h t m
line-fits (Unlock m) p t s n h = giving-fits (Unlock m) p t m s n h
line-fits (Consistent m) Load t s n h = consistent_load-fits s h t m
line-fits (Consistent m) (Repair CheckHealth) t s n h = consistent_health-fits s h t m
line-fits (Consistent m) (Repair StoreFine) t s n h = closes _ h t 0 (omega arith)
line-fits (Wait c m) Load t s n h = wait_load-fits s h t m c
line-fits (Wait c m) LoadUses t s n h = wait_uses-fits s h t m c
line-fits (Wait c m) (Park v) t s n h = wait_park-fits s h t v c m
line-fits (Wait c m) StayParked t s n h = wait_parked-fits s h t m c
line-fits (Wait c m) p t s n h = locking-fits (Wait c m) p t m s n h
line-fits (Signal c) (Wake x) t s n h = use-fits (Signal c) x c t s h
line-fits (Broadcast c) (Wake x) t s n h = use-fits (Broadcast c) x c t s h
line-fits (SetPrio u p) SetPriority t s n h = set_priority-fits s h t u p
line-fits q p t s n h = closes s h t 22 (omega arith)

-- ---- events

-- where an expiry goes on
expired-small : (p : Place) → IsSmallPlace (expired_place p)
expired-small StayQueued = omega arith
expired-small p = omega arith

-- an expiry
expires-fits : (q : Request) (p : Place) (t : ℕ) (s : Table) → AreSmall s.lines → Fits (expires_at q p t s)
unfolding expires_at expired_in
expires-fits (Lock m) p t s h = ends _ h t (Lock m) m (expired_place p) 110 (expired-small p) (omega arith)
expires-fits (Wait c m) p t s h = goes _ h t (Wait c m) Exchange tt
expires-fits q p t s h = closes s h t 22 (omega arith)

-- what a wait is answered that has expired
either-small : (b : Bool) (m n : ℕ) → IsNumber m → IsNumber n → IsNumber (if b then m else n)
either-small true m n h k = h
either-small false m n h k = k

told-small : (q : Request) (expired : Bool) (a : ℕ) → IsNumber a → IsNumber (reported_result q expired a)
told-small (Wait c m) true a n = either-small (a == 0) 110 a (omega arith) n
told-small q expired a n = n

reported_seen-fits : (q : Request) (expired : Bool) (x : Seen) → IsSeenTraced x → IsSeenTraced (reported_seen q expired x)
reported_seen-fits q expired (seen.Answered a) n = told-small q expired a n
reported_seen-fits q expired x n = n

told-fits : (q : Request) (expired : Bool) (o : Outcome) → Fits o → Fits (reported_outcome q expired o)
told-fits q expired o f = record { seen = reported_seen-fits q expired o.seen f.seen; lines = f.lines }

-- a step of what is open
go-fits : (l : Line) (t : ℕ) (s : Table) → IsSmallLine l → AreSmall s.lines → Fits (go_outcome l t s)
unfolding go_outcome
go-fits Idle t s n h = record { seen = tt; lines = h }
go-fits (At q p) t s n h =
    either (is_line_due (At q p) t s) _ _ (expires-fits q p t s h)
    (told-fits q (timer_at s t).expired (line_of q p t s) (line-fits q p t s n h))

-- where a call begins
first-small : (q : Request) → IsSmallPlace (first_place q)
first-small (Wait c m) = tt
first-small _ = tt

-- an event that is not refused
accepted-fits : (e : Event) (s : Table) → AreSmall s.lines → Fits (accepted_outcome e s)
unfolding accepted_outcome ended_table
accepted-fits (Begin t q) s h =
    record { seen = tt; lines = set-small s.lines t (At (plain q) (first_place q)) (first-small q) h }
accepted-fits (Go t) s h = go-fits (line_at s t) t s (h t) h
accepted-fits (End t) s h = record { seen = tt; lines = set-small s.lines t Idle tt h }
accepted-fits (Tick n) s h = record { seen = tt; lines = h }

-- each event is answered by a number that a line can write, if by one
pub event-fits : (e : Event) (s : Table) → AreSmall s.lines → Fits (event_outcome e s)
unfolding event_outcome
event-fits e s h = by_refusal_of (table_refusal s e)
  where
    by_refusal_of : (r : Option Refusal) → Fits (by_refusal r e s)
    by_refusal_of None = accepted-fits e s h
    by_refusal_of (Some r) = record { seen = tt; lines = h }
