-- A wait that locks its mutex again takes the steps of lock; and which line the step of a call is, by its deadline.
use Rattle.std.proofs.Common.{◌≡◌, ◌≢◌, ℕ, Bool, true, false, refl, sym, ap, subst, ◌∙◌, if◌then◌else◌}
use Rattle.std.proofs.lemmas.Bool.{true≢false}
use Rattle.pif_types.specs.declared.requests.Request.{Request}
use Rattle.pif_types.specs.declared.requests.Request.TheVariants.{Lock, TryLock, Unlock, Consistent, Wait, SetPrio}
use Rattle.pif_model.specs.NamedNumbers.{ETIMEDOUT}
use Rattle.pif_model.specs.declared.events.Seen.{Seen}
use Rattle.pif_model.specs.declared.events.Seen.TheVariants.{Waits, Answered}
use Rattle.pif_model.specs.declared.lines.Line.TheVariants.{At}
use Rattle.pif_model.specs.declared.lines.Status.{Status}
use Rattle.pif_model.specs.declared.lines.Place.{Place}
use Rattle.pif_model.specs.declared.lines.Place.TheVariants.{Load, NamePending, StayQueued, StayStopped, LoadUses, Park, StayParked}
use Rattle.pif_model.specs.Deadlines.{is_reached, reported_seen}
use Rattle.pif_model.specs.Table.{Table, status_at, timer_at}
use Rattle.pif_model.specs.Lines.{lock_queued, locking_line, line_of, counts_at, is_line_due, ends_by, expired_in, expired_place, expires_at, reported_outcome, go_outcome}
use Rattle.pif_model_simulation.specs.Steppable.{may_wait_at}
use Rattle.pif_model_simulation.proofs.Undue.{goes_by_line, undue}
use Rattle.pif_mutex.specs.Mutexes.{is_on_mutex}

-- at a place where it takes a step on its mutex its line is that of who may queue
wait_locks : (c m : ℕ) (p : Place) (t : ℕ) (s : Table) → is_on_mutex p ≡ true
    → locking_line (Wait c m) p t m s ≡ line_of (Wait c m) p t s
unfolding line_of
wait_locks c m Load t s h = absurd (true≢false (sym h))
wait_locks c m LoadUses t s h = absurd (true≢false (sym h))
wait_locks c m (Park v) t s h = absurd (true≢false (sym h))
wait_locks c m StayParked t s h = absurd (true≢false (sym h))
wait_locks c m p t s h = refl

-- a wait there is not due
pub wait_goes : (q : Request) (p : Place) (t m : ℕ) (s : Table) → (c : ℕ) × (q ≡ Wait c m) → is_on_mutex p ≡ true
    → go_outcome (At q p) t s ≡ reported_outcome q (timer_at s t).expired (locking_line q p t m s)
wait_goes q p t m s (c, e) h =
    subst (λ (x : Request). go_outcome (At x p) t s
    ≡ reported_outcome x (timer_at s t).expired (locking_line x p t m s)) (sym e)
    (undue (Wait c m) p t s (never (is_reached (timer_at s t).deadline s.time) p (status_at s t) h)
    ∙ ap (reported_outcome (Wait c m) (timer_at s t).expired) (sym (wait_locks c m p t s h)))
  where
    never : (reached : Bool) (p : Place) (x : Status) → is_on_mutex p ≡ true
        → (if reached then counts_at (Wait c m) p x else false) ≡ false
    never false p x h = refl
    never true StayParked x h = absurd (true≢false (sym h))
    never true p x h = refl

-- that of a lock whose thread can't wait at its place is its line
pub lock_goes : (m : ℕ) (p : Place) (t : ℕ) (s : Table) → may_wait_at p ≡ false
    → go_outcome (At (Lock m) p) t s ≡ line_of (Lock m) p t s
lock_goes m p t s h = goes_by_line (Lock m) p t s (counts m p (status_at s t) h) (λ expired a. refl)
  where
    counts : (m : ℕ) (p : Place) (x : Status) → may_wait_at p ≡ false → counts_at (Lock m) p x ≡ false
    counts m StayQueued x h = absurd (true≢false h)
    counts m StayStopped x h = absurd (true≢false h)
    counts m p x h = refl

-- at a place that it shares with a wait it is the line of who may queue, unless the lock waits there
on_from : (m : ℕ) (p : Place) (t : ℕ) (s : Table) → p ≢ Load → p ≢ NamePending
    → line_of (Lock m) p t s ≡ locking_line (Lock m) p t m s
unfolding line_of
on_from m Load t s l n = absurd (l refl)
on_from m NamePending t s l n = absurd (n refl)
on_from m p t s l n = refl

counts_not : (m : ℕ) (p : Place) (x : Status) → p ≢ StayQueued → p ≢ StayStopped → counts_at (Lock m) p x ≡ false
counts_not m StayQueued x q h = absurd (q refl)
counts_not m StayStopped x q h = absurd (h refl)
counts_not m p x q h = refl

pub lock_goes_on : (m : ℕ) (p : Place) (t : ℕ) (s : Table) → p ≢ Load → p ≢ NamePending → p ≢ StayQueued
    → p ≢ StayStopped → go_outcome (At (Lock m) p) t s ≡ locking_line (Lock m) p t m s
lock_goes_on m p t s l n q h =
    goes_by_line (Lock m) p t s (counts_not m p (status_at s t) q h) (λ expired a. refl) ∙ on_from m p t s l n

-- that of a lock that is due is its expiry, and of one that isn't its line
pub due_lock_goes : (m : ℕ) (p : Place) (t : ℕ) (s : Table) → is_line_due (At (Lock m) p) t s ≡ true
    → go_outcome (At (Lock m) p) t s ≡ ends_by t (Lock m) m (expired_place p) ETIMEDOUT (expired_in t s)
unfolding go_outcome expires_at
due_lock_goes m p t s h =
    ap (λ (b : Bool). if b then expires_at (Lock m) p t s
    else reported_outcome (Lock m) (timer_at s t).expired (line_of (Lock m) p t s)) h

undue_lock_goes : (m : ℕ) (p : Place) (t : ℕ) (s : Table) → is_line_due (At (Lock m) p) t s ≡ false
    → go_outcome (At (Lock m) p) t s ≡ line_of (Lock m) p t s
undue_lock_goes m p t s h =
    undue (Lock m) p t s h
    ∙ ap (λ (x : Seen). record (line_of (Lock m) p t s) { seen = x })
    (reported (timer_at s t).expired (line_of (Lock m) p t s).seen)
  where
    reported : (expired : Bool) (x : Seen) → reported_seen (Lock m) expired x ≡ x
    reported expired (Answered a) = refl
    reported expired x = refl

pub queued_goes : (m t : ℕ) (s : Table) → is_line_due (At (Lock m) StayQueued) t s ≡ false
    → go_outcome (At (Lock m) StayQueued) t s ≡ lock_queued (Lock m) t m s
unfolding line_of locking_line
queued_goes m t s h = undue_lock_goes m StayQueued t s h

pub stopped_goes : (m t : ℕ) (s : Table) → is_line_due (At (Lock m) StayStopped) t s ≡ false
    → go_outcome (At (Lock m) StayStopped) t s ≡ record { seen = Waits; after = s }
unfolding line_of locking_line
stopped_goes m t s h = undue_lock_goes m StayStopped t s h

-- and that of an unlock, a trylock, a consistent and a setprio is its line
pub unlock_goes : (m : ℕ) (p : Place) (t : ℕ) (s : Table) → go_outcome (At (Unlock m) p) t s ≡ line_of (Unlock m) p t s
unlock_goes m p t s = goes_by_line (Unlock m) p t s refl (λ expired a. refl)

pub try_lock_goes : (m : ℕ) (p : Place) (t : ℕ) (s : Table)
    → go_outcome (At (TryLock m) p) t s ≡ line_of (TryLock m) p t s
try_lock_goes m p t s = goes_by_line (TryLock m) p t s refl (λ expired a. refl)

pub consistent_goes : (m : ℕ) (p : Place) (t : ℕ) (s : Table)
    → go_outcome (At (Consistent m) p) t s ≡ line_of (Consistent m) p t s
consistent_goes m p t s = goes_by_line (Consistent m) p t s refl (λ expired a. refl)

pub set_prio_goes : (u n : ℕ) (p : Place) (t : ℕ) (s : Table)
    → go_outcome (At (SetPrio u n) p) t s ≡ line_of (SetPrio u n) p t s
set_prio_goes u n p t s = goes_by_line (SetPrio u n) p t s refl (λ expired a. refl)
