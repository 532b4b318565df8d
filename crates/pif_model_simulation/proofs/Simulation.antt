-- Each step of the table machine is one entry of the POSIX machine, and keeps the invariant.
use Rattle.std.proofs.Common.{◌≡◌, ℕ, true, Option, Some, None, refl, sym, ◌∙◌, Bool, false, ap, subst, if◌then◌else◌}
use Rattle.std.proofs.lemmas.Bool.{true≢false}
use Rattle.pif_types.specs.declared.errors.Refusal.{Refusal}
use Rattle.pif_types.specs.declared.requests.Request.{Request}
use Rattle.pif_types.specs.declared.requests.Request.TheVariants.{Lock, TryLock, Unlock, Consistent, Wait, Signal, Broadcast, SetPrio}
use Rattle.pif_model.specs.declared.events.Event.{Event}
use Rattle.pif_model.specs.declared.events.Event.TheVariants.{Begin, Go, End, Tick}
use Rattle.pif_model.specs.declared.events.Entry.TheVariants.{Step as Happened}
use Rattle.pif_model.specs.declared.lines.Line.{Line}
use Rattle.pif_model.specs.declared.lines.Line.TheVariants.{Idle, At}
use Rattle.pif_model.specs.declared.lines.Place.{Place}
use Rattle.pif_model.specs.declared.lines.Place.TheVariants.{Load, NamePending, Exchange, CallKernel, StayQueued, Stop, StayStopped, Take, Link, Give, Clear, LoadUses, Park, StayParked, Repair, Wake, SetPriority}
use Rattle.pif_model.specs.declared.lines.Purpose.TheVariants.{ToUnlock, ToPark, ToLeave}
use Rattle.pif_model.specs.declared.lines.RepairStep.TheVariants.{CheckHealth, StoreFine}
use Rattle.pif_model.specs.declared.lines.WakeStep.{WakeStep}
use Rattle.pif_model.specs.declared.lines.WakeStep.TheVariants.{ReadUses, CountUse, Requeue, ReadAgain}
use Rattle.pif_model.specs.Posix.{named_by, variable_of, is_use}
use Rattle.pif_model.specs.Posix.Step.{refused, ticked}
use Rattle.pif_model.specs.PiKernel.{is_living}
use Rattle.pif_model.specs.Table.{Table, has_thread, has_mutex, has_cond, line_at, status_at, timer_at}
use Rattle.pif_model.specs.Lines.{is_open, table_refusal, repair_line, giving_line, shared_line, locking_line, use_line, line_of, go_outcome, accepted_outcome, by_refusal, event_outcome, Outcome, counts_at, is_line_due, is_due_in, expires_at, reported_outcome}
use Rattle.pif_model.specs.Soundness.{belongs, is_shared, is_locking, IsSound}
use Rattle.pif_model.specs.Deadlines.{is_reached, reported_seen}
use Rattle.pif_model_simulation.proofs.Named.{second}
use Rattle.pif_model_simulation.proofs.Shown.{go_allowed, end_allowed, refusal_seen}
use Rattle.pif_model_simulation.proofs.Steps.{Keeps, GoKeeps, Going, going_knows, going_named, asked_at}
use Rattle.pif_model_simulation.proofs.Does.{IsLocking, MayQueue, locking}
use Rattle.pif_model_simulation.proofs.Does.MayQueue.{in_lock, in_wait}
use Rattle.pif_model_simulation.proofs.Does.IsLocking.{by_try_lock}
use Rattle.pif_model_simulation.proofs.ends.EndLine.{end_kept}
use Rattle.pif_model_simulation.proofs.Begun.{begin_kept}
use Rattle.pif_model_simulation.proofs.mutexes.LockLines.{lock_load_kept, lock_name_pending_kept, exchange_kept, lock_queued_kept, stay_stopped_kept, leave_gives_kept}
use Rattle.pif_model_simulation.proofs.mutexes.TakingOver.{take_kept, link_kept, clear_kept}
use Rattle.pif_model_simulation.proofs.mutexes.LockCalls.{lock_kernel_kept, lock_stop_kept}
use Rattle.pif_model_simulation.proofs.conditions.WaitLines.{wait_load_kept, wait_uses_kept}
use Rattle.pif_model_simulation.proofs.conditions.WaitGivingUp.{wait_gives_kept}
use Rattle.pif_model_simulation.proofs.conditions.WaitParking.{wait_park_kept, wait_parked_kept}
use Rattle.pif_model_simulation.proofs.conditions.UseLines.{use_load_kept, use_reload_kept}
use Rattle.pif_model_simulation.proofs.conditions.UseCounting.{use_exchange_kept}
use Rattle.pif_model_simulation.proofs.conditions.Requeueing.{use_requeue_kept}
use Rattle.pif_model_simulation.proofs.SetPriorityLine.{set_priority_kept}
use Rattle.pif_model_simulation.proofs.mutexes.TryLines.{try_load_kept, try_name_pending_kept, try_kernel_kept}
use Rattle.pif_model_simulation.proofs.mutexes.UnlockLines.{unlock_load_kept, unlock_gives_kept, consistent_load_kept, consistent_health_kept, consistent_store_kept}
use Rattle.pif_model_lemmas.proofs.Waiting.{by_test}
use Rattle.pif_model_simulation.proofs.deadlines.Timers.{retimed_sound, retimed_frames}
use Rattle.pif_model_simulation.proofs.Agreement.{framed}
use Rattle.pif_model_simulation.proofs.deadlines.Expiring.{due_kept}

-- A CALL GOES ON

-- a step that all calls share which lock
shared_kept : (s : Table) (t : ℕ) (q : Request) (p : Place) → Going s t q p → has_mutex s (named_by q) ≡ true
    → IsLocking (named_by q) q → is_shared p ≡ true → GoKeeps s t (shared_line q p t (named_by q) s)
unfolding shared_line giving_line
shared_kept s t q Exchange g k l b = exchange_kept s t q k l g
shared_kept s t q (Take x) g k l b = take_kept s t q k l x g
shared_kept s t q (Link x a) g k l b = link_kept s t q k l x a g
shared_kept s t q (Give x ToLeave) g k l b = leave_gives_kept s t q k l x b g
shared_kept s t q (Clear f a) g k l b = clear_kept s t q k f a g
shared_kept s t q _ g k l b = absurd (true≢false (sym b))

-- a step of a request that may queue, from the exchange on
locking_kept : (s : Table) (t : ℕ) (q : Request) (p : Place) → Going s t q p → has_mutex s (named_by q) ≡ true
    → MayQueue (named_by q) q → is_locking p ≡ true
    → GoKeeps s t (locking_line q p t (named_by q) s)
unfolding locking_line
locking_kept s t q CallKernel g k l b = lock_kernel_kept s t q k l g
locking_kept s t q StayQueued g k l b = lock_queued_kept s t q k l g
locking_kept s t q Stop g k l b = lock_stop_kept s t q k l g
locking_kept s t q StayStopped g k l b = stay_stopped_kept s t q k l g
locking_kept s t q p g k l b = shared_kept s t q p g k (locking l) b

-- a step of a signal or a broadcast
use_kept : (s : Table) (t : ℕ) (q : Request) (x : WakeStep) → Going s t q (Wake x) → is_use q ≡ true
    → GoKeeps s t (use_line q x (variable_of q) t s)
unfolding use_line
use_kept s t q ReadUses g u = use_load_kept s t q u g
use_kept s t q (CountUse n) g u = use_exchange_kept s t q n u g
use_kept s t q (Requeue n) g u = use_requeue_kept s t q n u g
use_kept s t q ReadAgain g u = use_reload_kept s t q u g

-- a step of a call; a place of another request never comes
call_kept : (s : Table) (t : ℕ) (q : Request) (p : Place) → Going s t q p → belongs q p ≡ true
    → GoKeeps s t (line_of q p t s)
unfolding line_of giving_line locking_line shared_line repair_line
call_kept s t (Lock m) Load g b = lock_load_kept g
call_kept s t (Lock m) NamePending g b = lock_name_pending_kept g
call_kept s t (Lock m) p g b = locking_kept s t (Lock m) p g (going_named g) (in_lock refl) b
call_kept s t (TryLock m) Load g b = try_load_kept s t m g
call_kept s t (TryLock m) NamePending g b = try_name_pending_kept s t m g
call_kept s t (TryLock m) CallKernel g b = try_kernel_kept s t m g
call_kept s t (TryLock m) p g b = shared_kept s t (TryLock m) p g (going_named g) (by_try_lock refl) b
call_kept s t (Unlock m) Load g b = unlock_load_kept s t m g
call_kept s t (Unlock m) (Give x ToUnlock) g b = unlock_gives_kept s t m x g
call_kept s t (Unlock m) (Clear f a) g b = clear_kept s t (Unlock m) (going_named g) f a g
call_kept s t (Consistent m) Load g b = consistent_load_kept s t m g
call_kept s t (Consistent m) (Repair CheckHealth) g b = consistent_health_kept s t m g
call_kept s t (Consistent m) (Repair StoreFine) g b = consistent_store_kept s t m g
call_kept s t (Wait c m) Load g b = wait_load_kept s t c m g
call_kept s t (Wait c m) LoadUses g b = wait_uses_kept s t c m g
call_kept s t (Wait c m) (Give x (ToPark v)) g b = wait_gives_kept s t c m v x g
call_kept s t (Wait c m) (Park v) g b = wait_park_kept s t c m v g
call_kept s t (Wait c m) StayParked g b = wait_parked_kept s t c m g
call_kept s t (Wait c m) p g b =
    locking_kept s t (Wait c m) p g (second (has_cond s c) (has_mutex s m) (going_named g)) (in_wait c refl) b
call_kept s t (Signal c) (Wake x) g b = use_kept s t (Signal c) x g refl
call_kept s t (Broadcast c) (Wake x) g b = use_kept s t (Broadcast c) x g refl
call_kept s t (SetPrio u p) SetPriority g b = set_priority_kept s t u p g
call_kept s t _ _ g b = absurd (true≢false (sym b))

-- a step of what is open at a line
go_kept : (s : Table) (t : ℕ) (l : Line) → IsSound s → is_living s.kernel t ≡ true → line_at s t ≡ l
    → is_open l ≡ true → Keeps s (Happened (Go t) (go_outcome l t s).seen) (go_outcome l t s).after
unfolding go_outcome
go_kept s t Idle h k e o = absurd (true≢false (sym o))
go_kept s t (At q p) h k e o = by_test
    (λ b. is_line_due (At q p) t s ≡ b → Keeps s (Happened (Go t) (if b then expires_at q p t s else told).seen)
    (if b then expires_at q p t s else told).after)
    (is_line_due (At q p) t s)
    (λ d _. due_kept q p g (at_line ∙ d) (counted d))
    (λ d _. subst (λ l. Keeps s (Happened (Go t) (reported_seen (asked_at l) (timer_at s t).expired (line_of q p t s).seen))
    (line_of q p t s).after) e (call_kept s t q p g (going_knows g).belongs (at_line ∙ d)))
    refl
  where
    g : Going s t q p
    g = record { sound = h; known = k; line = e }

    told : Outcome
    told = reported_outcome q (timer_at s t).expired (line_of q p t s)

    -- the line is t's
    at_line : is_due_in s t ≡ is_line_due (At q p) t s
    at_line = ap (λ l. is_line_due l t s) e

    -- if it is due, its deadline counts
    counted : is_line_due (At q p) t s ≡ true → counts_at q p (status_at s t) ≡ true
    counted = go (is_reached (timer_at s t).deadline s.time)
      where
        go : (b : Bool) → (if b then counts_at q p (status_at s t) else false) ≡ true
            → counts_at q p (status_at s t) ≡ true
        go true d = d
        go false d = absurd (true≢false (sym d))

-- ANY EVENT

-- an event that is not refused
accepted_kept : (s : Table) (e : Event) → IsSound s → table_refusal s e ≡ None
    → Keeps s (Happened e (accepted_outcome e s).seen) (accepted_outcome e s).after
unfolding accepted_outcome
accepted_kept s (Begin t q) h r = begin_kept s t q h r
accepted_kept s (Go t) h r =
    let a = go_allowed (has_thread s t) (is_living s.kernel t) (is_open (line_at s t)) r in
    go_kept s t (line_at s t) h a.0 refl a.1
accepted_kept s (Tick n) h r = record {
  sound = retimed_sound s s.timers n refl h;
  limits = refl;
  shows = λ x a. (x, framed (retimed_frames s s.timers n refl) x a, ticked n refl (refusal_seen h.all.shape x (Tick n) ∙ r) refl);
}
accepted_kept s (End t) h r = end_kept s t h (end_allowed (has_thread s t) (is_living s.kernel t) r) r

-- an event by its refusal
refusal_kept : (s : Table) (e : Event) (r : Option Refusal) → IsSound s → table_refusal s e ≡ r
    → Keeps s (Happened e (by_refusal r e s).seen) (by_refusal r e s).after
refusal_kept s e None h k = accepted_kept s e h k
refusal_kept s e (Some r) h k = record {
  sound = h;
  limits = refl;
  shows = λ x a.
      (x, a, refused e r refl (refusal_seen h.all.shape x e ∙ k) refl);
}

-- every event follows the state before it
pub event_kept : (s : Table) (e : Event) → IsSound s → Keeps s (Happened e (event_outcome e s).seen)
    (event_outcome e s).after
unfolding event_outcome
event_kept s e h = refusal_kept s e (table_refusal s e) h refl
