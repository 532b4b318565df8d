-- One step of the table machine as one entry of the POSIX machine: what every line has to show.
use Rattle.std.proofs.Common.{◌≡◌, ℕ, ◌<◌, Bool, true, false, length, Some, None, refl, sym, ap, ap₂, ◌==◌, ◌∙◌, subst, if◌then◌else◌, true≢false}
use Rattle.pif_types.specs.declared.requests.Request.{Request}
use Rattle.pif_types.specs.declared.requests.Request.TheVariants.{Lock, Wait}
use Rattle.pif_model.specs.declared.events.Event.TheVariants.{Go}
use Rattle.pif_model.specs.declared.events.Seen.{Seen}
use Rattle.pif_model.specs.declared.events.Seen.TheVariants.{Went, Waits, Answered}
use Rattle.pif_model.specs.declared.events.Entry.{Entry}
use Rattle.pif_model.specs.declared.events.Entry.TheVariants.{Step as Happened}
use Rattle.pif_model.specs.declared.lines.Line.{Line}
use Rattle.pif_model.specs.declared.lines.Line.TheVariants.{Idle, At}
use Rattle.pif_model.specs.declared.lines.Place.{Place}
use Rattle.pif_model.specs.declared.lines.Place.TheVariants.{Exchange, CallKernel, StayQueued, Stop, StayStopped, Take, Give, Park, StayParked, Wake}
use Rattle.pif_model.specs.declared.lines.TakeStep.{TakeStep}
use Rattle.pif_model.specs.declared.lines.TakeStep.TheVariants.{LoadWord, LoadHealth, StoreInconsistent, ClearDied}
use Rattle.pif_model.specs.declared.lines.Purpose.{Purpose}
use Rattle.pif_model.specs.declared.lines.Purpose.TheVariants.{ToUnlock, ToPark, ToLeave}
use Rattle.pif_model.specs.declared.lines.WakeStep.{WakeStep}
use Rattle.pif_model.specs.declared.lines.WakeStep.TheVariants.{ReadUses, CountUse, Requeue, ReadAgain}
use Rattle.pif_model.specs.declared.lines.Status.{Status}
use Rattle.pif_model.specs.declared.lines.Status.TheVariants.{Ready, Queued, Parked, Stopped, Ended}
use Rattle.pif_model.specs.declared.lines.Woken.TheVariants.{Fresh as WokenFresh, Owns as WokenOwns, Again as WokenAgain, Expired as WokenExpired}
use Rattle.pif_model.specs.Refusals.{go_refused}
use Rattle.pif_model.specs.Deadlines.{reported_result, reported_seen}
use Rattle.pif_model.specs.Posix.{Health, Progress, World, Step, Effects, is_due, thread_at, refusal_of, named_by, variable_of, names_known, with_call_by, without_call, after_waits, on_taking, on_release, rests, sleeps, is_idle}
use Rattle.pif_model.specs.World.Progress.{Has}
use Rattle.pif_model.specs.Posix.Moves.{acts}
use Rattle.pif_model.specs.Posix.Step.{went, waits, answered}
use Rattle.pif_model.specs.PiKernel.{is_ready, is_living}
use Rattle.pif_model.specs.Table.{Table, Cell, cell_at, has_mutex, has_cond, uses_of, status_at, line_at, timer_at}
use Rattle.pif_model.specs.Lines.{Outcome, is_open, is_due_in}
use Rattle.pif_model.specs.Projection.{HistoryVariables, Agrees, before_lock, progress_taking, progress_giving, progress_waking, call_at, call_shown, progress_at, health_at, world_of}
use Rattle.pif_model.specs.Soundness.{Need, Use, use_at, MeetsAll, needs, CallIsSound, LineIsSound, IsSound}
use Rattle.pif_model_lemmas.proofs.Waiting.{by_test, names, named-from_pair}
use Rattle.pif_model_lemmas.proofs.kernel.Facts.{unnamed-from_ready, living-added}
use Rattle.pif_model_lemmas.proofs.Numbers.{below}
use Rattle.pif_model_simulation.proofs.Facts.{Known, is_ready_need, is_stopped_need, is_unstopped_need, is_own_need, is_other_need, is_own_ready_need, is_own_handed_need, is_once_need, is_stop_need, is_robust_need, is_health_need, is_died_need, is_behind_need, is_bound_need, is_used_need, is_below_need, call_ready, call_stopped, call_unstopped, call_own, call_other, call_own_ready, call_own_handed, call_once, call_stop, call_robust, call_health, call_died, call_behind, call_bound, call_used, call_limited}
use Rattle.pif_model_simulation.proofs.WeakenedInvariant.{each_thread}
use Rattle.pif_model_simulation.proofs.Shown.{threads_shown, call_seen, call_seen_of, timer_seen, refusal_seen, recalled_same}
use Rattle.pif_model_simulation.proofs.deadlines.Due.{due_seen}
use Rattle.pif_model_simulation.proofs.Agreement.{Frames, framed}

-- v follows s by this entry: it is sound, both have the same limits, and what they show, with history variables that
-- agree with s and a next one that agrees with v, is a step of the POSIX machine
pub record Keeps (s : Table) (e : Entry) (v : Table) : Type 0 where
  pub sound : IsSound v
  pub limits : v.limits ≡ s.limits
  pub shows : (x : HistoryVariables) → Agrees s x → (y : HistoryVariables) × Agrees v y × Step s.limits (world_of s x) e (world_of v y)

-- the request of the call at a line; a lock if none is open, which never comes
abbrev pub asked_at : Line → Request
asked_at Idle = Lock 0
asked_at (At q p) = q

-- a step of t whose call is not due, and which shows this by its line, follows s with v: what is seen of it is told
abbrev pub KeepsGo : Table → ℕ → Seen → Table → Type 0
KeepsGo s t seen v = is_due_in s t ≡ false
    → Keeps s (Happened (Go t) (reported_seen (asked_at (line_at s t)) (timer_at s t).expired seen)) v

-- what such a step answers and leaves follows s
abbrev pub GoKeeps : Table → ℕ → Outcome → Type 0
GoKeeps s t o = KeepsGo s t o.seen o.after

-- how far the call q of t has come at a place
abbrev pub progress_of : Table → ℕ → Request → Place → Progress
progress_of s t q p = progress_at q p (status_at s t) (health_at s (named_by q)) (uses_of s (variable_of q))

-- WHO RESTS

-- whether a thread of this status is parked or stopped, or has ended
abbrev is_still : Status → Bool
is_still (Ready w) = false
is_still (Queued m) = false
is_still (Parked c) = true
is_still Stopped = true
is_still Ended = true

-- who may run is not
ready_not_still : (x : Status) → is_ready x ≡ true → is_still x ≡ false
ready_not_still (Ready w) e = refl
ready_not_still (Queued m) e = refl
ready_not_still (Parked c) e = absurd (true≢false (sym e))
ready_not_still Stopped e = absurd (true≢false (sym e))
ready_not_still Ended e = absurd (true≢false (sym e))

-- a call that is taking doesn't sleep
taking_awake : (y : Health) → is_idle (on_taking y) ≡ false
taking_awake Health.Fine = refl
taking_awake Health.Inconsistent = refl
taking_awake Health.Unusable = refl

-- nor one that is to lock
locking_awake : (q : Request) → is_idle (before_lock q) ≡ false
locking_awake (Wait c m) = refl
locking_awake _ = refl

-- nor a wait that has given its mutex up, and was not answered since
released_awake : (b : Bool) → is_idle (on_release b) ≡ false
released_awake true = refl
released_awake false = refl

-- nor one that takes over, gives a mutex up, or wakes others
step_awake : (y : TakeStep) (h : Health) → is_idle (progress_taking y h) ≡ false
step_awake LoadWord h = taking_awake h
step_awake (LoadHealth d) h = taking_awake h
step_awake StoreInconsistent h = refl
step_awake ClearDied h = refl

giving_awake : (y : Purpose) (n : ℕ) → is_idle (progress_giving y n) ≡ false
giving_awake ToUnlock n = refl
giving_awake (ToPark v) n = refl
giving_awake ToLeave n = refl

waking_awake : (y : WakeStep) → is_idle (progress_waking y) ≡ false
waking_awake ReadUses = refl
waking_awake (CountUse v) = refl
waking_awake (Requeue v) = refl
waking_awake ReadAgain = refl

-- an open call sleeps if its thread is parked or stopped
place_sleeps : (l : ℕ → Bool) (t : ℕ) (q : Request) (x : Status) (c : Cell) (z : Use) (p : Place) (h : Health) (n : ℕ)
    → MeetsAll l t x c z (needs p) → is_idle (progress_at q p x h n) ≡ is_still x
place_sleeps l t q x c z Exchange h n k = locking_awake q ∙ sym (ready_not_still x k.0)
place_sleeps l t q x c z CallKernel h n k = locking_awake q ∙ sym (ready_not_still x k.0)
place_sleeps l t q x c z Stop h n k = locking_awake q ∙ sym (ready_not_still x k.0)
place_sleeps l t q (Ready w) c z StayQueued h n k = taking_awake h
place_sleeps l t q (Queued m) c z StayQueued h n k = refl
place_sleeps l t q (Parked i) c z StayQueued h n k = refl
place_sleeps l t q Stopped c z StayQueued h n k = refl
place_sleeps l t q Ended c z StayQueued h n k = refl
place_sleeps l t q x c z StayStopped h n k = ap is_still (sym k.0)
place_sleeps l t q x c z (Take y) h n k = step_awake y h ∙ sym (ready_not_still x k.0)
place_sleeps l t q x c z (Give y a) h n k = giving_awake a n ∙ sym (ready_not_still x k.0)
place_sleeps l t q x c z (Park v) h n k = released_awake (v == n) ∙ sym (ready_not_still x k.0)
place_sleeps l t q (Ready WokenFresh) c z StayParked h n k = taking_awake h
place_sleeps l t q (Ready WokenOwns) c z StayParked h n k = taking_awake h
place_sleeps l t q (Ready WokenAgain) c z StayParked h n k = refl
place_sleeps l t q (Ready WokenExpired) c z StayParked h n k = taking_awake h
place_sleeps l t q (Queued m) c z StayParked h n k = refl
place_sleeps l t q (Parked i) c z StayParked h n k = refl
place_sleeps l t q Stopped c z StayParked h n k = refl
place_sleeps l t q Ended c z StayParked h n k = refl
place_sleeps l t q x c z (Wake y) h n k = waking_awake y ∙ sym (ready_not_still x k.0)
place_sleeps l t q x c z _ h n k = sym (ready_not_still x k.0)

-- a call sleeps if its thread is parked or stopped
pub line_sleeps : (s : Table) (t : ℕ) (l : Line) → LineIsSound s t l
    → sleeps (call_at (health_at s) (uses_of s) l (status_at s t)) ≡ is_still (status_at s t)
line_sleeps s t Idle h = sym (ready_not_still (status_at s t) h)
line_sleeps s t (At q p) h = place_sleeps (is_living s.kernel) t q (status_at s t) (cell_at s (named_by q)) (use_at s q)
    p (health_at s (named_by q)) (uses_of s (variable_of q)) h.needs

-- a call whose thread may not run has been noted, if it is blocked
place_noted : (l : ℕ → Bool) (t : ℕ) (q : Request) (x : Status) (c : Cell) (z : Use) (p : Place) (h : Health) (n : ℕ)
    → MeetsAll l t x c z (needs p) → is_ready x ≡ false
    → after_waits (Some (record { request = q; progress = progress_at q p x h n }))
    ≡ Some (record { request = q; progress = progress_at q p x h n })
place_noted l t q (Ready w) c z p h n k e = absurd (true≢false e)
place_noted l t q (Queued m) c z StayQueued h n k e = refl
place_noted l t q (Parked i) c z StayQueued h n k e = refl
place_noted l t q Stopped c z StayQueued h n k e = refl
place_noted l t q Ended c z StayQueued h n k e = refl
place_noted l t q x c z StayStopped h n k e = refl
place_noted l t q (Queued m) c z StayParked h n k e = refl
place_noted l t q (Parked i) c z StayParked h n k e = refl
place_noted l t q Stopped c z StayParked h n k e = refl
place_noted l t q Ended c z StayParked h n k e = refl
place_noted l t q x c z _ h n k e = absurd (true≢false (sym k.0 ∙ e))

line_noted : (s : Table) (t : ℕ) (l : Line) → LineIsSound s t l → is_ready (status_at s t) ≡ false
    → after_waits (call_at (health_at s) (uses_of s) l (status_at s t)) ≡ call_at (health_at s) (uses_of s) l (status_at s t)
line_noted s t Idle h e = absurd (true≢false (sym h ∙ e))
line_noted s t (At q p) h e = place_noted (is_living s.kernel) t q (status_at s t) (cell_at s (named_by q)) (use_at s q)
    p (health_at s (named_by q)) (uses_of s (variable_of q)) h.needs e

-- whether t rests, by its line and its status
rests_seen : {s : Table} (h : IsSound s) (x : HistoryVariables) (t : ℕ)
    → rests (world_of s x) t ≡ (if sleeps (call_shown s t) then true else names
    t s.kernel.waiters)
rests_seen {s} h x t = ap (λ c. if sleeps c then true else names t s.kernel.waiters)
    (call_seen h.all.shape x t (line_at s t) refl)

-- a thread that may run doesn't rest
pub rests_ready : {s : Table} (h : IsSound s) (x : HistoryVariables) (t : ℕ) → is_living s.kernel t ≡ true
    → is_ready (status_at s t) ≡ true → rests (world_of s x) t ≡ false
rests_ready {s} h x t k e = rests_seen h x t ∙ ap₂ (λ a b. if a then true else b)
    (line_sleeps s t (line_at s t) (each_thread h t k).line ∙ ready_not_still (status_at s t) e)
    (unnamed-from_ready s.kernel h.kernel t e)

-- a thread that may not run rests
pub rests_not_ready : {s : Table} (h : IsSound s) (x : HistoryVariables) (t : ℕ) → is_living s.kernel t ≡ true
    → is_ready (status_at s t) ≡ false → rests (world_of s x) t ≡ true
rests_not_ready {s} h x t k e = rests_seen h x t ∙ go (status_at s t) refl
  where
    go : (y : Status) → status_at s t ≡ y → (if sleeps
        (call_shown s t) then true else names t s.kernel.waiters) ≡ true
    go (Ready w) q = absurd (true≢false (sym (ap is_ready q) ∙ e))
    go (Parked c) q = ap (λ b. if b then true else names t s.kernel.waiters)
        (line_sleeps s t (line_at s t) (each_thread h t k).line ∙ ap is_still q)
    go Stopped q = ap (λ b. if b then true else names t s.kernel.waiters)
        (line_sleeps s t (line_at s t) (each_thread h t k).line ∙ ap is_still q)
    go Ended q = ap (λ b. if b then true else names t s.kernel.waiters)
        (line_sleeps s t (line_at s t) (each_thread h t k).line ∙ ap is_still q)
    go (Queued m) q = by_test (λ b. (if b then true else names t s.kernel.waiters) ≡ true)
        (sleeps (call_shown s t))
        (λ _. refl) (λ _. named-from_pair s.kernel.waiters t m (h.kernel.queued t m q))

-- A STEP OF AN OPEN CALL

-- t's call is open at this place
pub record Going (s : Table) (t : ℕ) (q : Request) (p : Place) : Type 0 where
  pub sound : IsSound s
  pub known : is_living s.kernel t ≡ true
  pub line : line_at s t ≡ At q p

module _ {s : Table} {t : ℕ} {q : Request} {p : Place} (g : Going s t q p) where
  -- what t knows at this place
  pub going_knows : CallIsSound s t q p
  going_knows = subst (LineIsSound s t) g.line (each_thread g.sound t g.known).line

  -- the mutex that the call names exists
  pub going_named : names_known (has_mutex s) (has_cond s) q ≡ true
  going_named = going_knows.named

  -- what the call rests on is met
  pub going_met : MeetsAll (is_living s.kernel) t (status_at s t) (cell_at s (named_by q)) (use_at s q) (needs p)
  going_met = going_knows.needs

  -- and each of it by its name
  abbrev pub KnownHere : (Need → Bool) → Type 0
  KnownHere test = Known test s t q p

  -- t may run
  pub going_ready : KnownHere is_ready_need
  going_ready = call_ready going_knows

  -- t has stopped for good
  pub going_stopped : KnownHere is_stopped_need
  going_stopped = call_stopped going_knows

  -- t has not stopped, nor ended
  pub going_unstopped : KnownHere is_unstopped_need
  going_unstopped = call_unstopped going_knows

  -- t owns the mutex
  pub going_own : KnownHere is_own_need
  going_own = call_own going_knows

  -- t doesn't own the mutex
  pub going_other : KnownHere is_other_need
  going_other = call_other going_knows

  -- t owns the mutex once it may run
  pub going_own_ready : KnownHere is_own_ready_need
  going_own_ready = call_own_ready going_knows

  -- t owns the mutex exactly if it was handed over
  pub going_own_handed : KnownHere is_own_handed_need
  going_own_handed = call_own_handed going_knows

  -- t holds the mutex once
  pub going_once : KnownHere is_once_need
  going_once = call_once going_knows

  -- t may stop for good
  pub going_stop : KnownHere is_stop_need
  going_stop = call_stop going_knows

  -- the mutex is robust
  pub going_robust : KnownHere is_robust_need
  going_robust = call_robust going_knows

  -- what the health word is, or is not
  pub going_health : KnownHere is_health_need
  going_health = call_health going_knows

  -- whether OWNER_DIED is set
  pub going_died : KnownHere is_died_need
  going_died = call_died going_knows

  -- the health word says that the mutex is inconsistent only if OWNER_DIED is set
  pub going_behind : KnownHere is_behind_need
  going_behind = call_behind going_knows

  -- the variable is bound to the mutex
  pub going_bound : KnownHere is_bound_need
  going_bound = call_bound going_knows

  -- the variable was used so often
  pub going_used : KnownHere is_used_need
  going_used = call_used going_knows

  -- that is less often than it may be
  pub going_limited : KnownHere is_below_need
  going_limited = call_limited going_knows

  -- the step is not refused
  pub going_allowed : (x : HistoryVariables) → refusal_of (world_of s x) (Go t) ≡ None
  going_allowed x = refusal_seen g.sound.all.shape x (Go t)
      ∙ (λ i. go_refused (living-added s.kernel t g.known i) (g.known i) (ap is_open g.line i))

  -- the world has t's call open
  pub going_called : (x : HistoryVariables) → (thread_at (world_of s x) t).call ≡ Some
      (record { request = q; progress = progress_of s t q p })
  going_called x = call_seen g.sound.all.shape x t (At q p) g.line

  -- t has a line
  pub going_lined : t < length s.lines
  going_lined = subst (λ n. t < n) (sym g.sound.all.shape.lines)
      (below t (length s.kernel.seats) (living-added s.kernel t g.known))

  -- the world has a thread t
  pub going_below : (x : HistoryVariables) → t < length (world_of s x).threads
  going_below x = subst (λ n. t < n) (sym (threads_shown g.sound.all.shape x)) going_lined

  -- a call that is not due at its line is not due in the world
  pub going_undue : is_due_in s t ≡ false → (x : HistoryVariables) → is_due (world_of s x) t ≡ false
  going_undue e x = due_seen g.sound x t g.known ∙ e

  -- what a result is told as
  pub going_told : (x : HistoryVariables) (a : ℕ)
      → reported_result (asked_at (line_at s t)) (timer_at s t).expired a ≡ reported_result q (thread_at (world_of s x) t).timer.expired a
  going_told x a = λ i. reported_result (asked_at (g.line i)) (sym (timer_seen g.sound.all.shape x t) i).expired a

  -- the step follows with these effects, after which t may run
  pub goes_with : (v : Table) → IsSound v → v.limits ≡ s.limits → is_living v.kernel t ≡ true
      → is_ready (status_at v t) ≡ true → Frames s v
      → ((x : HistoryVariables) → Effects t (world_of s x) (world_of s x) (world_of v x)) → KeepsGo s t Went v
  goes_with v sound limits known ready frames effects undue = record {
    sound = sound;
    limits = limits;
    shows = λ x a. (
      x,
      framed frames x a,
      went t refl (record { allowed = going_allowed x; moves = acts (going_undue undue x) (effects x) })
          (rests_ready sound x t known ready),
    );
  }

  -- the step follows with these effects, after which t rests, and is noted if it is blocked
  pub waits_noted : (v : Table) (u : HistoryVariables → World) → IsSound v → v.limits ≡ s.limits → is_living v.kernel t ≡ true
      → is_ready (status_at v t) ≡ false → Frames s v
      → ((x : HistoryVariables) → Effects t (world_of s x) (world_of s x) (u x))
      → ((x : HistoryVariables) → world_of v x ≡ with_call_by t after_waits (u x)) → KeepsGo s t Waits v
  waits_noted v u sound limits known ready frames effects shown undue = record {
    sound = sound;
    limits = limits;
    shows = λ x a. (
      x,
      framed frames x a,
      waits t (u x) refl (record { allowed = going_allowed x; moves = acts (going_undue undue x) (effects x) }) (shown x)
          (rests_not_ready sound x t known ready),
    );
  }

  -- the step follows with these effects, after which t rests
  pub waits_with : (v : Table) → IsSound v → v.limits ≡ s.limits → is_living v.kernel t ≡ true
      → is_ready (status_at v t) ≡ false → Frames s v
      → ((x : HistoryVariables) → Effects t (world_of s x) (world_of s x) (world_of v x)) → KeepsGo s t Waits v
  waits_with v sound limits known ready frames effects =
      waits_noted v (world_of v) sound limits known ready frames effects (λ x.
      recalled_same (world_of v x) t after_waits (ap after_waits (call_seen_of sound.all.shape x t)
      ∙ line_noted v t (line_at v t) (each_thread sound t known).line ready ∙ sym (call_seen_of sound.all.shape x t)))

  -- the step follows with these effects, after which the call has this result and closes
  pub answers_with : (v : Table) (a : ℕ) (u : HistoryVariables → World) → IsSound v → v.limits ≡ s.limits
      → is_living v.kernel t ≡ true → is_ready (status_at v t) ≡ true → Frames s v
      → ((x : HistoryVariables) → Effects t (world_of s x) (world_of s x) (u x))
      → ((x : HistoryVariables) → (thread_at (u x) t).call ≡ Some (record { request = q; progress = Has a }))
      → ((x : HistoryVariables) → world_of v x ≡ with_call_by t without_call (u x)) → KeepsGo s t (Answered a) v
  answers_with v a u sound limits known ready frames effects call shown undue = record {
    sound = sound;
    limits = limits;
    shows = λ x b. (
      x,
      framed frames x b,
      answered t a q (u x) (ap (λ n. Happened (Go t) (Answered n)) (going_told x a))
          (record { allowed = going_allowed x; moves = acts (going_undue undue x) (effects x) }) (call x) (shown x)
          (rests_ready sound x t known ready),
    );
  }
