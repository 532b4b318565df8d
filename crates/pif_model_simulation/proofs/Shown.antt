-- What the POSIX machine sees of a table, place by place: its threads and mutexes, and its refusals.
use Rattle.std.proofs.Common.{◌≡◌, ℕ, zero, suc, ◌<◌, ◌≤◌, Bool, true, false, ◌==◌, nat_lt, List, [], ◌∷◌, ◌++◌, length, get_or, map, Option, Some, None, is_some, refl, sym, ap, ◌∙◌, subst, arith, if◌then◌else◌, ◌⊎◌, inl, inr, le-ltb}
use Rattle.std.proofs.lemmas.Bool.{cases_lt}
use Rattle.std.proofs.lemmas.List.{length-map, length_push, map-append, get_or_append_left, get_or_push, get_or_past, ext_get_or, get_or-set_same, set-set, set-get_or}
use Rattle.pif_types.specs.declared.requests.Request.{Request}
use Rattle.pif_model.specs.declared.events.Event.{Event}
use Rattle.pif_model.specs.declared.events.Event.TheVariants.{Begin, Go, End, Tick}
use Rattle.pif_model.specs.declared.lines.Line.{Line}
use Rattle.pif_model.specs.declared.lines.Line.TheVariants.{Idle, At}
use Rattle.pif_model.specs.Deadlines.{no_timer}
use Rattle.pif_model.specs.Refusals.{begin_refused, go_refused, end_refused}
use Rattle.pif_model.specs.Posix.{Progress, Call, Thread, World, nobody, no_mutex, no_variable, thread_at, mutex_at, variable_at, is_thread, is_mutex, is_variable, with_thread, with_progress, at_progress, with_call_by, refusal_of, names_known, is_living as lives}
use Rattle.pif_model.specs.PiKernel.{seat_at, is_living, has_ended}
use Rattle.pif_model.specs.Table.{Table, has_thread, has_mutex, has_cond, uses_of, status_at, line_at, timer_at}
use Rattle.pif_model.specs.Lines.{is_open, table_refusal}
use Rattle.pif_model.specs.Projection.{HistoryVariables, call_at, call_shown, health_at, thread_shown, mutex_shown, variable_shown, places, world_of}
use Rattle.pif_model.specs.Soundness.{IsShaped}

-- PLACES

-- there are as many places as they say
pub length-places : (n : ℕ) → length (places n) ≡ n
unfolding places
length-places zero = refl
length-places (suc n) = length_push (places n) n ∙ (let e = length-places n in omega (arith, e))

-- what stands at a place of a list that is made place by place
pub place_at : {A : Type 0} (f : ℕ → A) (n i : ℕ) (d : A) → i < n → get_or (map f (places n)) i d ≡ f i
unfolding places
place_at f zero i d h = absurd (omega arith)
place_at {A = A} f (suc n) i d h = ap (λ (l : List A). get_or l i d) (map-append f (places n) (n ∷ []))
    ∙ go (λ l. place_at f n i d l) (cases_lt i n)
  where
    long : length (map f (places n)) ≡ n
    long = length-map (places n) f ∙ length-places n

    go : (i < n → get_or (map f (places n)) i d ≡ f i) → (i < n) ⊎ (n ≤ i)
        → get_or (map f (places n) ++ f n ∷ []) i d ≡ f i
    go before (inl l) = get_or_append_left (map f (places n)) (f n ∷ []) d i (omega (arith, long)) ∙ before l
    go before (inr m) = let e : n ≡ i = omega arith in get_or_push (map f (places n)) (f n) d i (long ∙ e) ∙ ap f e

-- two worlds are one if they have the same threads and mutexes, place by place, and the same variables, waiters and
-- time
pub same_world : (v w : World) → length v.threads ≡ length w.threads
    → ((t : ℕ) → t < length v.threads → thread_at v t ≡ thread_at w t)
    → length v.mutexes ≡ length w.mutexes → ((m : ℕ) → mutex_at v m ≡ mutex_at w m) → v.variables ≡ w.variables
    → v.waiters ≡ w.waiters → v.signals ≡ w.signals → v.time ≡ w.time → v ≡ w
same_world v w a threads b mutexes variables c d e = λ i. record {
  threads = ext_get_or nobody v.threads w.threads a threads i;
  mutexes = ext_get_or no_mutex v.mutexes w.mutexes b (λ m k. mutexes m) i;
  variables = variables i;
  waiters = c i;
  signals = d i;
  time = e i;
}

-- THREADS AND MUTEXES

-- neither way
pub either : (b : Bool) → (if b then false else false) ≡ false
either true = refl
either false = refl

module _ {s : Table} (shape : IsShaped s) where
  -- a table shows as many threads as it has lines
  pub threads_shown : (x : HistoryVariables) → length (world_of s x).threads ≡ length s.lines
  threads_shown x = length-map (places (length s.lines)) (thread_shown s x) ∙ length-places (length s.lines)

  -- and as many mutexes as the library knows
  pub mutexes_shown : (x : HistoryVariables) → length (world_of s x).mutexes ≡ length s.mutexes
  mutexes_shown x = length-map (places (length s.mutexes)) (mutex_shown s) ∙ length-places (length s.mutexes)

  -- and as many variables
  pub variables_shown : (x : HistoryVariables) → length (world_of s x).variables ≡ length s.conds
  variables_shown x = length-map (places (length s.conds)) (variable_shown s) ∙ length-places (length s.conds)

  -- behind the last thread nobody lives, has a priority or a call
  past_threads : (t : ℕ) → length s.lines ≤ t
      → ((seat_at s.kernel t).base ≡ 0) × (is_living s.kernel t ≡ false) × (call_shown s t ≡ None)
  past_threads t h = (
    ap (λ x. x.base) (get_or_past s.kernel.seats t _ far),
    (λ i. if gone i then (if has_ended (seat_at s.kernel t).status then false else true) else false),
    ap (λ l. call_at (health_at s) (uses_of s) l (status_at s t)) (get_or_past s.lines t Idle h),
  )
    where
      far : length s.kernel.seats ≤ t
      far = subst (λ n. n ≤ t) shape.lines h

      gone : (if t == 0 then false else nat_lt t (length s.kernel.seats)) ≡ false
      gone = ap (λ b. if t == 0 then false else b) (le-ltb t (length s.kernel.seats) far) ∙ either (t == 0)

  -- the POSIX machine sees the thread that the table shows
  pub thread_seen : (x : HistoryVariables) (t : ℕ) → t < length s.lines → thread_at (world_of s x) t ≡ thread_shown s x t
  thread_seen x t l = place_at (thread_shown s x) (length s.lines) t nobody l

  -- what the POSIX machine sees of a thread beside what it remembers, also behind the last one
  part_seen : {A : Type 0} (part : Thread → A) (x : HistoryVariables) (t : ℕ)
      → (length s.lines ≤ t → part nobody ≡ part (thread_shown s x t))
      → part (thread_at (world_of s x) t) ≡ part (thread_shown s x t)
  part_seen part x t past = go (cases_lt t (length s.lines))
    where
      go : (t < length s.lines) ⊎ (length s.lines ≤ t)
          → part (thread_at (world_of s x) t) ≡ part (thread_shown s x t)
      go (inl l) = ap part (thread_seen x t l)
      go (inr m) = ap part (get_or_past (world_of s x).threads t nobody (omega (arith, threads_shown x))) ∙ past m

  -- its base priority
  pub base_seen : (x : HistoryVariables) (t : ℕ) → (thread_at (world_of s x) t).base ≡ (seat_at s.kernel t).base
  base_seen x t = part_seen (λ y. y.base) x t (λ l. sym (past_threads t l).0)

  -- behind the last mutex there is none
  past_mutexes : (m : ℕ) → length s.mutexes ≤ m → mutex_shown s m ≡ no_mutex
  past_mutexes m h = rw (get_or_past s.mutexes m _ h, (shape.unmade m h).0, (shape.unmade m h).1) refl

  -- the POSIX machine sees the mutex that the table shows
  pub mutex_seen : (x : HistoryVariables) (m : ℕ) → mutex_at (world_of s x) m ≡ mutex_shown s m
  mutex_seen x m = go (cases_lt m (length s.mutexes))
    where
      go : (m < length s.mutexes) ⊎ (length s.mutexes ≤ m) → mutex_at (world_of s x) m ≡ mutex_shown s m
      go (inl l) = place_at (mutex_shown s) (length s.mutexes) m no_mutex l
      go (inr k) = get_or_past (world_of s x).mutexes m no_mutex (omega (arith, mutexes_shown x))
          ∙ sym (past_mutexes m k)

  -- behind the last variable there is none
  past_variables : (c : ℕ) → length s.conds ≤ c → variable_shown s c ≡ no_variable
  past_variables c h = λ i. record { mutex = get_or_past s.conds c 0 h i; uses = shape.unmade_conds c h i }

  -- the POSIX machine sees the variable that the table shows
  pub variable_seen : (x : HistoryVariables) (c : ℕ) → variable_at (world_of s x) c ≡ variable_shown s c
  variable_seen x c = go (cases_lt c (length s.conds))
    where
      go : (c < length s.conds) ⊎ (length s.conds ≤ c) → variable_at (world_of s x) c ≡ variable_shown s c
      go (inl l) = place_at (variable_shown s) (length s.conds) c no_variable l
      go (inr k) = get_or_past (world_of s x).variables c no_variable (omega (arith, variables_shown x))
          ∙ sym (past_variables c k)

  -- both machines have the same threads
  pub is_thread_seen : (x : HistoryVariables) (t : ℕ) → is_thread (world_of s x) t ≡ has_thread s t
  is_thread_seen x t = ap (λ n. if t == 0 then false else nat_lt t n) (threads_shown x ∙ shape.lines)

  -- both machines have the same living threads
  pub lives_seen : (x : HistoryVariables) (t : ℕ) → lives (world_of s x) t ≡ is_living s.kernel t
  lives_seen x t = part_seen (λ y. y.living) x t (λ l. sym (past_threads t l).1)

  -- both machines have the same mutexes
  pub is_mutex_seen : (x : HistoryVariables) (m : ℕ) → is_mutex (world_of s x) m ≡ has_mutex s m
  is_mutex_seen x m = ap (λ n. if m == 0 then false else nat_lt m n) (mutexes_shown x)

  -- both machines have the same variables
  pub is_variable_seen : (x : HistoryVariables) (c : ℕ) → is_variable (world_of s x) c ≡ has_cond s c
  is_variable_seen x c = ap (λ n. if c == 0 then false else nat_lt c n) (variables_shown x)

  -- the call that the POSIX machine sees is the table's
  pub call_seen_of : (x : HistoryVariables) (t : ℕ) → (thread_at (world_of s x) t).call ≡ call_shown s t
  call_seen_of x t = part_seen (λ y. y.call) x t (λ l. sym (past_threads t l).2)

  -- and so the line's
  pub call_seen : (x : HistoryVariables) (t : ℕ) (l : Line) → line_at s t ≡ l
      → (thread_at (world_of s x) t).call ≡ call_at (health_at s) (uses_of s) l (status_at s t)
  call_seen x t l e = call_seen_of x t ∙ ap (λ k. call_at (health_at s) (uses_of s) k (status_at s t)) e

  -- what the POSIX machine sees of its deadline is what the table has
  pub timer_seen : (x : HistoryVariables) (t : ℕ) → (thread_at (world_of s x) t).timer ≡ timer_at s t
  timer_seen x t = part_seen (λ y. y.timer) x t
      (λ l. sym (get_or_past s.timers t no_timer (subst (λ n. n ≤ t) (sym shape.timers) l)))

  -- REFUSALS

  -- both machines have t's call open, or neither
  pub busy_seen : (x : HistoryVariables) (t : ℕ) → is_some (thread_at (world_of s x) t).call ≡ is_open (line_at s t)
  busy_seen x t = ap is_some (call_seen x t (line_at s t) refl) ∙ at_line (line_at s t)
    where
      at_line : (l : Line) → is_some (call_at (health_at s) (uses_of s) l (status_at s t)) ≡ is_open l
      at_line Idle = refl
      at_line (At q p) = refl

  -- both machines know the mutex and the variable that a request names, or neither
  named_seen : (x : HistoryVariables) (q : Request)
      → names_known (is_mutex (world_of s x)) (is_variable (world_of s x)) q ≡ names_known (has_mutex s) (has_cond s) q
  named_seen x q = λ i. names_known (λ m. is_mutex_seen x m i) (λ c. is_variable_seen x c i) q

  -- both machines refuse the same events
  pub refusal_seen : (x : HistoryVariables) (e : Event) → refusal_of (world_of s x) e ≡ table_refusal s e
  refusal_seen x (Begin t q) = λ i. begin_refused (is_thread_seen x t i) (lives_seen x t i) (busy_seen x t i)
      (named_seen x q i)
  refusal_seen x (Go t) = λ i. go_refused (is_thread_seen x t i) (lives_seen x t i) (busy_seen x t i)
  refusal_seen x (End t) = λ i. end_refused (is_thread_seen x t i) (lives_seen x t i)
  refusal_seen x (Tick n) = refl

-- both machines have the same living threads
pub living_seen : (s : Table) (y : HistoryVariables) (n : ℕ) → IsShaped s → lives (world_of s y) n ≡ is_living s.kernel n
living_seen s y n shape = lives_seen shape y n

-- a Go that is not refused: the thread lives, with a call open
pub go_allowed : (known living busy : Bool) → go_refused known living busy ≡ None → (living ≡ true) × (busy ≡ true)
go_allowed true true true e = (refl, refl)
go_allowed true true false e = absurd (cc)
go_allowed true false busy e = absurd (cc)
go_allowed false living busy e = absurd (cc)

-- a Begin that is not refused: the thread lives, with no call open, and the mutex is there
pub begin_allowed : (known living busy named : Bool) → begin_refused known living busy named ≡ None
    → (living ≡ true) × (busy ≡ false) × (named ≡ true)
begin_allowed true true false true e = (refl, refl, refl)
begin_allowed true true false false e = absurd (cc)
begin_allowed true true true named e = absurd (cc)
begin_allowed true false busy named e = absurd (cc)
begin_allowed false living busy named e = absurd (cc)

-- an End that is not refused: the thread lives
pub end_allowed : (known living : Bool) → end_refused known living ≡ None → living ≡ true
end_allowed true true e = refl
end_allowed true false e = absurd (cc)
end_allowed false living e = absurd (cc)

-- WORLDS

-- a thread that was changed
pub thread_changed : (w : World) (t : ℕ) (x : Thread) → t < length w.threads → thread_at (with_thread t x w) t ≡ x
thread_changed w t x h = get_or-set_same w.threads t x nobody h

-- a thread that was changed twice
pub thread_changed_twice : (w : World) (t : ℕ) (x y : Thread) → with_thread t y (with_thread t x w) ≡ with_thread t y w
thread_changed_twice w t x y = λ i. record w { threads = set-set w.threads t x y i }

-- the state once t's call is closed
abbrev pub closed : ℕ → World → World
closed t u = with_thread t (record (thread_at u t) { call = None }) u

-- a call that stays as it is
pub recalled_same : (w : World) (t : ℕ) (f : Option Call → Option Call) → f (thread_at w t).call ≡ (thread_at w t).call
    → w ≡ with_call_by t f w
recalled_same w t f e =
    sym (ap (λ c. with_thread t (record (thread_at w t) { call = c }) w) e
    ∙ (λ i. record w { threads = set-get_or w.threads t nobody i }))

-- a call that has come far is closed like any other
pub closed_progressed : (w : World) (t : ℕ) (p : Progress) → t < length w.threads
    → closed t (with_progress t p w) ≡ closed t w
closed_progressed w t p h =
    let x : Thread = record (thread_at w t) { call = at_progress p (thread_at w t).call } in
    ap (λ (y : Thread). with_thread t (record y { call = None }) (with_thread t x w)) (thread_changed w t x h)
    ∙ thread_changed_twice w t x (record (thread_at w t) { call = None })

-- the call of a thread that has come far
pub call_progressed : (w : World) (t : ℕ) (p : Progress) (c : Call) → t < length w.threads
    → (thread_at w t).call ≡ Some c → (thread_at (with_progress t p w) t).call ≡ Some (record c { progress = p })
call_progressed w t p c h e =
    ap (λ (y : Thread). y.call) (thread_changed w t (record
    (thread_at w t) { call = at_progress p (thread_at w t).call }) h)
    ∙ ap (at_progress p) e
