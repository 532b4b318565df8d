-- A state without its waiters: who waits for a mutex, or was told of a deadlock, has yet to lock it. What this makes of
-- the changes of which moves are made up, and what it leaves of what they read.
use Rattle.std.proofs.Common.{ℕ, ◌≡◌, ◌==◌, ◌∙◌, Bool, true, false, List, [], ◌∷◌, length, map, nat_lt, Option, Some, None, is_some, refl, sym, ap, if◌then◌else◌}
use Rattle.std.specs.List.{list_any}
use Rattle.std.proofs.lemmas.List.{map-set, length-map}
use Rattle.std.proofs.Math.Seq.{map-set_same}
use Rattle.pif_types.specs.declared.requests.Request.{Request}
use Rattle.pif_types.specs.declared.requests.Request.TheVariants.{Wait}
use Rattle.pif_model.specs.declared.events.Event.TheVariants.{Go}
use Rattle.pif_model.specs.NamedNumbers.{EDEADLK}
use Rattle.pif_model.specs.Refusals.{go_refused}
use Rattle.pif_model.specs.Posix.{World, Thread, Call, Progress, nobody, thread_at, mutex_at, with_thread, with_base, with_call_by, with_progress, at_progress, on_unblocking, after_unblocking, is_newly_blocked, after_use, used, all_unblocked, is_idle, is_blocked, is_call_blocked, is_blocked_on, is_found, is_still_blocked, is_living, is_orphaned, refusal_of, variable_of, HasCome, Comes}
use Rattle.pif_model.specs.World.Progress.{Fresh, Waiting, Stuck, Leaving, Has, Checked, Enlisted, Blocked, Reacquiring, Used}
use Rattle.pif_model_lemmas.proofs.Places.{mapped_at}
use Rattle.pif_model_lemmas.proofs.Waiting.{by_test}
use Rattle.pif_model_simulation.proofs.runs.Worlds.{call_of}

-- where a call stands that has yet to lock its mutex
abbrev pub before_lock : Request → Progress
before_lock (Wait c m) = Reacquiring
before_lock _ = Fresh

abbrev pub aside : Request → Progress → Progress
aside q Waiting = before_lock q
aside q (Has a) = if a == EDEADLK then before_lock q else Has a
aside q p = p

abbrev pub aside_call : Option Call → Option Call
aside_call None = None
aside_call (Some c) = Some (record c { progress = aside c.request c.progress })

abbrev pub aside_thread : Thread → Thread
aside_thread x = record x { call = aside_call x.call }

abbrev pub unqueued : World → World
unqueued w = record w { threads = map aside_thread w.threads; waiters = [] }

-- PROGRESS

-- what holds of a call that is fresh, or reacquires, holds of one that has yet to lock its mutex
before_lock_is : (P : Progress → Type 0) → P Fresh → P Reacquiring → (q : Request) → P (before_lock q)
before_lock_is P f r (Wait c m) = r
before_lock_is P f r _ = f

-- what is the same of calls that wait for a mutex, have yet to lock it, or have a result
pub seen_aside : (f : Progress → Bool) → f Fresh ≡ f Waiting → f Reacquiring ≡ f Waiting → ((a : ℕ) → f (Has a) ≡ f Waiting)
    → (q : Request) (p : Progress) → f (aside q p) ≡ f p
seen_aside f a b h q Waiting = before_lock_is (λ x. f x ≡ f Waiting) a b q
seen_aside f a b h q (Has r) =
    by_test (λ z. f (if z then before_lock q else Has r) ≡ f (Has r)) (r == EDEADLK)
    (λ _. before_lock_is (λ x. f x ≡ f Waiting) a b q ∙ sym (h r)) (λ _. refl)
seen_aside f a b h q Fresh = refl
seen_aside f a b h q Stuck = refl
seen_aside f a b h q Leaving = refl
seen_aside f a b h q Checked = refl
seen_aside f a b h q (Enlisted still) = refl
seen_aside f a b h q (Blocked noted) = refl
seen_aside f a b h q Reacquiring = refl
seen_aside f a b h q Used = refl

unblocking_aside : (q : Request) (p : Progress) → aside q (on_unblocking p) ≡ on_unblocking (aside q p)
unblocking_aside q Waiting = before_lock_is (λ x. x ≡ on_unblocking x) refl refl q
unblocking_aside q (Has a) =
    by_test (λ z. (if z then before_lock q else Has a) ≡ on_unblocking (if z then before_lock q else Has a)) (a == EDEADLK)
    (λ _. before_lock_is (λ x. x ≡ on_unblocking x) refl refl q) (λ _. refl)
unblocking_aside q Fresh = refl
unblocking_aside q Stuck = refl
unblocking_aside q Leaving = refl
unblocking_aside q Checked = refl
unblocking_aside q (Enlisted still) = refl
unblocking_aside q (Blocked noted) = refl
unblocking_aside q Reacquiring = refl
unblocking_aside q Used = refl

-- CALLS

some_aside : (o : Option Call) → is_some (aside_call o) ≡ is_some o
some_aside None = refl
some_aside (Some c) = refl

pub unblocked_aside : (o : Option Call) → aside_call (after_unblocking o) ≡ after_unblocking (aside_call o)
unblocked_aside None = refl
unblocked_aside (Some c) = ap (λ (p : Progress). Some (record c { progress = p })) (unblocking_aside c.request c.progress)

blocked_call_aside : (v : ℕ) (o : Option Call) → is_call_blocked v (aside_call o) ≡ is_call_blocked v o
blocked_call_aside v None = refl
blocked_call_aside v (Some c) =
    ap (λ (b : Bool). if b then variable_of c.request == v else false)
    (seen_aside is_blocked refl refl (λ a. refl) c.request c.progress)

newly_aside : (v : ℕ) (o : Option Call) → is_newly_blocked v (aside_call o) ≡ is_newly_blocked v o
newly_aside v None = refl
newly_aside v (Some c) =
    λ i. if seen_aside is_idle refl refl (λ a. refl) c.request c.progress i then false else blocked_call_aside v (Some c) i

-- READING

module _ (w : World) where
  pub thread_aside : (t : ℕ) → thread_at (unqueued w) t ≡ aside_thread (thread_at w t)
  thread_aside t = mapped_at aside_thread w.threads t nobody

  pub call_aside : (t : ℕ) → call_of (unqueued w) t ≡ aside_call (call_of w t)
  call_aside t = ap (λ (x : Thread). x.call) (thread_aside t)

  pub come_aside : (t : ℕ) (q : Request) (p : Progress) → HasCome w t q p → HasCome (unqueued w) t q (aside q p)
  come_aside t q p e = call_aside t ∙ ap aside_call e

  pub base_aside : (t : ℕ) → (thread_at (unqueued w) t).base ≡ (thread_at w t).base
  base_aside t = ap (λ (x : Thread). x.base) (thread_aside t)

  pub living_aside : (t : ℕ) → is_living (unqueued w) t ≡ is_living w t
  living_aside t = ap (λ (x : Thread). x.living) (thread_aside t)

  pub orphaned_aside : (m : ℕ) → is_orphaned (unqueued w) m ≡ is_orphaned w m
  orphaned_aside m =
      ap (λ (b : Bool). if (mutex_at w m).robust then false
      else (if (mutex_at w m).owner == 0 then false else (if b then false else true)))
      (living_aside (mutex_at w m).owner)

  pub blocked_aside : (v t : ℕ) → is_blocked_on (unqueued w) v t ≡ is_blocked_on w v t
  blocked_aside v t = ap (is_call_blocked v) (call_aside t) ∙ blocked_call_aside v (call_of w t)

  found_aside : (t u : ℕ) → is_found (unqueued w) t u ≡ is_found w t u
  found_aside t u = λ i.
      list_any (λ p. if p.0 == u then p.1 == (thread_aside u i).memory.waits else false) (thread_aside t i).memory.found

  pub still_aside : (t v u : ℕ) → is_still_blocked (unqueued w) t v u ≡ is_still_blocked w t v u
  still_aside t v u = λ i. if blocked_aside v u i then found_aside t u i else false

  pub known_aside : (t : ℕ) → (if t == 0 then false else nat_lt t (length (unqueued w).threads)) ≡ (if t == 0 then false else nat_lt t (length w.threads))
  known_aside t = ap (λ (n : ℕ). if t == 0 then false else nat_lt t n) (length-map w.threads aside_thread)

  pub calling_aside : (t : ℕ) → is_some (call_of (unqueued w) t) ≡ is_some (call_of w t)
  calling_aside t = ap is_some (call_aside t) ∙ some_aside (call_of w t)

  pub go_aside : (t : ℕ) → refusal_of (unqueued w) (Go t) ≡ refusal_of w (Go t)
  go_aside t = λ i. go_refused (known_aside t i) (living_aside t i) (calling_aside t i)

-- CHANGES

module _ (w : World) (t : ℕ) where
  pub written_aside : (x : Thread) → unqueued (with_thread t x w) ≡ with_thread t (aside_thread x) (unqueued w)
  written_aside x = ap (λ (ts : List Thread). record w { threads = ts; waiters = [] }) (map-set aside_thread w.threads t x)

  -- a thread is written that is the same without waiters
  pub same_aside : (x : Thread) → aside_thread x ≡ aside_thread (thread_at w t) → unqueued (with_thread t x w) ≡ unqueued w
  same_aside x e =
      ap (λ (ts : List Thread). record w { threads = ts; waiters = [] }) (map-set_same aside_thread w.threads t x nobody e)

  pub based_aside : (p : ℕ) → unqueued (with_base t p w) ≡ with_base t p (unqueued w)
  based_aside p =
      written_aside (record (thread_at w t) { base = p })
      ∙ ap (λ (y : Thread). with_thread t (record y { base = p }) (unqueued w)) (sym (thread_aside w t))

  pub recalled_aside : (f : Option Call → Option Call) → aside_call (f (call_of w t)) ≡ f (aside_call (call_of w t))
      → unqueued (with_call_by t f w) ≡ with_call_by t f (unqueued w)
  recalled_aside f h =
      written_aside (record (thread_at w t) { call = f (call_of w t) })
      ∙ ap (λ (y : Thread). with_thread t y (unqueued w))
      ((λ i. record (thread_at w t) { call = h i }) ∙ sym (ap (λ (y : Thread). record y { call = f y.call }) (thread_aside w t)))

  -- a call comes further, to a point that is the same without waiters
  pub progressed_aside : (p : Progress) → ((q : Request) → aside q p ≡ p)
      → unqueued (with_progress t p w) ≡ with_progress t p (unqueued w)
  progressed_aside p s = recalled_aside (at_progress p) (by_call (call_of w t))
    where
      by_call : (o : Option Call) → aside_call (at_progress p o) ≡ at_progress p (aside_call o)
      by_call None = refl
      by_call (Some c) = ap (λ (z : Progress). Some (record { request = c.request; progress = z })) (s c.request)

  -- or to one that is where it was, without waiters
  pub back_aside : (q : Request) (from p : Progress) → HasCome w t q from → aside q p ≡ aside q from
      → unqueued (with_progress t p w) ≡ unqueued w
  back_aside q from p e s =
      same_aside (record (thread_at w t) { call = at_progress p (call_of w t) }) (λ i. record (thread_at w t) { call = call i })
    where
      call : aside_call (at_progress p (call_of w t)) ≡ aside_call (call_of w t)
      call =
          ap (λ (o : Option Call). aside_call (at_progress p o)) e
          ∙ ap (λ (z : Progress). Some (record { request = q; progress = z })) s
          ∙ sym (ap aside_call e)

pub comes_aside : (t : ℕ) (p : Progress) → ((q : Request) → aside q p ≡ p) → (w v : World) → Comes t p w v
    → Comes t p (unqueued w) (unqueued v)
comes_aside t p s w v e = ap unqueued e ∙ progressed_aside w t p s

-- a variable is used
use_aside : (c : ℕ) (x : Thread) → aside_thread (after_use c x) ≡ after_use c (aside_thread x)
use_aside c x =
    by_test (λ b. aside_thread (if b then record x { call = after_unblocking x.call } else x)
    ≡ (if b then record x { call = after_unblocking (aside_call x.call) } else aside_thread x))
    (is_newly_blocked c x.call) (λ _ i. record x { call = unblocked_aside x.call i }) (λ _. refl)
    ∙ ap (λ (b : Bool). if b then record x { call = after_unblocking (aside_call x.call) } else aside_thread x)
    (sym (newly_aside c x.call))

uses_aside : (c : ℕ) (xs : List Thread) → map aside_thread (map (after_use c) xs) ≡ map (after_use c) (map aside_thread xs)
uses_aside c [] = refl
uses_aside c (x ∷ xs) = λ i. use_aside c x i ∷ uses_aside c xs i

pub used_aside : (c : ℕ) (w : World) → unqueued (used c w) ≡ used c (unqueued w)
used_aside c w = ap (λ (ts : List Thread). record (used c w) { threads = ts; waiters = [] }) (uses_aside c w.threads)

-- all of these threads are unblocked
pub all_unblocked_aside : (us : List ℕ) (w : World) → unqueued (all_unblocked us w) ≡ all_unblocked us (unqueued w)
unfolding all_unblocked
all_unblocked_aside [] w = refl
all_unblocked_aside (u ∷ us) w =
    all_unblocked_aside us (with_call_by u after_unblocking w)
    ∙ ap (all_unblocked us) (recalled_aside w u after_unblocking (unblocked_aside (call_of w u)))
