-- A robust mutex passes on whose owner has ended: the one state to which that leads, and two such passes in either
-- order.
use Rattle.std.proofs.Common.{ℕ, ◌≡◌, ◌≢◌, ◌⊎◌, ◌<◌, ◌∙◌, ◌==◌, Bool, List, length, get_or, set, refl, sym, ap, inl, inr, if◌then◌else◌}
use Rattle.std.proofs.Math.Path.{fun_ext}
use Rattle.std.proofs.lemmas.Bool.{cases_eq, eq-eqb, ne_eqb}
use Rattle.std.proofs.lemmas.List.{get_or-set_same, get_or-set_other, set-set, set_comm}
use Rattle.pif_model.specs.Graph.{without, next_waiter}
use Rattle.pif_model.specs.Posix.{World, Thread, Mutex, Health, Passes, nobody, no_mutex, thread_at, mutex_at, next_of, at_progress, on_taking, on_death, taken, with_no_owner, without_waiter, after_owner_death}
use Rattle.pif_model.specs.Posix.Passes.{to_nobody, to_next}
use Rattle.pif_model_lemmas.proofs.Greatest.{effective_same}
use Rattle.pif_model_lemmas.proofs.Places.{kept_at}
use Rattle.pif_model_simulation.proofs.runs.Worlds.{call_of}
use Rattle.pif_posix_steps.proofs.Reaching.{without_comm}

-- THE STATE AFTER A PASS

-- a mutex once its owner has ended and it has passed on to u; 0 is nobody
abbrev pub passed_mutex : ℕ → Mutex → Mutex
passed_mutex u x = record x { owner = u; count = 1; health = on_death x.health }

-- a thread that was passed a mutex of this health
abbrev pub passed_thread : Health → Thread → Thread
passed_thread x y = record y { call = at_progress (on_taking (on_death x)) y.call }

-- the threads and the waiters then
abbrev pub passed_threads : ℕ → Health → List Thread → List Thread
passed_threads u x ts = if u == 0 then ts else set ts u (passed_thread x (get_or ts u nobody))

abbrev pub passed_waiters : ℕ → List (ℕ × ℕ) → List (ℕ × ℕ)
passed_waiters u ws = if u == 0 then ws else without ws u

-- m has passed on to u
abbrev pub passed_to : ℕ → ℕ → World → World
passed_to u m w = record w {
  threads = passed_threads u (mutex_at w m).health w.threads;
  mutexes = set w.mutexes m (passed_mutex u (mutex_at w m));
  waiters = passed_waiters u w.waiters;
}

-- m has passed on
abbrev pub passed : ℕ → World → World
passed m w = passed_to (next_of w m) m w

module _ (w : World) (m : ℕ) (inside : m < length w.mutexes) where
  -- m once its owner has ended
  abbrev behind : Mutex
  behind = record (mutex_at w m) { health = on_death (mutex_at w m).health }

  here : mutex_at (after_owner_death m w) m ≡ behind
  here = get_or-set_same w.mutexes m behind no_mutex inside

  -- it has the same next waiter
  next_behind : next_of (after_owner_death m w) m ≡ next_of w m
  next_behind = ap (λ f. next_waiter f w.waiters m) (fun_ext (λ u. effective_same _ _ _ _ _ _ u refl
      (λ x. kept_at (λ (z : Mutex). z.owner) w.mutexes m behind no_mutex refl _) (λ x. refl)))

  -- if nobody waits for it
  passed-to_nobody : next_of w m ≡ 0 → with_no_owner m (after_owner_death m w) ≡ passed m w
  passed-to_nobody none =
      ap (λ (y : Mutex). record w { mutexes = set (set w.mutexes m behind) m (record y { owner = 0; count = 1 }) }) here
      ∙ ap (λ (ms : List Mutex). record w { mutexes = ms }) (set-set w.mutexes m behind (passed_mutex 0 (mutex_at w m)))
      ∙ ap (λ (u : ℕ). passed_to u m w) (sym none)

  -- and if u is next
  passed-to_next : (u : ℕ) → next_of w m ≡ u → u ≢ 0
      → taken u m (without_waiter u (after_owner_death m w)) ≡ passed m w
  passed-to_next u is some =
      ap (λ (y : Mutex). record w {
        threads = set w.threads u (record (thread_at w u) { call = at_progress (on_taking y.health) (call_of w u) });
        mutexes = set (set w.mutexes m behind) m (record y { owner = u; count = 1 });
        waiters = without w.waiters u;
      }) here
      ∙ ap (λ (ms : List Mutex). record w {
        threads = set w.threads u (passed_thread (mutex_at w m).health (thread_at w u));
        mutexes = ms;
        waiters = without w.waiters u;
      }) (set-set w.mutexes m behind (passed_mutex u (mutex_at w m)))
      ∙ ap (λ (b : Bool). record w {
        threads = if b then w.threads else set w.threads u (passed_thread (mutex_at w m).health (thread_at w u));
        mutexes = set w.mutexes m (passed_mutex u (mutex_at w m));
        waiters = if b then w.waiters else without w.waiters u;
      }) (sym (ne_eqb u 0 some))
      ∙ ap (λ (x : ℕ). passed_to x m w) (sym is)

  -- a pass leads to that state alone
  pub passed-from_passes : {v : World} → Passes m (after_owner_death m w) v → v ≡ passed m w
  passed-from_passes (to_nobody none e) = e ∙ passed-to_nobody (sym next_behind ∙ none)
  passed-from_passes (to_next u is some e) = e ∙ passed-to_next u (sym next_behind ∙ is) some

  -- and it leads there
  pub passes-to_passed : Passes m (after_owner_death m w) (passed m w)
  passes-to_passed = by_next (cases_eq (next_of w m) 0)
    where
      by_next : (next_of w m ≡ 0) ⊎ (next_of w m ≢ 0) → Passes m (after_owner_death m w) (passed m w)
      by_next (inl e) = to_nobody (next_behind ∙ e) (sym (passed-to_nobody e))
      by_next (inr d) = to_next (next_of w m) next_behind d (sym (passed-to_next (next_of w m) refl d))

-- TWO PASSES

threads_comm : (u x : ℕ) (a b : Health) (ts : List Thread) → (u ≡ x → u ≡ 0)
    → passed_threads x b (passed_threads u a ts) ≡ passed_threads u a (passed_threads x b ts)
threads_comm u x a b ts apart = go (cases_eq u 0) (cases_eq x 0)
  where
    go : (u ≡ 0) ⊎ (u ≢ 0) → (x ≡ 0) ⊎ (x ≢ 0)
        → passed_threads x b (passed_threads u a ts) ≡ passed_threads u a (passed_threads x b ts)
    go (inl e) k = rw (eq-eqb u 0 e) refl
    go (inr n) (inl e) = rw (eq-eqb x 0 e) refl
    go (inr n) (inr k) =
        let s = passed_thread a (get_or ts u nobody) in
        let r = passed_thread b (get_or ts x nobody) in
        rw (ne_eqb u 0 n, ne_eqb x 0 k)
        (ap (λ (y : Thread). set (set ts u s) x (passed_thread b y))
        (get_or-set_other ts u x s nobody (λ e. n (apart (sym e))))
        ∙ set_comm ts u x s r (λ e. n (apart e))
        ∙ ap (λ (y : Thread). set (set ts x r) u (passed_thread a y))
        (sym (get_or-set_other ts x u r nobody (λ e. n (apart e)))))

waiters_comm : (u x : ℕ) (ws : List (ℕ × ℕ))
    → passed_waiters x (passed_waiters u ws) ≡ passed_waiters u (passed_waiters x ws)
waiters_comm u x ws = go (cases_eq u 0) (cases_eq x 0)
  where
    go : (u ≡ 0) ⊎ (u ≢ 0) → (x ≡ 0) ⊎ (x ≢ 0)
        → passed_waiters x (passed_waiters u ws) ≡ passed_waiters u (passed_waiters x ws)
    go (inl e) k = rw (eq-eqb u 0 e) refl
    go (inr n) (inl e) = rw (eq-eqb x 0 e) refl
    go (inr n) (inr k) = rw (ne_eqb u 0 n, ne_eqb x 0 k) (without_comm ws u x)

-- two mutexes that pass on to different threads, or to nobody
pub passed_to_comm : (w : World) (m n u x : ℕ) → m ≢ n → (u ≡ x → u ≡ 0)
    → passed_to x n (passed_to u m w) ≡ passed_to u m (passed_to x n w)
passed_to_comm w m n u x d apart =
    ap (λ (y : Mutex). record w {
      threads = passed_threads x y.health (passed_threads u a.health w.threads);
      mutexes = set (set w.mutexes m (passed_mutex u a)) n (passed_mutex x y);
      waiters = passed_waiters x (passed_waiters u w.waiters);
    }) (get_or-set_other w.mutexes m n (passed_mutex u a) no_mutex (λ e. d (sym e)))
    ∙ (λ i. record w {
      threads = threads_comm u x a.health b.health w.threads apart i;
      mutexes = set_comm w.mutexes m n (passed_mutex u a) (passed_mutex x b) d i;
      waiters = waiters_comm u x w.waiters i;
    })
    ∙ ap (λ (y : Mutex). record w {
      threads = passed_threads u y.health (passed_threads x b.health w.threads);
      mutexes = set (set w.mutexes n (passed_mutex x b)) m (passed_mutex u y);
      waiters = passed_waiters u (passed_waiters x w.waiters);
    }) (sym (get_or-set_other w.mutexes n m (passed_mutex x b) no_mutex d))
  where
    a : Mutex
    a = mutex_at w m

    b : Mutex
    b = mutex_at w n
