-- What no move changes: how many threads, mutexes and variables there are, the time, who lives, and whose call is open.
use Rattle.std.proofs.Common.{ℕ, ◌≡◌, ◌∙◌, List, length, map, set, Option, Some, None, is_some, refl, ap, if◌then◌else◌}
use Rattle.std.proofs.lemmas.List.{length-set, length-map}
use Rattle.std.proofs.Math.ListN.{get_or-map}
use Rattle.pif_model.specs.Posix.{Progress, Call, Thread, Mutex, Variable, World, nobody, thread_at, is_living, with_thread, with_mutex, with_call_by, with_progress, at_progress, after_unblocking, is_newly_blocked, after_use, used, Releases}
use Rattle.pif_model_lemmas.proofs.Places.{kept_at}
use Rattle.pif_model_lemmas.proofs.Waiting.{by_test}
use Rattle.pif_model_simulation.proofs.runs.Worlds.{call_of, living-with_thread}
use Rattle.pif_posix_steps.specs.Once.{MovesOnce}
use Rattle.pif_history_model.proofs.Moving.{IsKept, kept_move, kept_Releases}

pub record Keeps (w v : World) : Type 0 where
  pub threads : length v.threads ≡ length w.threads
  pub mutexes : length v.mutexes ≡ length w.mutexes
  pub variables : length v.variables ≡ length w.variables
  pub time : v.time ≡ w.time
  pub living : (u : ℕ) → is_living v u ≡ is_living w u
  pub calling : (u : ℕ) → is_some (call_of v u) ≡ is_some (call_of w u)

-- STEPS

pub stays : (w : World) → Keeps w w
stays w =
    record { threads = refl; mutexes = refl; variables = refl; time = refl; living = λ u. refl; calling = λ u. refl }

pub keeps_then : {w u v : World} → Keeps w u → Keeps u v → Keeps w v
keeps_then a b = record {
  threads = b.threads ∙ a.threads;
  mutexes = b.mutexes ∙ a.mutexes;
  variables = b.variables ∙ a.variables;
  time = b.time ∙ a.time;
  living = λ u. b.living u ∙ a.living u;
  calling = λ u. b.calling u ∙ a.calling u;
}

-- a thread is written that lives as before, and has a call open as before
pub keeps_thread : (w : World) (t : ℕ) (x : Thread) → x.living ≡ is_living w t → is_some x.call ≡ is_some (call_of w t)
    → Keeps w (with_thread t x w)
keeps_thread w t x lives calling = record {
  threads = length-set w.threads t x;
  mutexes = refl;
  variables = refl;
  time = refl;
  living = living-with_thread w t x lives;
  calling = kept_at (λ (y : Thread). is_some y.call) w.threads t x nobody calling;
}

-- a mutex is written, or the waiters are
pub keeps_mutex : (w : World) (m : ℕ) (z : Mutex) → Keeps w (with_mutex m z w)
keeps_mutex w m z = record {
  threads = refl;
  mutexes = length-set w.mutexes m z;
  variables = refl;
  time = refl;
  living = λ u. refl;
  calling = λ u. refl;
}

pub keeps_waiters : (w : World) (x : List (ℕ × ℕ)) → Keeps w (record w { waiters = x })
keeps_waiters w x =
    record { threads = refl; mutexes = refl; variables = refl; time = refl; living = λ u. refl; calling = λ u. refl }

-- a call comes further, or is unblocked
still_open : (p : Progress) (o : Option Call) → is_some (at_progress p o) ≡ is_some o
still_open p None = refl
still_open p (Some c) = refl

still_open_unblocked : (o : Option Call) → is_some (after_unblocking o) ≡ is_some o
still_open_unblocked None = refl
still_open_unblocked (Some c) = refl

pub keeps_progress : (w : World) (t : ℕ) (p : Progress) → Keeps w (with_progress t p w)
keeps_progress w t p = keeps_thread w t _ refl (still_open p (call_of w t))

pub keeps_unblocked : (w : World) (t : ℕ) → Keeps w (with_call_by t after_unblocking w)
keeps_unblocked w t = keeps_thread w t _ refl (still_open_unblocked (call_of w t))

-- a variable is written
pub keeps_variable : (w : World) (c : ℕ) (z : Variable) → Keeps w (record w { variables = set w.variables c z })
keeps_variable w c z = record {
  threads = refl;
  mutexes = refl;
  variables = length-set w.variables c z;
  time = refl;
  living = λ u. refl;
  calling = λ u. refl;
}

-- it is used, which isn't counted
pub keeps_uncounted : (c : ℕ) (w : World) → Keeps w (record w { threads = map (after_use c) w.threads })
keeps_uncounted c w = record {
  threads = length-map w.threads (after_use c);
  mutexes = refl;
  variables = refl;
  time = refl;
  living = λ u. ap (λ (y : Thread). y.living) (at u) ∙ lives (thread_at w u);
  calling = λ u. ap (λ (y : Thread). is_some y.call) (at u) ∙ is_open (thread_at w u);
}
  where
    at : (u : ℕ) → thread_at (used c w) u ≡ after_use c (thread_at w u)
    at u = get_or-map (after_use c) w.threads u nobody

    lives : (x : Thread) → (after_use c x).living ≡ x.living
    lives x = by_test (λ b. (if b then record x { call = after_unblocking x.call } else x).living ≡ x.living)
        (is_newly_blocked c x.call) (λ _. refl) (λ _. refl)

    is_open : (x : Thread) → is_some (after_use c x).call ≡ is_some x.call
    is_open x =
        by_test (λ b. is_some (if b then record x { call = after_unblocking x.call } else x).call ≡ is_some x.call)
        (is_newly_blocked c x.call) (λ _. still_open_unblocked x.call) (λ _. refl)

keeps_used : (c : ℕ) (w : World) → Keeps w (used c w)
keeps_used c w = keeps_then (keeps_uncounted c w) (keeps_variable (record w { threads = map (after_use c) w.threads }) c _)

-- MOVES

pub Keeps-kept : IsKept Keeps
Keeps-kept = record {
  same = stays;
  chain = λ w u v a b. keeps_then a b;
  mutex = keeps_mutex;
  waiters = keeps_waiters;
  base = λ w t u p e c. keeps_thread w u _ refl refl;
  timeout = λ w t. keeps_thread w t _ refl refl;
  uses = λ w c. keeps_used c w;
  progress = λ w t p e. keeps_progress w t p;
  unblocked = keeps_unblocked;
}

-- a move keeps all of this, and so does what passes on at an end
pub keeps_move : {t : ℕ} {w v : World} → MovesOnce t w v → Keeps w v
keeps_move m = kept_move Keeps Keeps-kept m

pub keeps_Releases : {t : ℕ} {w v : World} → Releases t w v → Keeps w v
keeps_Releases r = kept_Releases Keeps Keeps-kept r
