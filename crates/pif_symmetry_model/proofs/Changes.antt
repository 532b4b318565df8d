-- States that are the same but for names still are once the same is changed in both.
use Rattle.std.proofs.Common.{ℕ, zero, suc, ◌≡◌, ◌≤◌, ◌<◌, ◌∙◌, ◌+◌, ◌⊎◌, false, List, [], ◌∷◌, ◌++◌, length, get_or, set, map, Option, Some, None, refl, sym, ap, subst, inl, inr, arith, if◌then◌else◌}
use Rattle.std.proofs.lemmas.Bool.{cases_eq, cases_lt}
use Rattle.std.proofs.lemmas.List.{get_or-set_same, get_or-set_other, length-set, length-map, map-set}
use Rattle.pif_model.specs.Deadlines.{ran_out}
use Rattle.pif_model.specs.Posix.{World, Thread, Call, Progress, Mutex, nobody, mutex_at, thread_at, variable_at, with_thread, with_mutex, with_call_by, with_progress, at_progress, with_waiter, without_waiter, taken, on_taking, used, after_use, is_newly_blocked, is_idle, after_unblocking, all_unblocked}
use Rattle.pif_model_lemmas.proofs.Places.{mapped_at}
use Rattle.pif_model_lemmas.proofs.Waiting.{by_test}
use Rattle.pif_symmetry_model.specs.Renaming.{IsRenaming, IsRenamed, Mirrors, renamed_call, renamed_mutex, renamed_waiter}
use Rattle.pif_symmetry_model.proofs.Names.{one_name, same_without}
use Rattle.pif_symmetry_model.proofs.Reading.{call_blocked_same, mutex_there}

-- LISTS

-- what is written beyond the end isn't
pub set_beyond : {A : Type 0} (xs : List A) (t : ℕ) (y d : A) → length xs ≤ t → get_or (set xs t y) t d ≡ get_or xs t d
set_beyond [] t y d l = refl
set_beyond (x ∷ xs) zero y d l = absurd (omega arith)
set_beyond (x ∷ xs) (suc t) y d l = set_beyond xs t y d (omega (arith, l))

map_more : {A B : Type 0} (g : A → B) (xs : List A) (x : A) → map g (xs ++ x ∷ []) ≡ map g xs ++ g x ∷ []
map_more g [] x = refl
map_more g (y ∷ ys) x = ap (λ (zs : List _). g y ∷ zs) (map_more g ys x)

-- CALLS

-- a thread and itself, once the call of both has changed in the same way
pub renamed_by_call : (f : ℕ → ℕ) (g : Option Call → Option Call) → ((c : Option Call) → g (renamed_call f c) ≡ renamed_call f (g c))
    → (x y : Thread) → IsRenamed f x y → IsRenamed f (record x { call = g x.call }) (record y { call = g y.call })
renamed_by_call f g h x y e = record {
  base = e.base;
  living = e.living;
  call = ap g e.call ∙ h x.call;
  timer = e.timer;
  waits = e.waits;
  found = e.found;
}

-- the base priority
pub renamed_by_base : (f : ℕ → ℕ) (p : ℕ) (x y : Thread) → IsRenamed f x y → IsRenamed f (record x { base = p }) (record y { base = p })
renamed_by_base f p x y e = record {
  base = refl;
  living = e.living;
  call = e.call;
  timer = e.timer;
  waits = e.waits;
  found = e.found;
}

-- the timer, which runs out
pub renamed_by_timeout : (f : ℕ → ℕ) (x y : Thread) → IsRenamed f x y
    → IsRenamed f (record x { timer = ran_out x.timer }) (record y { timer = ran_out y.timer })
renamed_by_timeout f x y e = record {
  base = e.base;
  living = e.living;
  call = e.call;
  timer = ap ran_out e.timer;
  waits = e.waits;
  found = e.found;
}

progress_same : (f : ℕ → ℕ) (p : Progress) (c : Option Call) → at_progress p (renamed_call f c) ≡ renamed_call f (at_progress p c)
progress_same f p None = refl
progress_same f p (Some x) = refl

unblocking_same : (f : ℕ → ℕ) (c : Option Call) → after_unblocking (renamed_call f c) ≡ renamed_call f (after_unblocking c)
unblocking_same f None = refl
unblocking_same f (Some x) = refl

-- what a use of c makes of a call
abbrev used_call : ℕ → Option Call → Option Call
used_call c o = if is_newly_blocked c o then after_unblocking o else o

use_is_by_call : (c : ℕ) (x : Thread) → after_use c x ≡ record x { call = used_call c x.call }
use_is_by_call c x =
    by_test (λ b. (if b then record x { call = after_unblocking x.call } else x) ≡ record x { call = if b then after_unblocking x.call else x.call })
    (is_newly_blocked c x.call) (λ _. refl) (λ _. refl)

newly_same : (f : ℕ → ℕ) (c : ℕ) (o : Option Call) → is_newly_blocked c (renamed_call f o) ≡ is_newly_blocked c o
newly_same f c None = refl
newly_same f c (Some x) = ap (λ b. if is_idle x.progress then false else b) (call_blocked_same f c (Some x))

used_same : (f : ℕ → ℕ) (c : ℕ) (o : Option Call) → used_call c (renamed_call f o) ≡ renamed_call f (used_call c o)
used_same f c o =
    ap (λ b. if b then after_unblocking (renamed_call f o) else renamed_call f o) (newly_same f c o)
    ∙ by_test (λ b. (if b then after_unblocking (renamed_call f o) else renamed_call f o) ≡ renamed_call f (if b then after_unblocking o else o))
    (is_newly_blocked c o) (λ _. unblocking_same f o) (λ _. refl)

renamed_use : (f : ℕ → ℕ) (c : ℕ) (x y : Thread) → IsRenamed f x y → IsRenamed f (after_use c x) (after_use c y)
renamed_use f c x y e =
    subst (λ (z : Thread). IsRenamed f z (after_use c y)) (sym (use_is_by_call c x))
    (subst (λ (z : Thread). IsRenamed f (record x { call = used_call c x.call }) z) (sym (use_is_by_call c y))
    (renamed_by_call f (used_call c) (used_same f c) x y e))

module _ (f : ℕ → ℕ) where
  -- a thread is another
  pub same_thread : (w v : World) → Mirrors f w v → (t : ℕ) (y z : Thread) → IsRenamed f y z
      → Mirrors f (with_thread t y w) (with_thread (f t) z v)
  same_thread w v a t y z e = record {
    renaming = subst (IsRenaming f) (sym (length-set w.threads t y)) a.renaming;
    thread = λ u. elim (cases_eq u t) [
      | inl is ↦ subst (λ n. IsRenamed f (get_or (set w.threads t y) n nobody) (get_or (set v.threads (f t) z) (f n) nobody)) (sym is) here
      | inr ne ↦ subst (λ (k : Thread). IsRenamed f k (get_or (set v.threads (f t) z) (f u) nobody)) (sym (get_or-set_other w.threads t u y nobody ne))
          (subst (λ (k : Thread). IsRenamed f (thread_at w u) k)
          (sym (get_or-set_other v.threads (f t) (f u) z nobody (λ h. ne (one_name f _ a.renaming u t h)))) (a.thread u))
    ];
    threads = length-set v.threads (f t) z ∙ a.threads ∙ sym (length-set w.threads t y);
    mutexes = a.mutexes;
    waiters = a.waiters;
    variables = a.variables;
    signals = a.signals;
    time = a.time;
  }
    where
      step : ((t < length w.threads) ⊎ (length w.threads ≤ t)) → IsRenamed f (get_or (set w.threads t y) t nobody) (get_or (set v.threads (f t) z) (f t) nobody)
      step (inl l) =
          subst (λ (k : Thread). IsRenamed f k (get_or (set v.threads (f t) z) (f t) nobody)) (sym (get_or-set_same w.threads t y nobody l))
          (subst (λ (k : Thread). IsRenamed f y k)
          (sym (get_or-set_same v.threads (f t) z nobody (subst (λ n. f t < n) (sym a.threads) (a.renaming.below t l)))) e)
      step (inr l) =
          let beyond : length v.threads ≤ f t =
          elim (cases_lt (f t) (length w.threads)) [
            | inl m ↦ absurd (let k : t < length w.threads = subst (λ n. n < length w.threads) (a.renaming.there t) (a.renaming.back_below (f t) m) in omega (arith, k, l))
            | inr m ↦ subst (λ n. n ≤ f t) (sym a.threads) m
          ] in
          subst (λ (k : Thread). IsRenamed f k (get_or (set v.threads (f t) z) (f t) nobody)) (sym (set_beyond w.threads t y nobody l))
          (subst (λ (k : Thread). IsRenamed f (thread_at w t) k) (sym (set_beyond v.threads (f t) z nobody beyond)) (a.thread t))

      here : IsRenamed f (get_or (set w.threads t y) t nobody) (get_or (set v.threads (f t) z) (f t) nobody)
      here = step (cases_lt t (length w.threads))

  -- a mutex is another
  pub same_mutex : (w v : World) → Mirrors f w v → (m : ℕ) (y z : Mutex) → z ≡ renamed_mutex f y → Mirrors f (with_mutex m y w) (with_mutex m z v)
  same_mutex w v a m y z e = record {
    renaming = a.renaming;
    thread = a.thread;
    threads = a.threads;
    mutexes = (λ i. set (a.mutexes i) m (e i)) ∙ sym (map-set (renamed_mutex f) w.mutexes m y);
    waiters = a.waiters;
    variables = a.variables;
    signals = a.signals;
    time = a.time;
  }

  -- a thread joins the waiters
  pub same_waiter : (w v : World) → Mirrors f w v → (t m : ℕ) → Mirrors f (with_waiter t m w) (with_waiter (f t) m v)
  same_waiter w v a t m = record {
    renaming = a.renaming;
    thread = a.thread;
    threads = a.threads;
    mutexes = a.mutexes;
    waiters = ap (λ (ws : List (ℕ × ℕ)). ws ++ (f t, m) ∷ []) a.waiters ∙ sym (map_more (renamed_waiter f) w.waiters (t, m));
    variables = a.variables;
    signals = a.signals;
    time = a.time;
  }

  -- a thread leaves the waiters
  pub same_leaving : (w v : World) → Mirrors f w v → (t : ℕ) → Mirrors f (without_waiter t w) (without_waiter (f t) v)
  same_leaving w v a t = record {
    renaming = a.renaming;
    thread = a.thread;
    threads = a.threads;
    mutexes = a.mutexes;
    waiters = ap (λ (ws : List (ℕ × ℕ)). (without_waiter (f t) (record v { waiters = ws })).waiters) a.waiters ∙ same_without f _ a.renaming w.waiters t;
    variables = a.variables;
    signals = a.signals;
    time = a.time;
  }

  -- a variable is used
  pub same_use : (w v : World) → Mirrors f w v → (c : ℕ) → Mirrors f (used c w) (used c v)
  same_use w v a c = record {
    renaming = subst (IsRenaming f) (sym (length-map w.threads (after_use c))) a.renaming;
    thread = λ u. subst (λ (k : Thread). IsRenamed f k (get_or (map (after_use c) v.threads) (f u) nobody)) (sym (mapped_at (after_use c) w.threads u nobody))
        (subst (λ (k : Thread). IsRenamed f (after_use c (thread_at w u)) k) (sym (mapped_at (after_use c) v.threads (f u) nobody))
        (renamed_use f c (thread_at w u) (thread_at v (f u)) (a.thread u)));
    threads = length-map v.threads (after_use c) ∙ a.threads ∙ sym (length-map w.threads (after_use c));
    mutexes = a.mutexes;
    waiters = a.waiters;
    variables = λ i. set (a.variables i) c (record (variable_at (record w { variables = a.variables i }) c) { uses = (variable_at (record w { variables = a.variables i }) c).uses + 1 });
    signals = a.signals;
    time = a.time;
  }

  -- a thread's call comes to a point, or is unblocked
  pub same_call_by : (w v : World) → Mirrors f w v → (t : ℕ) (g : Option Call → Option Call)
      → ((c : Option Call) → g (renamed_call f c) ≡ renamed_call f (g c)) → Mirrors f (with_call_by t g w) (with_call_by (f t) g v)
  same_call_by w v a t g h =
      same_thread w v a t _ _ (renamed_by_call f g h (thread_at w t) (thread_at v (f t)) (a.thread t))

  pub same_progress : (w v : World) → Mirrors f w v → (t : ℕ) (p : Progress) → Mirrors f (with_progress t p w) (with_progress (f t) p v)
  same_progress w v a t p = same_call_by w v a t (at_progress p) (progress_same f p)

  pub same_unblocked : (w v : World) → Mirrors f w v → (t : ℕ) → Mirrors f (with_call_by t after_unblocking w) (with_call_by (f t) after_unblocking v)
  same_unblocked w v a t = same_call_by w v a t after_unblocking (unblocking_same f)

  pub same_all : (us : List ℕ) (w v : World) → Mirrors f w v → Mirrors f (all_unblocked us w) (all_unblocked (map f us) v)
  unfolding all_unblocked
  same_all [] w v a = a
  same_all (u ∷ us) w v a = same_all us (with_call_by u after_unblocking w) (with_call_by (f u) after_unblocking v) (same_unblocked w v a u)

  -- a thread takes a mutex
  pub same_taken : (w v : World) → Mirrors f w v → (t m : ℕ) → Mirrors f (taken t m w) (taken (f t) m v)
  same_taken w v a t m =
      let is : mutex_at v m ≡ renamed_mutex f (mutex_at w m) = mutex_there f w v a m in
      let b = same_mutex w v a m (record (mutex_at w m) { owner = t; count = 1 }) (record (mutex_at v m) { owner = f t; count = 1 })
      (λ i. record (is i) { owner = f t; count = 1 }) in
      subst (λ (p : Progress). Mirrors f (taken t m w) (with_progress (f t) p (with_mutex m (record (mutex_at v m) { owner = f t; count = 1 }) v)))
      (sym (ap (λ (x : Mutex). on_taking x.health) is))
      (same_progress _ _ b t (on_taking (mutex_at w m).health))
