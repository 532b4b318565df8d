-- States that agree on a side still do once the same is changed on it in both.
use Rattle.std.proofs.Common.{ℕ, zero, suc, ◌≡◌, ◌≢◌, ◌∙◌, ◌+◌, ◌==◌, Bool, true, false, cond, List, [], ◌∷◌, ◌++◌, length, get_or, set, refl, sym, ap, inl, inr, eq-eqb, if◌then◌else◌, filter, arith}
use Rattle.std.specs.List.{list_any}
use Rattle.std.proofs.lemmas.Bool.{cases_eq}
use Rattle.std.proofs.lemmas.List.{get_or-set_other, length-set, length-map}
use Rattle.std.proofs.lemmas.List.Elements.{filter-append}
use Rattle.pif_model.specs.Posix.{World, Thread, Progress, Mutex, nobody, no_mutex, no_variable, mutex_at, with_thread, with_mutex, with_call_by, with_progress, at_progress, with_waiter, without_waiter, taken, on_taking, used, after_use, after_unblocking, all_unblocked}
use Rattle.pif_model_lemmas.proofs.Places.{mapped_at}
use Rattle.pif_model_lemmas.proofs.Waiting.{or_true}
use Rattle.pif_components_model.specs.Components.{Side}
use Rattle.pif_components_model.specs.Components.Name.{OfThread, OfMutex, OfVariable}
use Rattle.pif_components_model.specs.Sides.{Agrees}

-- LISTS

-- lists of one length that have the same at a place still do once the same is written to both
set_alike : {A : Type 0} (d : A) (xs ys : List A) (t : ℕ) (z : A) → length xs ≡ length ys → (u : ℕ) → get_or xs u d ≡ get_or ys u d
    → get_or (set xs t z) u d ≡ get_or (set ys t z) u d
set_alike d [] [] t z e u h = refl
set_alike d [] (y ∷ ys) t z e u h = absurd (omega (arith, e))
set_alike d (x ∷ xs) [] t z e u h = absurd (omega (arith, e))
set_alike d (x ∷ xs) (y ∷ ys) zero z e zero h = refl
set_alike d (x ∷ xs) (y ∷ ys) zero z e (suc u) h = h
set_alike d (x ∷ xs) (y ∷ ys) (suc t) z e zero h = h
set_alike d (x ∷ xs) (y ∷ ys) (suc t) z e (suc u) h = set_alike d xs ys t z (omega (arith, e)) u h

-- two filters in either order
filters_swap : {A : Type 0} (f g : A → Bool) (xs : List A) → filter f (filter g xs) ≡ filter g (filter f xs)
filters_swap f g [] = refl
filters_swap f g (x ∷ xs) = step (f x) (g x) refl refl (filters_swap f g xs)
  where
    step : (b c : Bool) → f x ≡ b → g x ≡ c → filter f (filter g xs) ≡ filter g (filter f xs)
        → filter f (cond c (x ∷ filter g xs) (filter g xs)) ≡ filter g (cond b (x ∷ filter f xs) (filter f xs))
    step true true e k ih =
        ap (λ (z : Bool). cond z (x ∷ filter f (filter g xs)) (filter f (filter g xs))) e
        ∙ ap (λ (ys : List _). x ∷ ys) ih
        ∙ ap (λ (z : Bool). cond z (x ∷ filter g (filter f xs)) (filter g (filter f xs))) (sym k)
    step true false e k ih = ih ∙ ap (λ (z : Bool). cond z (x ∷ filter g (filter f xs)) (filter g (filter f xs))) (sym k)
    step false true e k ih = ap (λ (z : Bool). cond z (x ∷ filter f (filter g xs)) (filter f (filter g xs))) e ∙ ih
    step false false e k ih = ih

module _ (x : Side) where
  -- the same at a thread
  pub same_thread : (w v : World) → Agrees x w v → (u : ℕ) (y z : Thread) → z ≡ y → Agrees x (with_thread u y w) (with_thread u z v)
  same_thread w v a u y z e = record {
    thread = λ b on. ap (λ (k : Thread). get_or (set v.threads u k) b nobody) e ∙ set_alike nobody v.threads w.threads u y a.threads b (a.thread b on);
    mutex = a.mutex;
    variable = a.variable;
    waiters = a.waiters;
    threads = length-set v.threads u z ∙ a.threads ∙ sym (length-set w.threads u y);
    mutexes = a.mutexes;
    variables = a.variables;
    signals = a.signals;
    time = a.time;
  }

  -- the same at a mutex
  pub same_mutex : (w v : World) → Agrees x w v → (m : ℕ) (y z : Mutex) → (m ≢ 0 → z ≡ y) → Agrees x (with_mutex m y w) (with_mutex m z v)
  same_mutex w v a m y z e = record {
    thread = a.thread;
    mutex = λ b some on. elim (cases_eq b m) [
      | inl is ↦ ap (λ (k : Mutex). get_or (set v.mutexes m k) b no_mutex) (e (λ none. some (is ∙ none)))
          ∙ set_alike no_mutex v.mutexes w.mutexes m y a.mutexes b (a.mutex b some on)
      | inr ne ↦ get_or-set_other v.mutexes m b z no_mutex ne ∙ a.mutex b some on ∙ sym (get_or-set_other w.mutexes m b y no_mutex ne)
    ];
    variable = a.variable;
    waiters = a.waiters;
    threads = a.threads;
    mutexes = length-set v.mutexes m z ∙ a.mutexes ∙ sym (length-set w.mutexes m y);
    variables = a.variables;
    signals = a.signals;
    time = a.time;
  }

  -- the same thread joins the waiters of the same mutex
  pub same_waiter : (w v : World) → Agrees x w v → (u m : ℕ) → Agrees x (with_waiter u m w) (with_waiter u m v)
  same_waiter w v a u m = record {
    thread = a.thread;
    mutex = a.mutex;
    variable = a.variable;
    waiters = filter-append (λ (p : ℕ × ℕ). x (OfThread p.0)) v.waiters ((u, m) ∷ [])
        ∙ ap (λ (ps : List (ℕ × ℕ)). ps ++ filter (λ (p : ℕ × ℕ). x (OfThread p.0)) ((u, m) ∷ [])) a.waiters
        ∙ sym (filter-append (λ (p : ℕ × ℕ). x (OfThread p.0)) w.waiters ((u, m) ∷ []));
    threads = a.threads;
    mutexes = a.mutexes;
    variables = a.variables;
    signals = a.signals;
    time = a.time;
  }

  -- the same thread leaves the waiters
  pub same_without : (w v : World) → Agrees x w v → (u : ℕ) → Agrees x (without_waiter u w) (without_waiter u v)
  same_without w v a u = record {
    thread = a.thread;
    mutex = a.mutex;
    variable = a.variable;
    waiters = filters_swap (λ (p : ℕ × ℕ). x (OfThread p.0)) (λ p. if p.0 == u then false else true) v.waiters
        ∙ ap (filter (λ (p : ℕ × ℕ). if p.0 == u then false else true)) a.waiters
        ∙ sym (filters_swap (λ (p : ℕ × ℕ). x (OfThread p.0)) (λ p. if p.0 == u then false else true) w.waiters);
    threads = a.threads;
    mutexes = a.mutexes;
    variables = a.variables;
    signals = a.signals;
    time = a.time;
  }

  -- the same variable is used
  pub same_used : (w v : World) → Agrees x w v → (c : ℕ) → c ≢ 0 → x (OfVariable c) ≡ true → Agrees x (used c w) (used c v)
  same_used w v a c some on = record {
    thread = λ b on. mapped_at (after_use c) v.threads b nobody ∙ ap (after_use c) (a.thread b on) ∙ sym (mapped_at (after_use c) w.threads b nobody);
    mutex = a.mutex;
    variable = λ b z k. (λ i. get_or (set v.variables c (record (a.variable c some on i) { uses = (a.variable c some on i).uses + 1 })) b no_variable)
        ∙ set_alike no_variable v.variables w.variables c _ a.variables b (a.variable b z k);
    waiters = a.waiters;
    threads = length-map v.threads (after_use c) ∙ a.threads ∙ sym (length-map w.threads (after_use c));
    mutexes = a.mutexes;
    variables = length-set v.variables c _ ∙ a.variables ∙ sym (length-set w.variables c _);
    signals = a.signals;
    time = a.time;
  }

  -- the same thread of the side comes to a point, or is unblocked
  pub same_progress : (w v : World) → Agrees x w v → (u : ℕ) → x (OfThread u) ≡ true → (p : Progress) → Agrees x (with_progress u p w) (with_progress u p v)
  same_progress w v a u on p = same_thread w v a u _ _ (λ i. record (a.thread u on i) { call = at_progress p (a.thread u on i).call })

  pub same_unblocked : (w v : World) → Agrees x w v → (u : ℕ) → x (OfThread u) ≡ true → Agrees x (with_call_by u after_unblocking w) (with_call_by u after_unblocking v)
  same_unblocked w v a u on = same_thread w v a u _ _ (λ i. record (a.thread u on i) { call = after_unblocking (a.thread u on i).call })

  pub same_all : (us : List ℕ) (w v : World) → Agrees x w v → ((u : ℕ) → list_any (λ b. b == u) us ≡ true → x (OfThread u) ≡ true)
      → Agrees x (all_unblocked us w) (all_unblocked us v)
  unfolding all_unblocked
  same_all [] w v a h = a
  same_all (u ∷ us) w v a h =
      same_all us (with_call_by u after_unblocking w) (with_call_by u after_unblocking v)
      (same_unblocked w v a u (h u (rw (eq-eqb u u refl) refl))) (λ b k. h b (rw k (or_true (u == b))))

  -- the same thread of the side takes the same mutex of it
  pub same_taken : (w v : World) → Agrees x w v → (u m : ℕ) → x (OfThread u) ≡ true → m ≢ 0 → x (OfMutex m) ≡ true → Agrees x (taken u m w) (taken u m v)
  same_taken w v a u m on some its =
      let is : mutex_at v m ≡ mutex_at w m = a.mutex m some its in
      let b = same_mutex w v a m (record (mutex_at w m) { owner = u; count = 1 }) (record (mutex_at v m) { owner = u; count = 1 })
      (λ z i. record (is i) { owner = u; count = 1 }) in
      same_thread _ _ b u _ _ (λ i. record (a.thread u on i) { call = at_progress (on_taking (is i).health) (a.thread u on i).call })
