-- What a change by a thread leaves of the other side, and that the sides still don't meet behind it.
use Rattle.std.proofs.Common.{ℕ, ◌≡◌, ◌≢◌, ◌∙◌, ◌==◌, Bool, true, false, List, [], ◌∷◌, get_or, set, Option, Some, None, refl, sym, ap, subst, inl, inr, true≢false, eqb-true, if◌then◌else◌}
use Rattle.std.specs.List.{list_any}
use Rattle.std.proofs.lemmas.Bool.{cases_eq, ne_eqb, eq-eqb}
use Rattle.std.proofs.lemmas.List.{get_or-set_other, length-set, length-map}
use Rattle.pif_types.specs.declared.requests.Request.{Request}
use Rattle.pif_model.specs.Posix.{World, Thread, Call, Progress, Mutex, nobody, no_mutex, no_variable, thread_at, mutex_at, with_thread, with_mutex, with_call_by, with_progress, at_progress, with_waiter, without_waiter, taken, on_taking, used, after_use, is_newly_blocked, is_call_blocked, is_blocked, is_idle, variable_of, after_unblocking, all_unblocked, next_of, Passes}
use Rattle.pif_model.specs.Posix.Passes.{to_nobody, to_next}
use Rattle.pif_model_lemmas.proofs.Places.{mapped_at, kept_at}
use Rattle.pif_model_lemmas.proofs.Waiting.{or_true}
use Rattle.pif_model_lemmas.proofs.Among.{next_is_among}
use Rattle.pif_components_model.specs.Components.{Side}
use Rattle.pif_components_model.specs.Components.IsNamed.{variable as names_variable}
use Rattle.pif_components_model.specs.Components.Name.{OfThread, OfMutex, OfVariable}
use Rattle.pif_components_model.specs.Sides.{Agrees, IsSplit, request_of}
use Rattle.pif_components_model.proofs.Lists.{both_true, is_there, at_place, filter_push, filter_within, any_filtered, pair_pushed}

-- REQUESTS

-- a call that comes further, or is unblocked, has the same request
pub same_request : (p : Progress) (o : Option Call) → request_of (at_progress p o) ≡ request_of o
same_request p None = refl
same_request p (Some c) = refl

pub unblocked_request : (o : Option Call) → request_of (after_unblocking o) ≡ request_of o
unblocked_request None = refl
unblocked_request (Some c) = refl

-- a use of a variable keeps every request
after_if : (b : Bool) (x : Thread) → request_of (if b then record x { call = after_unblocking x.call } else x).call ≡ request_of x.call
after_if true x = unblocked_request x.call
after_if false x = refl

pub used_request : (c : ℕ) (x : Thread) → request_of (after_use c x).call ≡ request_of x.call
used_request c x = after_if (is_newly_blocked c x.call) x

-- who is blocked on a variable has an open call that names it
pub blocked_names : (c : ℕ) (o : Option Call) → is_call_blocked c o ≡ true → (q : Request) × (request_of o ≡ Some q) × (variable_of q ≡ c)
blocked_names c None h = absurd (cc)
blocked_names c (Some x) h =
    let r = both_true (is_blocked x.progress) (variable_of x.request == c) h in
    (x.request, refl, eqb-true (variable_of x.request) c r.1)

newly_is_blocked : (c : ℕ) (o : Option Call) → is_newly_blocked c o ≡ true → is_call_blocked c o ≡ true
newly_is_blocked c None h = absurd (cc)
newly_is_blocked c (Some x) h = step (is_idle x.progress) h
  where
    step : (b : Bool) → (if b then false else is_call_blocked c (Some x)) ≡ true → is_call_blocked c (Some x) ≡ true
    step true h = absurd (cc)
    step false h = h

module _ (x : Side) (w : World) (s : IsSplit x w) where
  -- who is blocked on a variable is on its side
  pub blocked_side : (c u : ℕ) → c ≢ 0 → is_call_blocked c (thread_at w u).call ≡ true → x (OfThread u) ≡ x (OfVariable c)
  blocked_side c u some h =
      let r = blocked_names c (thread_at w u).call h in
      let there = is_there _ (λ e. some (sym r.2 ∙ e)) in
      sym ((s.calls u r.0 r.1).sides (OfVariable (variable_of r.0)) (names_variable (variable_of r.0) there)) ∙ ap (λ n. x (OfVariable n)) r.2

  -- the next waiter of a mutex is on its side
  pub next_side : (m u : ℕ) → next_of w m ≡ u → u ≢ 0 → (x (OfThread u) ≡ x (OfMutex m)) × (m ≢ 0)
  next_side m u e some = s.waiters u m (next_is_among _ w.waiters m u e some)

-- AGREEING

module _ (x : Side) where
  pub agrees_first : (w : World) → Agrees x w w
  agrees_first w = record {
    thread = λ t on. refl;
    mutex = λ m some on. refl;
    variable = λ c some on. refl;
    waiters = refl;
    threads = refl;
    mutexes = refl;
    variables = refl;
    signals = refl;
    time = refl;
  }

  pub agrees_then : {u v w : World} → Agrees x u v → Agrees x v w → Agrees x u w
  agrees_then a b = record {
    thread = λ t on. b.thread t on ∙ a.thread t on;
    mutex = λ m some on. b.mutex m some on ∙ a.mutex m some on;
    variable = λ c some on. b.variable c some on ∙ a.variable c some on;
    waiters = b.waiters ∙ a.waiters;
    threads = b.threads ∙ a.threads;
    mutexes = b.mutexes ∙ a.mutexes;
    variables = b.variables ∙ a.variables;
    signals = b.signals ∙ a.signals;
    time = b.time ∙ a.time;
  }

  pub agrees_back : {u v : World} → Agrees x u v → Agrees x v u
  agrees_back a = record {
    thread = λ t on. sym (a.thread t on);
    mutex = λ m some on. sym (a.mutex m some on);
    variable = λ c some on. sym (a.variable c some on);
    waiters = sym a.waiters;
    threads = sym a.threads;
    mutexes = sym a.mutexes;
    variables = sym a.variables;
    signals = sym a.signals;
    time = sym a.time;
  }

-- WHAT A CHANGE PASSES BY

-- from w to v the sides don't meet, and if t isn't on this side, it is as it was
pub record Passed (x : Side) (t : ℕ) (w v : World) : Type 0 where
  pub frame : x (OfThread t) ≡ false → Agrees x w v
  pub split : IsSplit x v

module _ (x : Side) (t : ℕ) where
  -- what is on another side than t isn't what is on t's
  abbrev apart : {b : Bool} → b ≡ true → b ≡ x (OfThread t) → x (OfThread t) ≡ false → ⊥
  apart on is off = true≢false (sym on ∙ is ∙ off)

  pub passed_first : (w : World) → IsSplit x w → Passed x t w w
  passed_first w s = record { frame = λ off. agrees_first x w; split = s }

  pub passed_then : {u v w : World} → Passed x t u v → Passed x t v w → Passed x t u w
  passed_then a b = record { frame = λ off. agrees_then x (a.frame off) (b.frame off); split = b.split }

  -- a thread of t's side changes, and keeps its request
  pub passed_thread : (u : ℕ) (y : Thread) (w : World) → IsSplit x w → x (OfThread u) ≡ x (OfThread t)
      → request_of y.call ≡ request_of (thread_at w u).call → Passed x t w (with_thread u y w)
  passed_thread u y w s side same = record {
    frame = λ off. record {
      thread = λ a on. get_or-set_other w.threads u a y nobody (λ e. apart (ap (λ n. x (OfThread n)) (sym e) ∙ on) side off);
      threads = length-set w.threads u y;
      mutex = λ a some on. refl;
      variable = λ a some on. refl;
      waiters = refl;
      mutexes = refl;
      variables = refl;
      signals = refl;
      time = refl;
    };
    split = record {
      calls = λ a q is. s.calls a q (sym (kept_at (λ (z : Thread). request_of z.call) w.threads u y nobody same a) ∙ is);
      waiters = s.waiters;
      owners = s.owners;
    };
  }

  -- the owner of a mutex is on its side
  abbrev Owned : ℕ → Mutex → Type 0
  Owned n z = z.owner ≢ 0 → (x (OfThread z.owner) ≡ x (OfMutex n)) × (n ≢ 0)

  -- a mutex of t's side changes; its owner is on its side, or nobody
  pub passed_mutex : (m : ℕ) (y : Mutex) (w : World) → IsSplit x w → (m ≢ 0 → x (OfMutex m) ≡ x (OfThread t))
      → (y.owner ≢ 0 → (x (OfThread y.owner) ≡ x (OfMutex m)) × (m ≢ 0)) → Passed x t w (with_mutex m y w)
  passed_mutex m y w s side owner = record {
    frame = λ off. record {
      mutex = λ a some on. get_or-set_other w.mutexes m a y no_mutex
          (λ e. apart (ap (λ n. x (OfMutex n)) (sym e) ∙ on) (side (λ z. some (e ∙ z))) off);
      mutexes = length-set w.mutexes m y;
      thread = λ a on. refl;
      variable = λ a some on. refl;
      waiters = refl;
      threads = refl;
      variables = refl;
      signals = refl;
      time = refl;
    };
    split = record {
      calls = s.calls;
      waiters = s.waiters;
      owners = λ a. elim (cases_eq a m) [
        | inl e ↦ subst (λ n. Owned n (get_or (set w.mutexes m y) n no_mutex)) (sym e)
            (at_place no_mutex (Owned m) w.mutexes m y owner (s.owners m))
        | inr ne ↦ subst (Owned a) (sym (get_or-set_other w.mutexes m a y no_mutex ne)) (s.owners a)
      ];
    };
  }

  -- t joins the waiters of a mutex of its side
  pub passed_waiter : (m : ℕ) (w : World) → IsSplit x w → x (OfMutex m) ≡ x (OfThread t) → m ≢ 0 → Passed x t w (with_waiter t m w)
  passed_waiter m w s side some = record {
    frame = λ off. record {
      waiters = filter_push (λ (p : ℕ × ℕ). x (OfThread p.0)) w.waiters (t, m) off;
      thread = λ a on. refl;
      mutex = λ a some on. refl;
      variable = λ a some on. refl;
      threads = refl;
      mutexes = refl;
      variables = refl;
      signals = refl;
      time = refl;
    };
    split = record {
      calls = s.calls;
      waiters = λ u n h. elim (pair_pushed w.waiters t m u n h) [
        | inl k ↦ s.waiters u n k
        | inr k ↦ (ap (λ a. x (OfThread a)) (sym k.0) ∙ sym side ∙ ap (λ a. x (OfMutex a)) k.1, λ z. some (k.1 ∙ z))
      ];
      owners = s.owners;
    };
  }

  -- a thread of t's side leaves the waiters
  pub passed_without : (u : ℕ) (w : World) → IsSplit x w → x (OfThread u) ≡ x (OfThread t) → Passed x t w (without_waiter u w)
  passed_without u w s side = record {
    frame = λ off. record {
      waiters = filter_within (λ (p : ℕ × ℕ). x (OfThread p.0)) (λ p. if p.0 == u then false else true) w.waiters
          (λ p on. stays p.0 (λ e. apart (ap (λ n. x (OfThread n)) (sym e) ∙ on) side off));
      thread = λ a on. refl;
      mutex = λ a some on. refl;
      variable = λ a some on. refl;
      threads = refl;
      mutexes = refl;
      variables = refl;
      signals = refl;
      time = refl;
    };
    split = record {
      calls = s.calls;
      waiters = λ a m h. s.waiters a m
          (any_filtered (λ (p : ℕ × ℕ). if p.0 == a then p.1 == m else false) (λ p. if p.0 == u then false else true) w.waiters h);
      owners = s.owners;
    };
  }
    where
      stays : (a : ℕ) → a ≢ u → (if a == u then false else true) ≡ true
      stays a ne = rw (ne_eqb a u ne) refl

  -- t's side uses a variable
  pub passed_used : (c : ℕ) (w : World) → IsSplit x w → x (OfVariable c) ≡ x (OfThread t) → c ≢ 0 → Passed x t w (used c w)
  passed_used c w s side some = record {
    frame = λ off. record {
      thread = λ a on. mapped_at (after_use c) w.threads a nobody ∙ untouched off a on (is_newly_blocked c (thread_at w a).call) refl;
      variable = λ a z on. get_or-set_other w.variables c a _ no_variable
          (λ e. apart (ap (λ n. x (OfVariable n)) (sym e) ∙ on) side off);
      threads = length-map w.threads (after_use c);
      variables = length-set w.variables c _;
      mutex = λ a some on. refl;
      waiters = refl;
      mutexes = refl;
      signals = refl;
      time = refl;
    };
    split = record {
      calls = λ a q is. s.calls a q
          (sym (ap (λ (z : Thread). request_of z.call) (mapped_at (after_use c) w.threads a nobody) ∙ used_request c (thread_at w a)) ∙ is);
      waiters = s.waiters;
      owners = s.owners;
    };
  }
    where
      untouched : x (OfThread t) ≡ false → (a : ℕ) → x (OfThread a) ≡ true → (b : Bool) → is_newly_blocked c (thread_at w a).call ≡ b
          → after_use c (thread_at w a) ≡ thread_at w a
      untouched off a on true e =
          absurd (apart on (blocked_side x w s c a some (newly_is_blocked c (thread_at w a).call e) ∙ side) off)
      untouched off a on false e =
          ap (λ (b : Bool). if b then record (thread_at w a) { call = after_unblocking (thread_at w a).call } else thread_at w a) e

  -- a thread of t's side comes to a point, or is unblocked
  pub passed_progress : (u : ℕ) (p : Progress) (w : World) → IsSplit x w → x (OfThread u) ≡ x (OfThread t) → Passed x t w (with_progress u p w)
  passed_progress u p w s side = passed_thread u _ w s side (same_request p (thread_at w u).call)

  pub passed_unblocked : (u : ℕ) (w : World) → IsSplit x w → x (OfThread u) ≡ x (OfThread t) → Passed x t w (with_call_by u after_unblocking w)
  passed_unblocked u w s side = passed_thread u _ w s side (unblocked_request (thread_at w u).call)

  pub passed_all : (us : List ℕ) (w : World) → IsSplit x w → ((u : ℕ) → list_any (λ a. a == u) us ≡ true → x (OfThread u) ≡ x (OfThread t))
      → Passed x t w (all_unblocked us w)
  unfolding all_unblocked
  passed_all [] w s h = passed_first w s
  passed_all (u ∷ us) w s h =
      let f = passed_unblocked u w s (h u (rw (eq-eqb u u refl) refl)) in
      passed_then f (passed_all us (with_call_by u after_unblocking w) f.split (λ a k. h a (rw k (or_true (u == a)))))

  -- a thread of t's side takes a mutex of it
  pub passed_taken : (u m : ℕ) (w : World) → IsSplit x w → x (OfThread u) ≡ x (OfThread t) → x (OfMutex m) ≡ x (OfThread t) → m ≢ 0
      → Passed x t w (taken u m w)
  passed_taken u m w s side its some =
      let f = passed_mutex m (record (mutex_at w m) { owner = u; count = 1 }) w s (λ z. its) (λ z. (side ∙ sym its, some)) in
      passed_then f (passed_progress u (on_taking (mutex_at w m).health) _ f.split side)

  -- a mutex of t's side passes on
  pub passed_on : (m : ℕ) (w : World) → IsSplit x w → (m ≢ 0 → x (OfMutex m) ≡ x (OfThread t)) → {v : World} → Passes m w v → Passed x t w v
  passed_on m w s its {v} (to_nobody none e) =
      subst (Passed x t w) (sym e) (passed_mutex m (record (mutex_at w m) { owner = 0; count = 1 }) w s its (λ z. absurd (z refl)))
  passed_on m w s its {v} (to_next u e some is) =
      let k = next_side x w s m u e some in
      let side : x (OfThread u) ≡ x (OfThread t) = k.0 ∙ its k.1 in
      let f = passed_without u w s side in
      subst (Passed x t w) (sym is) (passed_then f (passed_taken u m (without_waiter u w) f.split side (its k.1) k.1))
