-- Additions, ticks, begins and answers: which case holds.
use Rattle.std.proofs.Common.{ℕ, ◌≡◌, ◌∙◌, ◌<◌, ◌==◌, Bool, true, false, List, length, set, Option, Some, None, refl, sym, ap, get_or-set_same, if◌then◌else◌}
use Rattle.std.specs.Prelude.{nat_le}
use Rattle.std.specs.List.{list_any}
use Rattle.pif_types.specs.declared.requests.Request.{Request}
use Rattle.pif_types.specs.declared.requests.Request.TheVariants.{TimedWait}
use Rattle.pif_model.specs.declared.events.Event.TheVariants.{Begin, Go, Tick}
use Rattle.pif_model.specs.Deadlines.{plain, timer_of}
use Rattle.pif_model.specs.World.Progress.{Fresh}
use Rattle.std.proofs.lemmas.List.{set-set}
use Rattle.pif_model.specs.Posix.{World, Thread, Memory, thread_at, nobody, rests, sleeps, with_thread, begun_memory, begun_thread}
use Rattle.pif_posix_steps.specs.Doing.{is_allowed, is_answered, closed, answered, begun, ticked}
use Rattle.pif_posix_steps.proofs.DoingCases.{choose_then, choose_else}

-- THE NEXT NUMBER WITHIN A LIMIT

pub next_within : {A : Type 0} (b c : Bool) (o : Option A) → (if b then c else false) ≡ true → (if b then (if c then o else None) else None) ≡ o
next_within true true o h = refl
next_within true false o h = absurd cc
next_within false c o h = absurd cc

pub not_next_within : {A : Type 0} (b c : Bool) (o : Option A) → (if b then c else false) ≡ false → (if b then (if c then o else None) else None) ≡ None
not_next_within true true o h = absurd cc
not_next_within true false o h = refl
not_next_within false c o h = refl

-- the test of a number that was read, at the number itself
pub next_is : {number n places k limit l : ℕ} {r b : Bool} → number ≡ n → places ≡ k → limit ≡ l
    → r ≡ (if number == places then nat_le number limit else false) → r ≡ b → (if n == k then nat_le n l else false) ≡ b
next_is e f g h x = rw (← e, ← f, ← g) (sym h ∙ x)

-- TICKS

pub ticked-allowed : (n : ℕ) (w : World) → is_allowed w (Tick n) ≡ true → ticked n w ≡ Some (record w { time = n })
ticked-allowed n w e = choose_then (is_allowed w (Tick n)) _ _ e

pub ticked-refused : (n : ℕ) (w : World) → is_allowed w (Tick n) ≡ false → ticked n w ≡ None
ticked-refused n w e = choose_else (is_allowed w (Tick n)) _ _ e

-- BEGINS

pub begun-allowed : (t : ℕ) (q : Request) (w : World) → is_allowed w (Begin t q) ≡ true
    → begun t q w ≡ Some (with_thread t (begun_thread w q (thread_at w t)) w)
begun-allowed t q w e = choose_then (is_allowed w (Begin t q)) _ _ e

pub begun-refused : (t : ℕ) (q : Request) (w : World) → is_allowed w (Begin t q) ≡ false → begun t q w ≡ None
begun-refused t q w e = choose_else (is_allowed w (Begin t q)) _ _ e

pub begun_memory-plain : (w : World) (q : Request) (x : Memory) → begun_memory w (plain q) x ≡ begun_memory w q x
begun_memory-plain w (TimedWait c m d) x = refl
begun_memory-plain w _ x = refl

-- a thread that begins a call, once what is remembered of it was written
pub opened : (t : ℕ) (q : Request) (w u : World) → t < length w.threads
    → u ≡ with_thread t (record (thread_at w t) { memory = begun_memory w q (thread_at w t).memory }) w
    → with_thread t (record (thread_at u t) { call = Some (record { request = plain q; progress = Fresh }); timer = timer_of q }) u
    ≡ with_thread t (begun_thread w q (thread_at w t)) w
opened t q w u lt e =
    let x : Thread = record (thread_at w t) { memory = begun_memory w q (thread_at w t).memory } in
    let g : Thread → Thread = λ (y : Thread). record y { call = Some (record { request = plain q; progress = Fresh }); timer = timer_of q } in
    ap (λ (v : World). with_thread t (g (thread_at v t)) v) e
    ∙ ap (λ (y : Thread). record w { threads = set (set w.threads t x) t (g y) }) (get_or-set_same w.threads t x nobody lt)
    ∙ ap (λ (ys : List Thread). record w { threads = ys }) (set-set w.threads t x (g x))
    ∙ ap (λ (m : Memory). with_thread t (record (thread_at w t) { call = Some (record { request = plain q; progress = Fresh }); timer = timer_of q; memory = m }) w)
    (sym (begun_memory-plain w q (thread_at w t).memory))

-- ANSWERS

module _ (t a : ℕ) (w : World) where
  pub answered-not : is_answered (thread_at w t).call (thread_at w t).timer.expired a ≡ false → answered t a w ≡ None
  answered-not e = choose_else (is_answered (thread_at w t).call (thread_at w t).timer.expired a) _ _ e

  pub answered-refused : is_answered (thread_at w t).call (thread_at w t).timer.expired a ≡ true → is_allowed w (Go t) ≡ false → answered t a w ≡ None
  answered-refused e f =
      choose_then (is_answered (thread_at w t).call (thread_at w t).timer.expired a) _ _ e ∙ choose_else (is_allowed w (Go t)) _ _ f

  closed_rests : t < length w.threads → rests (closed t w) t ≡ list_any (λ p. p.0 == t) w.waiters
  closed_rests lt =
      ap (λ (x : Thread). if sleeps x.call then true else list_any (λ p. p.0 == t) w.waiters)
      (get_or-set_same w.threads t (record (thread_at w t) { call = None }) nobody lt)

  pub answered-rests : is_answered (thread_at w t).call (thread_at w t).timer.expired a ≡ true → is_allowed w (Go t) ≡ true
      → t < length w.threads → list_any (λ p. p.0 == t) w.waiters ≡ true → answered t a w ≡ None
  answered-rests e f lt h =
      choose_then (is_answered (thread_at w t).call (thread_at w t).timer.expired a) _ _ e ∙ choose_then (is_allowed w (Go t)) _ _ f
      ∙ choose_then (rests (closed t w) t) _ _ (closed_rests lt ∙ h)

  pub answered-closes : is_answered (thread_at w t).call (thread_at w t).timer.expired a ≡ true → is_allowed w (Go t) ≡ true
      → t < length w.threads → list_any (λ p. p.0 == t) w.waiters ≡ false → answered t a w ≡ Some (closed t w)
  answered-closes e f lt h =
      choose_then (is_answered (thread_at w t).call (thread_at w t).timer.expired a) _ _ e ∙ choose_then (is_allowed w (Go t)) _ _ f
      ∙ choose_else (rests (closed t w) t) _ _ (closed_rests lt ∙ h)
