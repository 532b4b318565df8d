-- A state at a later time: what is read of it is the same, and changes of it are.
use Rattle.std.proofs.Common.{ℕ, ◌≡◌, ◌∙◌, ◌==◌, ◌+◌, Bool, true, false, nat_lt, List, [], ◌∷◌, length, set, map, Option, Some, None, refl, sym, ap, arith, if◌then◌else◌}
use Rattle.std.specs.List.{list_any}
use Rattle.std.proofs.lemmas.Bool.Decides.{nat_tests}
use Rattle.std.proofs.lemmas.List.{map-set, length-map}
use Rattle.pif_model.specs.Deadlines.{ran_out, is_reached}
use Rattle.pif_model.specs.Graph.{effective_among, next_waiter, reaches_within}
use Rattle.pif_model.specs.Posix.{World, Thread, Call, Progress, nobody, thread_at, mutex_at, is_living, waits_for, effective_of, next_of, leads_to, is_orphaned, sleeps, rests, is_call_blocked, is_blocked_on, is_still_blocked, is_counting, is_due, with_thread, with_mutex, with_call_by, with_progress, with_base, at_progress, on_taking, taken, is_newly_blocked, after_unblocking, after_use, used, all_unblocked, after_timeout}
use Rattle.pif_model_lemmas.proofs.Places.{mapped_at}
use Rattle.pif_model_lemmas.proofs.Waiting.{by_test}
use Rattle.pif_model_simulation.proofs.runs.Worlds.{call_of}
use Rattle.pif_parts_model.specs.Later.{later_deadline, later_thread, later_world}

-- a deadline is reached as before
pub reached_later : (n : ℕ) (d : Option ℕ) (now : ℕ) → is_reached (later_deadline n d) (now + n) ≡ is_reached d now
reached_later n None now = refl
reached_later n (Some d) now =
    let same : nat_lt (now + n) (d + n) ≡ nat_lt now d = grind (arith, nat_tests) in
    ap (λ (b : Bool). if b then false else true) same

module _ (n : ℕ) (w : World) where
  abbrev v : World
  v = later_world n w

  -- READING

  pub at_later : (t : ℕ) → thread_at v t ≡ later_thread n (thread_at w t)
  at_later t = mapped_at (later_thread n) w.threads t nobody

  pub call_later : (t : ℕ) → call_of v t ≡ call_of w t
  call_later t = ap (λ (x : Thread). x.call) (at_later t)

  pub lives_later : (t : ℕ) → is_living v t ≡ is_living w t
  lives_later t = ap (λ (x : Thread). x.living) (at_later t)

  pub memory_later : (t : ℕ) → (thread_at v t).memory ≡ (thread_at w t).memory
  memory_later t = ap (λ (x : Thread). x.memory) (at_later t)

  pub count_later : length v.threads ≡ length w.threads
  count_later = length-map w.threads (later_thread n)

  pub effective_later : (t : ℕ) → effective_of v t ≡ effective_of w t
  effective_later t = λ j. effective_among (count_later j) (waits_for w) (λ u. (at_later u j).base) t

  pub leads_later : (u t : ℕ) → leads_to v u t ≡ leads_to w u t
  leads_later u t = λ j. reaches_within (count_later j) (waits_for w) u t

  pub next_later : (m : ℕ) → next_of v m ≡ next_of w m
  next_later m = λ j. next_waiter (λ u. effective_later u j) w.waiters m

  pub orphaned_later : (m : ℕ) → is_orphaned v m ≡ is_orphaned w m
  orphaned_later m = λ j.
      if (mutex_at w m).robust then false
      else (if (mutex_at w m).owner == 0 then false else (if lives_later (mutex_at w m).owner j then false else true))

  pub blocked_later : (c u : ℕ) → is_blocked_on v c u ≡ is_blocked_on w c u
  blocked_later c u = ap (is_call_blocked c) (call_later u)

  pub still_later : (t c u : ℕ) → is_still_blocked v t c u ≡ is_still_blocked w t c u
  still_later t c u = λ j.
      if blocked_later c u j
      then list_any (λ p. if p.0 == u then p.1 == (memory_later u j).waits else false) (memory_later t j).found else false

  pub due_later : (t : ℕ) → is_due v t ≡ is_due w t
  due_later t =
      (λ j. if is_reached (at_later t j).timer.deadline (w.time + n) then is_counting (call_later t j) else false)
      ∙ ap (λ (b : Bool). if b then is_counting (call_of w t) else false) (reached_later n (thread_at w t).timer.deadline w.time)

  pub rests_later : (t : ℕ) → rests v t ≡ rests w t
  rests_later t = λ j. if sleeps (call_later t j) then true else list_any (λ p. p.0 == t) w.waiters

  -- CHANGES

  -- a thread is written, by what it was
  pub written_later : (t : ℕ) (f g : Thread → Thread) → ((x : Thread) → later_thread n (f x) ≡ g (later_thread n x))
      → later_world n (with_thread t (f (thread_at w t)) w) ≡ with_thread t (g (thread_at v t)) v
  written_later t f g same =
      ap (λ (xs : List Thread). record v { threads = xs })
      (map-set (later_thread n) w.threads t (f (thread_at w t))
      ∙ ap (λ (x : Thread). set v.threads t x) (same (thread_at w t) ∙ ap g (sym (at_later t))))

  pub called_later : (t : ℕ) (f : Option Call → Option Call) → later_world n (with_call_by t f w) ≡ with_call_by t f v
  called_later t f = written_later t (λ x. record x { call = f x.call }) (λ x. record x { call = f x.call }) (λ x. refl)

  pub progress_later : (t : ℕ) (p : Progress) → later_world n (with_progress t p w) ≡ with_progress t p v
  progress_later t p = called_later t (at_progress p)

  pub base_later : (u p : ℕ) → later_world n (with_base u p w) ≡ with_base u p v
  base_later u p = written_later u (λ x. record x { base = p }) (λ x. record x { base = p }) (λ x. refl)

  pub timeout_later : (t : ℕ) → later_world n (after_timeout t w) ≡ after_timeout t v
  timeout_later t = written_later t (λ x. record x { timer = ran_out x.timer }) (λ x. record x { timer = ran_out x.timer }) (λ x. refl)

-- t takes m
pub taken_later : (n : ℕ) (w : World) (t m : ℕ) → later_world n (taken t m w) ≡ taken t m (later_world n w)
taken_later n w t m =
    progress_later n (with_mutex m (record (mutex_at w m) { owner = t; count = 1 }) w) t (on_taking (mutex_at w m).health)

-- a variable is used
use_later : (n c : ℕ) (x : Thread) → later_thread n (after_use c x) ≡ after_use c (later_thread n x)
use_later n c x =
    by_test (λ b. later_thread n (if b then record x { call = after_unblocking x.call } else x)
    ≡ (if b then record (later_thread n x) { call = after_unblocking x.call } else later_thread n x))
    (is_newly_blocked c x.call) (λ _. refl) (λ _. refl)

uses_later : (n c : ℕ) (xs : List Thread) → map (later_thread n) (map (after_use c) xs) ≡ map (after_use c) (map (later_thread n) xs)
uses_later n c [] = refl
uses_later n c (x ∷ xs) = λ j. use_later n c x j ∷ uses_later n c xs j

pub used_later : (n c : ℕ) (w : World) → later_world n (used c w) ≡ used c (later_world n w)
used_later n c w = ap (λ (xs : List Thread). record (used c (later_world n w)) { threads = xs }) (uses_later n c w.threads)

pub unblocked_later : (n : ℕ) (us : List ℕ) (w : World) → later_world n (all_unblocked us w) ≡ all_unblocked us (later_world n w)
unfolding all_unblocked
unblocked_later n [] w = refl
unblocked_later n (u ∷ us) w =
    unblocked_later n us (with_call_by u after_unblocking w)
    ∙ ap (all_unblocked us) (called_later n w u after_unblocking)
