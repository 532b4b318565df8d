-- Who owns a robust mutex lives, in each state that a run of the POSIX machine reaches.
use Rattle.std.proofs.Common.{◌≡◌, ◌≢◌, ◌⊎◌, ℕ, zero, suc, true, false, List, [], ◌∷◌, ◌++◌, length, Option, Some, None, is_some, refl, sym, ap, ◌∙◌, inl, inr, arith, true≢false}
use Rattle.std.proofs.lemmas.Bool.{cases_eq}
use Rattle.std.proofs.lemmas.List.{get_or_past, get_or-set_other}
use Rattle.pif_types.specs.Bounds.{Bounds}
use Rattle.pif_model.specs.declared.events.Entry.{Entry}
use Rattle.pif_model.specs.Posix.{Call, Thread, World, IsRun, Step, Goes, Releases, OwnsNoneRobust, nobody, empty_world, thread_at, mutex_at, is_thread, is_living, begun_thread, after_end, after_waits, without_call, new_thread}
use Rattle.pif_model.specs.Posix.Releases.{none_left, one_more}
use Rattle.pif_model.specs.Posix.IsRun.{start, next}
use Rattle.pif_model.specs.Posix.Step.{thread_added, mutex_added, cond_added, refused, begun, went, waits, answered, ended, ticked}
use Rattle.pif_model_lemmas.proofs.Among.{is_among, is_among-without}
use Rattle.pif_model_simulation.proofs.Shown.{go_allowed}
use Rattle.pif_model_simulation.proofs.runs.AllHolding.{caller_lives}
use Rattle.pif_model_simulation.proofs.runs.Holders.{IsHeld-IsRun}
use Rattle.pif_model_simulation.proofs.runs.Worlds.{call_of, owner_of, call-with_thread_other, push_other}
use Rattle.pif_model_inversion.proofs.Bases.{keeps_thread, keeps_call, keeps_Moves, keeps_Releases}
use Rattle.pif_model_inversion.proofs.Confined.{Robust, Confined, is_held, confined_call, confined_Moves, confined_Releases, confined_mutex_added}

abbrev pub RobustOwnersLive : World → Type 0
RobustOwnersLive w = (m : ℕ) → (mutex_at w m).robust ≡ true → owner_of w m ≢ 0 → is_living w (owner_of w m) ≡ true

-- who is held in a call has one
held_call : (o : Option Call) → is_held o ≡ true → (c : Call) × (o ≡ Some c)
held_call None e = absurd (true≢false (sym e))
held_call (Some c) e = (c, refl)

-- who lives still does once another thread was added, or another has ended
lives_added : (w : World) (p u : ℕ) → is_living w u ≡ true → is_living (record w { threads = w.threads ++ new_thread p ∷ [] }) u ≡ true
lives_added w p u lives = by_place (cases_eq u (length w.threads))
  where
    by_place : (u ≡ length w.threads) ⊎ (u ≡ length w.threads → ⊥)
        → is_living (record w { threads = w.threads ++ new_thread p ∷ [] }) u ≡ true
    by_place (inl e) =
        absurd (true≢false (sym lives ∙ ap (λ (x : Thread). x.living) (get_or_past w.threads u nobody (omega (arith, e)))))
    by_place (inr d) = ap (λ (x : Thread). x.living) (push_other w.threads (new_thread p) nobody u d) ∙ lives

lives_on : (w : World) (t u : ℕ) → u ≢ t → is_living w u ≡ true → is_living (after_end t w) u ≡ true
lives_on w t u d lives =
    ap (λ (x : Thread). x.living) (get_or-set_other w.threads t u (record (thread_at w t) { living = false; call = None }) nobody d) ∙ lives

-- once all has passed on, an ended thread owns no robust mutex
none_owned : {t : ℕ} {w v : World} → Releases t w v → OwnsNoneRobust v t
none_owned (none_left none e) = rw e none
none_owned (one_more m own robust passes more) = none_owned more

module _ (l : Bounds) (h : List Entry) (r : List World) (w : World) (run : IsRun l h r w) (before : RobustOwnersLive w) where
  -- who waits or is held in a call lives
  waiter_lives : (u m : ℕ) → is_among w.waiters u m ≡ true → is_living w u ≡ true
  waiter_lives u m k = caller_lives (IsHeld-IsRun l run) u _ (((IsHeld-IsRun l run).each u).waiting m k).call

  held_lives : (u : ℕ) → is_held (call_of w u) ≡ true → is_living w u ≡ true
  held_lives u k = let c = held_call (call_of w u) k in caller_lives (IsHeld-IsRun l run) u c.0 c.1

  living : Confined Robust (λ u. is_living w u ≡ true) w
  living = record { owners = before; waiters = waiter_lives; calls = held_lives }

  -- in a state that those confine, and in which they live
  still : {v : World} → Confined Robust (λ u. is_living w u ≡ true) v → ((u : ℕ) → is_living v u ≡ is_living w u) → RobustOwnersLive v
  still c same m robust some = same _ ∙ c.owners m robust some

  actor_lives : {t : ℕ} {v : World} → Goes t w v → is_living w t ≡ true
  actor_lives {t} g = (go_allowed (is_thread w t) (is_living w t) (is_some (call_of w t)) g.allowed).0

  -- the thread that has ended, or one that lives then
  module _ (t : ℕ) where
    abbrev LivesOrEnded : ℕ → Type 0
    LivesOrEnded u = (is_living (after_end t w) u ≡ true) ⊎ (u ≡ t)

    lives_or_ended : (u : ℕ) → is_living w u ≡ true → LivesOrEnded u
    lives_or_ended u k = by_thread (cases_eq u t)
      where
        by_thread : (u ≡ t) ⊎ (u ≡ t → ⊥) → LivesOrEnded u
        by_thread (inl e) = inr e
        by_thread (inr d) = inl (lives_on w t u d k)

    ended_confined : Confined Robust LivesOrEnded (after_end t w)
    ended_confined = record {
      owners = λ m k n. lives_or_ended (owner_of w m) (before m k n);
      waiters = λ u m k. lives_or_ended u (waiter_lives u m (is_among-without w.waiters t u m k).0);
      calls = λ u. by_thread u (cases_eq u t);
    }
      where
        x : Thread
        x = record (thread_at w t) { living = false; call = None }

        by_thread : (u : ℕ) → (u ≡ t) ⊎ (u ≡ t → ⊥) → is_held (call_of (after_end t w) u) ≡ true → LivesOrEnded u
        by_thread u (inl e) k = inr e
        by_thread u (inr d) k = lives_or_ended u (held_lives u (ap is_held (sym (call-with_thread_other w t x u d)) ∙ k))

    released : {v : World} → Releases t (after_end t w) v → RobustOwnersLive v
    released {v} x m robust some = by_owner ((confined_Releases Robust LivesOrEnded ended_confined x).owners m robust some)
      where
        by_owner : LivesOrEnded (owner_of v m) → is_living v (owner_of v m) ≡ true
        by_owner (inl k) = (keeps_Releases {S = Unit {0}} x).living (owner_of v m) ∙ k
        by_owner (inr e) = absurd (true≢false (sym robust ∙ none_owned x m e))

  after_step : (e : Entry) (v : World) → Step l w e v → RobustOwnersLive v
  after_step e v (thread_added t p same is_next room low high after) =
      rw after (λ m k n. lives_added w p (owner_of w m) (before m k n))
  after_step e v (mutex_added m k b same is_next room after) =
      rw after (still (confined_mutex_added Robust (λ u. is_living w u ≡ true) living k b) (λ u. refl))
  after_step e v (cond_added c m same known is_next room after) = rw after before
  after_step e v (refused x y same why after) = rw after before
  after_step e v (begun t q same allowed after) = rw after (λ m k n.
      (keeps_thread {S = Unit {0}} w t (begun_thread w q (thread_at w t)) refl refl).living (owner_of w m) ∙ before m k n)
  after_step e v (went t same g runs) =
      still (confined_Moves Robust (λ u. is_living w u ≡ true) living (actor_lives g) g.moves)
      (keeps_Moves {S = ⊥} (λ s. absurd s) g.moves).living
  after_step e v (waits t u same g after resting) = rw after (still
      (confined_call Robust (λ u. is_living w u ≡ true) (confined_Moves Robust (λ u. is_living w u ≡ true) living (actor_lives g) g.moves) t after_waits (actor_lives g))
      (λ k. (keeps_call {S = ⊥} u t after_waits).living k ∙ (keeps_Moves {S = ⊥} (λ s. absurd s) g.moves).living k))
  after_step e v (answered t a q u same g come after runs) = rw after (still
      (confined_call Robust (λ u. is_living w u ≡ true) (confined_Moves Robust (λ u. is_living w u ≡ true) living (actor_lives g) g.moves) t without_call (actor_lives g))
      (λ k. (keeps_call {S = ⊥} u t without_call).living k ∙ (keeps_Moves {S = ⊥} (λ s. absurd s) g.moves).living k))
  after_step e v (ended t same x) = released t x.releases
  after_step e v (ticked n same allowed after) = rw after before

pub robust_owners_live : (l : Bounds) (h : List Entry) (r : List World) (w : World) → IsRun l h r w → RobustOwnersLive w
robust_owners_live l h r w (start e) = rw e (λ m robust some. absurd (true≢false (sym robust ∙ stalled m)))
  where
    stalled : (m : ℕ) → (mutex_at (empty_world l.signals) m).robust ≡ false
    stalled zero = refl
    stalled (suc m) = refl
robust_owners_live l h r w (next {h = k} {r = s} {e = e} {w = u} {v = v} run step) =
    after_step l k s u run (robust_owners_live l k s u run) e v step
