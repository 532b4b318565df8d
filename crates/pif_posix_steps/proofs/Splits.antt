-- A step of the POSIX machine is made up of moves, and of its entry alone.
use Rattle.std.proofs.Common.{ℕ, ◌≡◌, ◌≢◌, ◌⊎◌, ◌∙◌, true, false, List, [], ◌∷◌, Option, Some, is_some, refl, sym, subst, ap, inl, inr}
use Rattle.std.proofs.lemmas.Bool.{true≢false, cases_eq, ne_eqb}
use Rattle.pif_types.specs.Bounds.{Bounds}
use Rattle.pif_types.specs.declared.errors.Refusal.{Refusal}
use Rattle.pif_types.specs.declared.requests.Request.{Request}
use Rattle.pif_types.specs.declared.requests.Request.TheVariants.{Wait}
use Rattle.pif_model.specs.declared.events.Event.{Event}
use Rattle.pif_model.specs.declared.events.Event.TheVariants.{Go}
use Rattle.pif_model.specs.declared.events.Seen.TheVariants.{Went, Waits, Refused}
use Rattle.pif_model.specs.declared.events.Entry.{Entry}
use Rattle.pif_model.specs.declared.events.Entry.TheVariants.{Step as Happened}
use Rattle.pif_model.specs.Deadlines.{ran_out, reported_result}
use Rattle.pif_model.specs.Posix.{World, Thread, Call, nobody, IsAllowed, IsBlocked, HasCome, Effect, Effects, Goes, Moves, is_thread, is_living, with_thread, with_progress, at_progress, after_waits, after_timeout, thread_at, Step, IsRun}
use Rattle.pif_model.specs.Posix.Effect.{lock_again}
use Rattle.pif_model.specs.Posix.Effects.{none as no_effect, then as effect_then, owed as effect_owed}
use Rattle.pif_model.specs.Posix.Expires.{lock as lock_expires, wait as wait_expires}
use Rattle.pif_model.specs.Posix.Moves.{expires as move_expires, acts as move_acts}
use Rattle.pif_model.specs.Posix.Step.{thread_added, mutex_added, cond_added, refused, begun, went, waits, answered as step_answered, ended, ticked}
use Rattle.pif_model.specs.Posix.IsRun.{next}
use Rattle.pif_model.specs.World.Progress.{Has, Blocked, Reacquiring}
use Rattle.pif_model_lemmas.proofs.Places.{kept_at}
use Rattle.pif_model_simulation.proofs.runs.Worlds.{call_of, call-with_progress}
use Rattle.pif_model_simulation.proofs.runs.Holding.{same_progress}
use Rattle.pif_model_simulation.proofs.runs.AllHolding.{caller_lives, caller_is_thread}
use Rattle.pif_model_simulation.proofs.runs.Holders.{IsHeld-IsRun}
use Rattle.pif_model_simulation.proofs.runs.Timing.{quiet_Effects}
use Rattle.pif_posix_steps.specs.Once.{MovesOnce, AreMoves, AreOfOrBlocked, IsByMoves, IsByMovesAndEntry, is_go, is_hidden, is_refused}
use Rattle.pif_posix_steps.specs.Once.Acts.{effect, expires, notes}
use Rattle.pif_posix_steps.specs.Once.AreMoves.{no_move, one_more}
use Rattle.pif_posix_steps.specs.Once.Enters.{answered, other}
use Rattle.pif_posix_steps.proofs.Singles.{Noting, noting, same_call, uncounted-from_effect, step-from_move}
use Rattle.pif_posix_steps.proofs.Singles.Noting.{nothing, newly_blocked}
use Rattle.pif_posix_steps.proofs.Blocking.{wait-from_blocked}

-- a run leads to w
record IsReached (l : Bounds) (w : World) : Type 0 where
  history : List Entry
  states : List World
  run : IsRun l history states w

-- moves lead from w to u, by these threads, and a run leads to u
record HasMoved (l : Bounds) (t : ℕ) (w u : World) : Type 0 where
  threads : List ℕ
  moves : AreMoves w threads u
  whose : AreOfOrBlocked t w threads
  reached : IsReached l u

-- one thread more, which is t or was blocked
one_thread_more : (t b : ℕ) (w : World) (ts : List ℕ) → AreOfOrBlocked t w ts
    → (b ≡ t) ⊎ ((c : ℕ) × IsBlocked w c b) → AreOfOrBlocked t w (b ∷ ts)
one_thread_more t b w ts h new u e = by_head (cases_eq b u)
  where
    by_head : (b ≡ u) ⊎ (b ≢ u) → (u ≡ t) ⊎ ((c : ℕ) × IsBlocked w c u)
    by_head (inl same) = subst (λ (x : ℕ). (x ≡ t) ⊎ ((c : ℕ) × IsBlocked w c x)) same new
    by_head (inr d) = h u (rw (ne_eqb b u d) at e)

module _ (l : Bounds) where
  -- whoever has a call open may go on
  allowed : {w : World} → IsReached l w → (t : ℕ) (c : Call) → call_of w t ≡ Some c → IsAllowed w (Go t)
  allowed {w} h t c e =
      let held = IsHeld-IsRun l h.run in
      let added : is_thread w t ≡ true = caller_is_thread held t c e in
      let lives : is_living w t ≡ true = caller_lives held t c e in
      let calls : is_some (call_of w t) ≡ true = ap is_some e in
      rw (added, lives, calls) refl

  -- one move more
  one_move_more : {t : ℕ} {w u v : World} (b : ℕ) → HasMoved l t w u → (b ≡ t) ⊎ ((c : ℕ) × IsBlocked w c b)
      → MovesOnce b u v → HasMoved l t w v
  one_move_more {t} {w} {u} {v} b h who m =
      let x = step-from_move l h.reached.history h.reached.states u h.reached.run b v m in
      record {
        threads = b ∷ h.threads;
        moves = one_more h.moves m;
        whose = one_thread_more t b w h.threads h.whose who;
        reached = record {
          history = Happened (Go b) x.seen ∷ h.reached.history;
          states = u ∷ h.reached.states;
          run = next h.reached.run x.step;
        };
      }

  -- and one of an effect
  one_effect_more : {t : ℕ} {w u v : World} (b : ℕ) → HasMoved l t w u → (b ≡ t) ⊎ ((c : ℕ) × IsBlocked w c b)
      → Effect b u v → HasMoved l t w v
  one_effect_more {u = u} b h who e =
      let x = uncounted-from_effect e in
      one_move_more b h who (record { allowed = allowed h.reached b _ x.call; acts = effect e })

  -- no move yet
  unmoved : (t : ℕ) {w : World} → IsReached l w → HasMoved l t w w
  unmoved t h = record { threads = []; moves = no_move refl; whose = λ u e. absurd (true≢false (sym e)); reached = h }

  -- some effects
  by_effects : {t : ℕ} {first w u : World} → HasMoved l t first w → Effects t first w u → HasMoved l t first u
  by_effects {t} {first} h (no_effect e) = subst (HasMoved l t first) (sym e) h
  by_effects {t} h (effect_then e more) = by_effects (one_effect_more t h (inl refl) e) more
  by_effects h (effect_owed b c m blocked before e more) =
      by_effects (one_effect_more b h (inr (c, blocked)) (lock_again c m before e)) more

  -- what t's call does at a Go
  by_moves : {t : ℕ} {w u : World} → IsReached l w → Goes t w u → HasMoved l t w u
  by_moves {t} {w} {u} h g = go g.moves
    where
      go : Moves t w u → HasMoved l t w u
      go (move_expires due e) =
          one_move_more t (unmoved t h) (inl refl) (record { allowed = g.allowed; acts = expires due e })
      go (move_acts due e) = by_effects (unmoved t h) e

  -- t's timer is as before a Go if its call has a result then
  same_timer : {t : ℕ} {w u : World} → Goes t w u → (q : Request) (a : ℕ) → HasCome u t q (Has a)
      → (thread_at u t).timer ≡ (thread_at w t).timer
  same_timer {t} {w} {u} g q a before = go g.moves
    where
      go : Moves t w u → (thread_at u t).timer ≡ (thread_at w t).timer
      go (move_acts due e) = (quiet_Effects e).timer t
      go (move_expires due (lock_expires m p c e)) =
          ap (λ (x : World). (thread_at x t).timer) e
          ∙ kept_at (λ (y : Thread). y.timer) w.threads t
          (record (thread_at w t) { call = at_progress (Has 110) (call_of w t) }) nobody refl t
      go (move_expires due (wait_expires c m p k e)) =
          absurd (let other : Reacquiring ≡ Has a = same_progress owing before in cc)
        where
          late : Thread
          late = record (thread_at w t) { timer = ran_out (thread_at w t).timer }

          owing : HasCome u t (Wait c m) Reacquiring
          owing =
              ap (λ (x : World). call_of x t) e
              ∙ call-with_progress (after_timeout t w) t Reacquiring
              ∙ ap (at_progress Reacquiring) (kept_at (λ (y : Thread). y.call) w.threads t late nobody refl t ∙ k)

-- a step that no line shows is made up of moves
pub moves-from_hidden : (l : Bounds) (h : List Entry) (r : List World) (w : World) → IsRun l h r w → (e : Entry)
    (v : World) → Step l w e v → is_hidden e ≡ true → IsByMoves w e v
moves-from_hidden l h r w run e v (went t same goes awake) k =
    let x = by_moves l (record { history = h; states = r; run = run }) goes in
    record { thread = t; seen = Went; entry = same; threads = x.threads; moves = x.moves; whose = x.whose }
moves-from_hidden l h r w run e v (waits t u same goes after resting) k = by_noting (noting (call_of u t))
  where
    x : HasMoved l t w u
    x = by_moves l (record { history = h; states = r; run = run }) goes

    by : HasMoved l t w v → IsByMoves w e v
    by y = record { thread = t; seen = Waits; entry = same; threads = y.threads; moves = y.moves; whose = y.whose }

    by_noting : Noting (call_of u t) → IsByMoves w e v
    by_noting (nothing n) = by (subst (HasMoved l t w) (sym (after ∙ same_call u t after_waits n)) x)
    by_noting (newly_blocked q c) =
        let wait = wait-from_blocked l x.reached.history x.reached.states u x.reached.run t q false c in
        let before : HasCome u t (Wait wait.variable wait.mutex) (Blocked false) =
        c ∙ ap (λ (i : Request). Some (record { request = i; progress = Blocked false })) wait.is in
        let noted : v ≡ with_progress t (Blocked true) u =
        after ∙ ap (λ (o : Option Call). with_thread t (record (thread_at u t) { call = o }) u)
        (ap after_waits c ∙ sym (ap (at_progress (Blocked true)) c)) in
        by (one_move_more l t x (inl refl) (record {
          allowed = allowed l x.reached t _ c;
          acts = notes wait.variable wait.mutex before noted;
        }))
moves-from_hidden l h r w run e v (thread_added t p same a b c d x) k = absurd (true≢false (sym k ∙ ap is_hidden same))
moves-from_hidden l h r w run e v (mutex_added m x i same a b c) k = absurd (true≢false (sym k ∙ ap is_hidden same))
moves-from_hidden l h r w run e v (cond_added c m same a b d x) k = absurd (true≢false (sym k ∙ ap is_hidden same))
moves-from_hidden l h r w run e v (refused x i same a b) k =
    absurd (true≢false (sym k ∙ ap is_hidden same ∙ no_refusal x i))
  where
    no_refusal : (x : Event) (i : Refusal) → is_hidden (Happened x (Refused i)) ≡ false
    no_refusal (Go t) i = refl
    no_refusal _ i = refl
moves-from_hidden l h r w run e v (begun t q same a b) k = absurd (true≢false (sym k ∙ ap is_hidden same))
moves-from_hidden l h r w run e v (step_answered t a q u same b c d x) k =
    absurd (true≢false (sym k ∙ ap is_hidden same))
moves-from_hidden l h r w run e v (ended t same a) k = absurd (true≢false (sym k ∙ ap is_hidden same))
moves-from_hidden l h r w run e v (ticked n same a b) k = absurd (true≢false (sym k ∙ ap is_hidden same))

-- an entry that needs no moves
alone : {l : Bounds} {w v : World} {e : Entry} → Step l w e v → is_go e ≡ false → is_refused e ≡ false
    → IsByMovesAndEntry l w e v
alone {w = w} x g n = record { threads = []; before = w; moves = no_move refl; enters = other g n x }

-- a step that a line shows is made up of moves and of its entry alone
pub moves-from_shown : (l : Bounds) (h : List Entry) (r : List World) (w : World) → IsRun l h r w → (e : Entry)
    (v : World) → Step l w e v → is_hidden e ≡ false → is_refused e ≡ false → IsByMovesAndEntry l w e v
moves-from_shown l h r w run e v (step_answered t a q u same goes c after awake) k n =
    let x = by_moves l (record { history = h; states = r; run = run }) goes in
    record {
      threads = x.threads;
      before = u;
      moves = x.moves;
      enters = answered t (reported_result q (thread_at w t).timer.expired a) same (record {
        request = q;
        result = a;
        call = c;
        told = ap (λ i. reported_result q i a) (ap (λ i. i.expired) (sym (same_timer l goes q a c)));
        allowed = allowed l x.reached t _ c;
        goes_on = awake;
        closes = after;
      });
    }
moves-from_shown l h r w run e v (went t same goes awake) k n = absurd (true≢false (sym (ap is_hidden same) ∙ k))
moves-from_shown l h r w run e v (waits t u same goes a b) k n = absurd (true≢false (sym (ap is_hidden same) ∙ k))
moves-from_shown l h r w run e v (refused x i same a b) k n = absurd (true≢false (sym (ap is_refused same) ∙ n))
moves-from_shown l h r w run e v (thread_added t p same a b c d x) k n =
    alone (thread_added t p same a b c d x) (ap is_go same) n
moves-from_shown l h r w run e v (mutex_added m x i same a b c) k n =
    alone (mutex_added m x i same a b c) (ap is_go same) n
moves-from_shown l h r w run e v (cond_added c m same a b d x) k n =
    alone (cond_added c m same a b d x) (ap is_go same) n
moves-from_shown l h r w run e v (begun t q same a b) k n = alone (begun t q same a b) (ap is_go same) n
moves-from_shown l h r w run e v (ended t same a) k n = alone (ended t same a) (ap is_go same) n
moves-from_shown l h r w run e v (ticked i same a b) k n = alone (ticked i same a b) (ap is_go same) n
