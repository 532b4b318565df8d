-- One move is a step of the POSIX machine, and so is one entry.
use Rattle.std.proofs.Common.{ℕ, ◌≡◌, ◌≢◌, ◌⊎◌, ◌∙◌, ◌==◌, Bool, true, false, List, [], ◌∷◌, Option, Some, None, refl, sym, subst, ap, inl, inr, if◌then◌else◌}
use Rattle.std.specs.List.{list_any}
use Rattle.std.proofs.lemmas.Bool.{cases_Bool, cases_eq, ne_eqb, true≢false}
use Rattle.std.proofs.lemmas.List.{set-get_or}
use Rattle.pif_types.specs.Bounds.{Bounds}
use Rattle.pif_types.specs.declared.requests.Request.{Request}
use Rattle.pif_types.specs.declared.requests.Request.TheVariants.{Lock, Wait}
use Rattle.pif_model.specs.declared.events.Event.TheVariants.{Go}
use Rattle.pif_model.specs.declared.events.Seen.TheVariants.{Went, Waits, Answered}
use Rattle.pif_model.specs.declared.events.Entry.{Entry}
use Rattle.pif_model.specs.declared.events.Entry.TheVariants.{Step as Happened}
use Rattle.pif_model.specs.Deadlines.{is_reached}
use Rattle.pif_model.specs.Posix.{World, Thread, Call, Progress, nobody, HasCome, Effect, Goes, is_due, is_counting, counts_now, rests, sleeps, with_call_by, with_thread, at_progress, after_waits, thread_at, Step, IsRun}
use Rattle.pif_model.specs.Posix.Effect.{lock, try_lock, unlock, consistent, set_prio, check_wait, enlist, give_up, lock_again, use_variable, choose, leave}
use Rattle.pif_model.specs.Posix.Effects.{none as no_effect, then as effect_then}
use Rattle.pif_model.specs.Posix.Moves.{expires as move_expires, acts as move_acts}
use Rattle.pif_model.specs.Posix.Step.{went as step_went, waits as step_waits, answered as step_answered}
use Rattle.pif_model.specs.Posix.IsRun.{next}
use Rattle.pif_model.specs.World.Progress.{Fresh, Leaving, Has, Blocked, Used}
use Rattle.pif_model_lemmas.proofs.Among.{is_among, is_among_here, is_among_there}
use Rattle.pif_model_simulation.proofs.runs.Worlds.{call_of}
use Rattle.pif_model_simulation.proofs.runs.Timing.{call-recalled}
use Rattle.pif_model_simulation.proofs.runs.AllHolding.{acting}
use Rattle.pif_model_simulation.proofs.runs.Holders.{IsHeld-IsRun}
use Rattle.pif_posix_steps.specs.Once.{Acts, MovesOnce, Enters, GoesHidden}
use Rattle.pif_posix_steps.specs.Once.Acts.{effect, expires, notes}
use Rattle.pif_posix_steps.specs.Once.Enters.{answered, other}

-- CALLS THAT ARE NOT DUE

-- what is counted at this progress is never so, whatever the request
fresh_counts_not : (q : Request) → counts_now q Fresh ≡ false
fresh_counts_not (Lock m) = refl
fresh_counts_not (Wait c m) = refl
fresh_counts_not _ = refl

used_counts_not : (q : Request) → counts_now q Used ≡ false
used_counts_not (Lock m) = refl
used_counts_not (Wait c m) = refl
used_counts_not _ = refl

leaving_counts_not : (q : Request) → counts_now q Leaving ≡ false
leaving_counts_not (Lock m) = refl
leaving_counts_not (Wait c m) = refl
leaving_counts_not _ = refl

pub has_counts_not : (q : Request) (a : ℕ) → counts_now q (Has a) ≡ false
has_counts_not (Lock m) a = refl
has_counts_not (Wait c m) a = refl
has_counts_not _ a = refl

-- a call that doesn't count its deadline is not due
pub not_due : (w : World) (t : ℕ) (q : Request) (p : Progress) → HasCome w t q p → counts_now q p ≡ false
    → is_due w t ≡ false
not_due w t q p before none = go (is_reached (thread_at w t).timer.deadline w.time)
  where
    go : (b : Bool) → (if b then is_counting (call_of w t) else false) ≡ false
    go true = ap is_counting before ∙ none
    go false = refl

-- t has a call open that doesn't count its deadline
pub record IsUncounted (w : World) (t : ℕ) : Type 0 where
  pub request : Request
  pub progress : Progress
  pub call : HasCome w t request progress
  pub counts_not : counts_now request progress ≡ false

-- a call that has come to where its deadline doesn't count
uncounted : {t : ℕ} {w : World} {q : Request} {p : Progress} → HasCome w t q p → counts_now q p ≡ false
    → IsUncounted w t
uncounted {q = q} {p = p} c none = record { request = q; progress = p; call = c; counts_not = none }

-- who has an effect has such a call open
pub uncounted-from_effect : {t : ℕ} {w v : World} → Effect t w v → IsUncounted w t
uncounted-from_effect (lock m c e) = uncounted c refl
uncounted-from_effect (try_lock m c e) = uncounted c refl
uncounted-from_effect (unlock m c e) = uncounted c refl
uncounted-from_effect (consistent m c e) = uncounted c refl
uncounted-from_effect (set_prio u p c e) = uncounted c refl
uncounted-from_effect (check_wait x m c e) = uncounted c refl
uncounted-from_effect (enlist x m c e) = uncounted c refl
uncounted-from_effect (give_up x m still c e) = uncounted c refl
uncounted-from_effect (lock_again x m c e) = uncounted c refl
uncounted-from_effect (use_variable q c i e) = uncounted c (fresh_counts_not q)
uncounted-from_effect (choose q c e) = uncounted c (used_counts_not q)
uncounted-from_effect (leave q c e) = uncounted c (leaving_counts_not q)

pub undue-from_effect : {t : ℕ} {w v : World} → Effect t w v → is_due w t ≡ false
undue-from_effect {t} {w} e =
    let x = uncounted-from_effect e in
    not_due w t x.request x.progress x.call x.counts_not

-- NOTING

-- if a call stays as it is, all does
pub same_call : (w : World) (t : ℕ) (f : Option Call → Option Call) → f (call_of w t) ≡ call_of w t
    → with_call_by t f w ≡ w
same_call w t f e =
    ap (λ (o : Option Call). with_thread t (record (thread_at w t) { call = o }) w) e
    ∙ ap (λ (xs : List Thread). record w { threads = xs }) (set-get_or w.threads t nobody)

-- what noting changes of a call
pub data Noting (o : Option Call) : Type 0 where
  nothing : after_waits o ≡ o → Noting o
  newly_blocked : (q : Request) → o ≡ Some (record { request = q; progress = Blocked false }) → Noting o

pub noting : (o : Option Call) → Noting o
noting None = nothing refl
noting (Some c) = by_progress c.request c.progress
  where
    by_progress : (q : Request) (p : Progress) → Noting (Some (record { request = q; progress = p }))
    by_progress q (Blocked true) = nothing refl
    by_progress q (Blocked false) = newly_blocked q refl
    by_progress q _ = nothing refl

-- MOVES

-- who waits for a mutex is among the waiters of one
among_some : (ws : List (ℕ × ℕ)) (t : ℕ) → list_any (λ (p : ℕ × ℕ). p.0 == t) ws ≡ true
    → (m : ℕ) × (is_among ws t m ≡ true)
among_some [] t e = absurd (true≢false (sym e))
among_some (p ∷ ws) t e = by_head (among_some ws t) (cases_eq p.0 t)
  where
    by_head : (list_any (λ (x : ℕ × ℕ). x.0 == t) ws ≡ true → (m : ℕ) × (is_among ws t m ≡ true))
        → (p.0 ≡ t) ⊎ (p.0 ≢ t) → (m : ℕ) × (is_among (p ∷ ws) t m ≡ true)
    by_head more (inl same) = (p.1, is_among_here p ws t p.1 same refl)
    by_head more (inr d) =
        let x = more (rw (ne_eqb p.0 t d) at e) in
        (x.0, is_among_there p ws t x.0 x.1)

-- whether a thread rests whose call is o
abbrev rests_with : World → ℕ → Option Call → Bool
rests_with w t o = if sleeps o then true else list_any (λ (p : ℕ × ℕ). p.0 == t) w.waiters

-- a blocked call that is noted
noted_call : (w : World) (t : ℕ) (q : Request) → HasCome w t q (Blocked false)
    → HasCome (with_call_by t after_waits w) t q (Blocked true)
noted_call w t q e = call-recalled w t after_waits refl ∙ ap after_waits e

-- its thread rests
noted_rests : (w : World) (t : ℕ) (q : Request) → HasCome w t q (Blocked false)
    → rests (with_call_by t after_waits w) t ≡ true
noted_rests w t q e = ap (rests_with w t) (noted_call w t q e)

module _ (l : Bounds) (h : List Entry) (r : List World) (w : World) (run : IsRun l h r w) where
  -- MOVES

  -- t rests in v, to which a Go of it leads. Nothing is to be noted there: who is blocked and not noted yet would rest
  -- as a waiter for a mutex, and then its call waits for that and is not blocked
  by_resting : (t : ℕ) (v : World) → Goes t w v → rests v t ≡ true → GoesHidden l t w v
  by_resting t v goes resting = by_noting (noting (call_of v t))
    where
      by_noting : Noting (call_of v t) → GoesHidden l t w v
      by_noting (nothing e) = record {
        seen = Waits;
        hidden = refl;
        step = step_waits t v refl goes (sym (same_call v t after_waits e)) resting;
      }
      by_noting (newly_blocked q e) =
          let told : Step l w (Happened (Go t) Waits) (with_call_by t after_waits v) =
          step_waits t v refl goes refl (noted_rests v t q e) in
          let held = IsHeld-IsRun l (next run told) in
          let x = among_some v.waiters t (sym (ap (rests_with v t) e) ∙ resting) in
          absurd ((acting held t q (Blocked true) (noted_call v t q e) (λ z. cc)).alone x.0 x.1)

  -- a Go of t to v
  by_going : (t : ℕ) (v : World) → Goes t w v → GoesHidden l t w v
  by_going t v goes = by_test (cases_Bool (rests v t))
    where
      by_test : (rests v t ≡ true) ⊎ (rests v t ≡ false) → GoesHidden l t w v
      by_test (inl resting) = by_resting t v goes resting
      by_test (inr awake) = record { seen = Went; hidden = refl; step = step_went t refl goes awake }

  -- a move of t is a hidden entry of it
  pub step-from_move : (t : ℕ) (v : World) → MovesOnce t w v → GoesHidden l t w v
  step-from_move t v m = by_act m.acts
    where
      by_act : Acts t w v → GoesHidden l t w v
      by_act (effect e) = by_going t v (record {
        allowed = m.allowed;
        moves = move_acts (undue-from_effect e) (effect_then e (no_effect refl));
      })
      by_act (expires due e) = by_going t v (record { allowed = m.allowed; moves = move_expires due e })
      by_act (notes c k before e) =
          let same : v ≡ with_call_by t after_waits w =
          e ∙ ap (λ (o : Option Call). with_thread t (record (thread_at w t) { call = o }) w)
          (ap (at_progress (Blocked true)) before ∙ sym (ap after_waits before)) in
          record {
            seen = Waits;
            hidden = refl;
            step = step_waits t w refl
                (record {
                  allowed = m.allowed;
                  moves = move_acts (not_due w t (Wait c k) (Blocked false) before refl) (no_effect refl);
                })
                same
                (subst (λ (x : World). rests x t ≡ true) (sym same) (noted_rests w t (Wait c k) before));
          }

-- ENTRIES

-- an entry that a line shows is a step
pub step-from_entry : (l : Bounds) (w : World) (e : Entry) (v : World) → Enters l w e v → Step l w e v
step-from_entry l w e v (other go refused step) = step
step-from_entry l w e v (answered t a same x) =
    step_answered t x.result x.request w (same ∙ ap (λ (n : ℕ). Happened (Go t) (Answered n)) x.told)
    (record {
      allowed = x.allowed;
      moves = move_acts (not_due w t x.request (Has x.result) x.call (has_counts_not x.request x.result))
          (no_effect refl);
    })
    x.call x.closes x.goes_on
