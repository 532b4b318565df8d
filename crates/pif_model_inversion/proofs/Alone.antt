-- A call that one thread makes with no other entry between: what holds of the state at each of its steps, and what it
-- is answered.
use Rattle.std.proofs.Common.{◌≡◌, ◌≢◌, ◌⊎◌, ℕ, Bool, true, false, ◌==◌, Some, None, refl, sym, ap, ◌∙◌, subst, inl, inr, true≢false, if◌then◌else◌}
use Rattle.std.specs.List.{list_any}
use Rattle.std.proofs.lemmas.Bool.{cases_eq}
use Rattle.pif_types.specs.Bounds.{Bounds}
use Rattle.pif_types.specs.declared.errors.Refusal.{Refusal}
use Rattle.pif_types.specs.declared.requests.Request.{Request}
use Rattle.pif_types.specs.declared.requests.Request.TheVariants.{Lock, Unlock, Consistent, Wait, Signal, Broadcast}
use Rattle.pif_model.specs.declared.events.Event.TheVariants.{Go}
use Rattle.pif_model.specs.declared.events.Seen.{Seen}
use Rattle.pif_model.specs.declared.events.Seen.TheVariants.{Went, Waits, Answered, Refused}
use Rattle.pif_model.specs.declared.events.Entry.TheVariants.{Step as Happened}
use Rattle.pif_model.specs.Deadlines.{reported_result}
use Rattle.pif_model.specs.Posix.{Progress, World, Step, HasCome, thread_at, rests, sleeps, is_use, named_by, is_call_blocked, with_call_by, with_progress, after_waits, without_call, counts_now, Locks, Passes, Unlocks, MakesConsistent, Chooses, Effect, Effects, Moves, Goes}
use Rattle.pif_model.specs.World.Progress.{Fresh, Leaving, Has, Reacquiring}
use Rattle.pif_model.specs.Posix.Chooses.{one, no_one, all}
use Rattle.pif_model.specs.Posix.Effect.{lock, try_lock, unlock, consistent, set_prio, check_wait, enlist, give_up, lock_again, use_variable, choose, leave}
use Rattle.pif_model.specs.Posix.Effects.{none as no_effect, then as effect_then, owed as effect_owed}
use Rattle.pif_model.specs.Posix.Moves.{expires as call_expires, acts}
use Rattle.pif_model.specs.Posix.Step.{thread_added, mutex_added, cond_added, refused, begun, went, waits, answered, ended, ticked}
use Rattle.pif_model_simulation.proofs.runs.Holders.{due_counts}
use Rattle.pif_model_simulation.proofs.runs.Holding.{same_request, same_progress}
use Rattle.pif_model_simulation.proofs.runs.Timing.{call-recalled}
use Rattle.pif_model_simulation.proofs.runs.Worlds.{call_of}

-- ONE STEP OF A THREAD

-- a step of t, by what it was answered
pub data StepOf (t : ℕ) (w : World) (x : Seen) (v : World) : Type 0 where
  is_refused : (r : Refusal) → x ≡ Refused r → StepOf t w x v
  went_on : x ≡ Went → Goes t w v → StepOf t w x v
  told_to_wait : (u : World) → x ≡ Waits → Goes t w u → v ≡ with_call_by t after_waits u → rests v t ≡ true → StepOf t w x v
  is_answered : (q : Request) (a : ℕ) (u : World) → x ≡ Answered (reported_result q (thread_at w t).timer.expired a) → Goes t w u
      → HasCome u t q (Has a) → v ≡ with_call_by t without_call u → StepOf t w x v

pub step_of : (l : Bounds) (t : ℕ) (w : World) (x : Seen) (v : World) → Step l w (Happened (Go t) x) v → StepOf t w x v
step_of l t w x v (thread_added u p same is_next room low high after) = absurd (cc)
step_of l t w x v (mutex_added m k b same is_next room after) = absurd (cc)
step_of l t w x v (cond_added c m same known is_next room after) = absurd (cc)
step_of l t w x v (refused y r same why after) = is_refused r (cc)
step_of l t w x v (begun u q same allowed after) = absurd (cc)
step_of l t w x v (went u same goes runs) =
    let e : u ≡ t = cc in let f : x ≡ Went = cc in went_on f (subst (λ i. Goes i w v) e goes)
step_of l t w x v (waits u y same goes after resting) =
    let e : u ≡ t = cc in
    let f : x ≡ Waits = cc in
    told_to_wait y f (subst (λ i. Goes i w y) e goes) (subst (λ i. v ≡ with_call_by i after_waits y) e after)
    (subst (λ i. rests v i ≡ true) e resting)
step_of l t w x v (answered u a q y same goes before after runs) =
    let e : u ≡ t = cc in
    let f : x ≡ Answered (reported_result q (thread_at w u).timer.expired a) = cc in
    is_answered q a y (f ∙ ap (λ i. Answered (reported_result q (thread_at w i).timer.expired a)) e)
    (subst (λ i. Goes i w y) e goes) (subst (λ i. HasCome y i q (Has a)) e before)
    (subst (λ i. v ≡ with_call_by i without_call y) e after)
step_of l t w x v (ended u same ends) = absurd (cc)
step_of l t w x v (ticked n same allowed after) = absurd (cc)

-- EFFECTS OF A CALL ON ONE MUTEX

-- whether a request is no wait, and uses no variable
abbrev pub is_of_mutex : Request → Bool
is_of_mutex (Lock m) = true
is_of_mutex (Unlock m) = true
is_of_mutex (Consistent m) = true
is_of_mutex q = false

-- what the first effect of such a call does
abbrev pub FirstEffect : ℕ → World → World → Request → Type 0
FirstEffect t w v (Lock m) = Locks t m w v
FirstEffect t w v (Unlock m) = Unlocks t m w v
FirstEffect t w v (Consistent m) = MakesConsistent t m w v
FirstEffect t w v q = Unit {0}

-- a call that uses a variable is none
used_is_none : (q : Request) → is_use q ≡ true → is_of_mutex q ≡ false
used_is_none (Signal c) e = refl
used_is_none (Broadcast c) e = refl
used_is_none _ e = absurd (true≢false (sym e))

-- nor is one that chooses whom it wakes
chooser_is_none : {t : ℕ} {q : Request} {w v : World} → Chooses t q w v → is_of_mutex q ≡ false
chooser_is_none (one c u same blocked greatest e) = ap is_of_mutex same
chooser_is_none (no_one c same none e) = ap is_of_mutex same
chooser_is_none (all c us same blocked among e) = ap is_of_mutex same

-- an effect of such a call is the first one, or it leaves an unusable mutex
pub effect_of : {t : ℕ} {w v : World} (q : Request) (p : Progress) → is_of_mutex q ≡ true → HasCome w t q p → Effect t w v
    → ((p ≡ Fresh) × FirstEffect t w v q) ⊎ ((p ≡ Leaving) × Passes (named_by q) (with_progress t (Has 131) w) v)
effect_of {t} {w} {v} q p own come effect = by_effect effect
  where
    -- the call is of another request
    other : {r : Request} {b : Progress} → is_of_mutex r ≡ false → HasCome w t r b → ⊥
    other none before = true≢false (sym own ∙ ap is_of_mutex (same_request come before) ∙ none)

    first : {r : Request} → HasCome w t r Fresh → FirstEffect t w v r
        → ((p ≡ Fresh) × FirstEffect t w v q) ⊎ ((p ≡ Leaving) × Passes (named_by q) (with_progress t (Has 131) w) v)
    first before e = inl (same_progress come before, subst (FirstEffect t w v) (same_request before come) e)

    by_effect : Effect t w v
        → ((p ≡ Fresh) × FirstEffect t w v q) ⊎ ((p ≡ Leaving) × Passes (named_by q) (with_progress t (Has 131) w) v)
    by_effect (lock m before e) = first before e
    by_effect (try_lock m before e) = absurd (other refl before)
    by_effect (unlock m before e) = first before e
    by_effect (consistent m before e) = first before e
    by_effect (set_prio u k before e) = absurd (other refl before)
    by_effect (check_wait c m before e) = absurd (other refl before)
    by_effect (enlist c m before e) = absurd (other refl before)
    by_effect (give_up c m still before e) = absurd (other refl before)
    by_effect (lock_again c m before e) = absurd (other refl before)
    by_effect (use_variable r before used e) = absurd (other (used_is_none r used) before)
    by_effect (choose r before e) = absurd (other (chooser_is_none e) before)
    by_effect (leave r before passes) =
        inr (same_progress come before, subst (λ k. Passes (named_by k) (with_progress t (Has 131) w) v) (same_request before come) passes)

-- THE STEPS OF A CALL

-- whoever must lock its mutex again in v, but t, had to before
abbrev pub NobodyWoken : ℕ → World → World → Type 0
NobodyWoken t w v = (b c m : ℕ) → b ≢ t → HasCome v b (Wait c m) Reacquiring → HasCome w b (Wait c m) Reacquiring

-- a state from which t's call goes on by steps of its own: no deadline of it counts, and it doesn't rest, also if it is
-- told to wait
pub record MayGo (w : World) (t : ℕ) (q : Request) : Type 0 where
  pub progress : Progress
  pub come : HasCome w t q progress
  pub undue : counts_now q progress ≡ false
  pub awake : sleeps (after_waits (Some (record { request = q; progress = progress }))) ≡ false
  pub unqueued : list_any (λ p. p.0 == t) w.waiters ≡ false

-- At is what holds at each step of a call of t that may come to no other result than a; Done holds once it is answered
pub record Guides (t : ℕ) (q : Request) (a : ℕ) (At Done : World → Type 0) : Type 0 where
  pub own : is_of_mutex q ≡ true
  pub reports : (late : Bool) (x : ℕ) → reported_result q late x ≡ x
  pub goes : {w : World} → At w → MayGo w t q
  pub stays : {w v : World} → At w → Effect t w v → At v × NobodyWoken t w v
  pub ends : {w : World} (x : ℕ) → At w → HasCome w t q (Has x) → (x ≡ a) × Done (with_call_by t without_call w)

module _ {t : ℕ} {q : Request} {a : ℕ} {At Done : World → Type 0} (g : Guides t q a At Done) where
  alone_Effects : {first w v : World} → NobodyWoken t first w → At w → Effects t first w v → At v
  alone_Effects n h (no_effect e) = rw e h
  alone_Effects {first} {w} n h (effect_then e more) =
      let k = g.stays h e in alone_Effects (λ b c m d x. n b c m d (k.1 b c m d x)) k.0 more
  alone_Effects {first} {w} n h (effect_owed b c m blocked before e more) = absurd (go (cases_eq b t))
    where
      go : (b ≡ t) ⊎ (b ≡ t → ⊥) → ⊥
      go (inl same) =
          true≢false (sym g.own
          ∙ ap is_of_mutex (same_request (g.goes h).come (subst (λ i. HasCome w i (Wait c m) Reacquiring) same before)))
      go (inr d) = true≢false (sym blocked ∙ ap (is_call_blocked c) (n b c m d before))

  alone_Moves : {w v : World} → At w → Moves t w v → At v
  alone_Moves {w} h (call_expires due e) =
      absurd (true≢false (sym (due_counts w t q (g.goes h).progress (g.goes h).come due) ∙ (g.goes h).undue))
  alone_Moves h (acts due e) = alone_Effects (λ b c m d x. x) h e

  -- a call that may go on isn't told to wait
  never_told_to_wait : {u : World} → At u → rests (with_call_by t after_waits u) t ≡ true → ⊥
  never_told_to_wait {u} h resting = true≢false (sym resting ∙ go)
    where
      k : MayGo u t q
      k = g.goes h

      call : sleeps (call_of (with_call_by t after_waits u) t) ≡ false
      call = ap sleeps (call-recalled u t after_waits refl ∙ ap after_waits k.come) ∙ k.awake

      go : rests (with_call_by t after_waits u) t ≡ false
      go = ap (λ b. if b then true else list_any (λ p. p.0 == t) u.waiters) call ∙ k.unqueued

  -- a step of it goes on, or is answered with that result, and closes it
  pub alone_step : (l : Bounds) (w : World) (x : Seen) (v : World) → At w → Step l w (Happened (Go t) x) v
      → ((r : Refusal) × (x ≡ Refused r)) ⊎ ((x ≡ Went) × At v) ⊎ ((x ≡ Answered a) × Done v × (call_of v t ≡ None))
  alone_step l w x v h step = by_step (step_of l t w x v step)
    where
      by_step : StepOf t w x v → ((r : Refusal) × (x ≡ Refused r)) ⊎ ((x ≡ Went) × At v) ⊎ ((x ≡ Answered a) × Done v × (call_of v t ≡ None))
      by_step (is_refused r e) = inl (r, e)
      by_step (went_on e goes) = inr (inl (e, alone_Moves h goes.moves))
      by_step (told_to_wait u e goes after resting) =
          absurd (never_told_to_wait (alone_Moves h goes.moves) (subst (λ y. rests y t ≡ true) after resting))
      by_step (is_answered r b u e goes before after) =
          let k = alone_Moves h goes.moves in
          let same = same_request before (g.goes k).come in
          let done = g.ends b k (subst (λ i. HasCome u t i (Has b)) same before) in
          inr (inr (
            e ∙ ap Answered (ap (λ i. reported_result i (thread_at w t).timer.expired b) same
                ∙ g.reports (thread_at w t).timer.expired b ∙ done.0),
            subst Done (sym after) done.1,
            ap (λ (y : World). call_of y t) after ∙ call-recalled u t without_call refl,
          ))
