-- What becomes of calls with a deadline over a run: time never falls, nobody that is due is told to wait, and ETIMEDOUT
-- is answered to nobody but who has expired.
use Rattle.std.proofs.Common.{◌≡◌, ◌≢◌, ◌⊎◌, inl, inr, ℕ, ◌≤◌, ◌<◌, Bool, true, false, ◌==◌, List, [], ◌∷◌, Option, Some, None, get_or, length, refl, sym, ap, ◌∙◌, subst, arith, if◌then◌else◌, true≢false, eq-eqb, ne_eqb, ◌||◌, zero, suc}
use Rattle.std.proofs.lemmas.Bool.{cases_eq}
use Rattle.std.proofs.lemmas.Bool.Decides.{nat_tests}
use Rattle.std.proofs.lemmas.List.{get_or-set_same, get_or-set_other}
use Rattle.pif_types.specs.Bounds.{Bounds}
use Rattle.pif_types.specs.declared.errors.Refusal.{Refusal}
use Rattle.pif_types.specs.declared.requests.Request.{Request}
use Rattle.pif_types.specs.declared.requests.Request.TheVariants.{Lock, Wait}
use Rattle.pif_model.specs.declared.events.Event.{Event}
use Rattle.pif_model.specs.declared.events.Event.TheVariants.{Begin, Go, End, Tick}
use Rattle.pif_model.specs.declared.events.Seen.TheVariants.{Begun, Waits, Answered, Refused}
use Rattle.pif_model.specs.declared.events.Entry.{Entry}
use Rattle.pif_model.specs.declared.events.Entry.TheVariants.{Step as Happened}
use Rattle.pif_model.specs.Refusals.{tick_refused}
use Rattle.pif_model.specs.Posix.{Progress, Call, Thread, World, Step, IsRun, Moves, Expires, nobody, new_thread, thread_at, with_thread, at_progress, after_timeout, with_call_by, after_waits, rests, is_due, counts_now, sleeps, is_counting, begun_thread, mutex_at}
use Rattle.pif_model.specs.Posix.Expires.{lock as lock_expires, wait as wait_expires}
use Rattle.pif_model.specs.Posix.Moves.{expires, acts}
use Rattle.pif_model.specs.Posix.Step.{thread_added, mutex_added, cond_added, refused, begun, went, waits, answered, ended, ticked}
use Rattle.pif_model.specs.Posix.IsRun.{start, next}
use Rattle.pif_model.specs.World.Progress.{Waiting, Stuck, Has, Blocked, Reacquiring}
use Rattle.pif_model.specs.Deadlines.{ran_out, is_reached, reported_result}
use Rattle.pif_model.specs.declared.lines.Timer.{Timer}
use Rattle.pif_model_simulation.proofs.runs.Worlds.{call_of, push_same, call-with_progress, begin_allowed}
use Rattle.pif_model_simulation.proofs.runs.Timing.{GoesOn, Quiet, goes_on_then, result_of, call-recalled, quiet_threads, quiet_then, quiet_Effects, quiet_noted, quiet_closed, quiet_Ends}
use Rattle.pif_model_simulation.specs.Fates.{Fate, is_past, is_settled, fate_on, fate_after, fate}
use Rattle.pif_model_simulation.specs.Fates.Fate.{Pending, Expired, Settled}
use Rattle.pif_model_lemmas.proofs.Among.{is_among}
use Rattle.pif_model_lemmas.proofs.Places.{kept_at}
use Rattle.pif_model_lemmas.proofs.Numbers.{within}
use Rattle.pif_model_lemmas.proofs.Waiting.{by_test, names, named-without_same}
use Rattle.pif_model_simulation.proofs.Shown.{either}
use Rattle.pif_model_simulation.proofs.runs.Holding.{same_call, same_progress}
use Rattle.pif_model_simulation.proofs.runs.AllHolding.{IsHeld, acting}
use Rattle.pif_model_simulation.proofs.runs.Holders.{IsHeld-IsRun, due_counts}
use Rattle.pif_model_simulation.proofs.runs.Timing.GoesOn.{stays, closes, comes}

-- TIME

-- an expiry leaves the time
expiry_time : {t : ℕ} {w v : World} → Expires t w v → v.time ≡ w.time
expiry_time (lock_expires m p before e) = ap (λ (x : World). x.time) e
expiry_time (wait_expires c m p before e) = ap (λ (x : World). x.time) e

-- what a Go does leaves the time
moves_time : {t : ℕ} {w v : World} → Moves t w v → v.time ≡ w.time
moves_time (expires due e) = expiry_time e
moves_time (acts due e) = (quiet_Effects e).time

-- a tick that is not refused is not before the present time
not_past : (now n : ℕ) → tick_refused now n ≡ None → now ≤ n
not_past now n e = grind (arith, nat_tests)

same_time : {a b : ℕ} → b ≡ a → a ≤ b
same_time e = omega (arith, e)

-- the time never falls at an entry
pub time_grows : (l : Bounds) (w : World) (e : Entry) (v : World) → Step l w e v → w.time ≤ v.time
time_grows l w e v (thread_added t p same is_next room low high after) = same_time (ap (λ (x : World). x.time) after)
time_grows l w e v (mutex_added m k r same is_next room after) = same_time (ap (λ (x : World). x.time) after)
time_grows l w e v (cond_added c m same known is_next room after) = same_time (ap (λ (x : World). x.time) after)
time_grows l w e v (refused x r same why after) = same_time (ap (λ (y : World). y.time) after)
time_grows l w e v (begun t q same allowed after) = same_time (ap (λ (x : World). x.time) after)
time_grows l w e v (went t same goes runs) = same_time (moves_time goes.moves)
time_grows l w e v (waits t u same goes after resting) =
    same_time (ap (λ (x : World). x.time) after ∙ moves_time goes.moves)
time_grows l w e v (answered t a q u same goes before after runs) =
    same_time (ap (λ (x : World). x.time) after ∙ moves_time goes.moves)
time_grows l w e v (ended t same ends) = same_time (quiet_Ends ends).time
time_grows l w e v (ticked n same allowed after) =
    subst (λ k. w.time ≤ k) (sym (ap (λ (x : World). x.time) after)) (not_past w.time n allowed)

-- WHO IS TOLD TO WAIT

-- who is paired with no mutex is not named
unnamed : (ws : List (ℕ × ℕ)) (t : ℕ) → ((m : ℕ) → is_among ws t m ≡ true → ⊥) → names t ws ≡ false
unnamed [] t n = refl
unnamed (p ∷ ws) t n = by_test (λ b. (p.0 == t) ≡ b → (b || names t ws) ≡ false) (p.0 == t)
    (λ e _. absurd (n p.1 (rw (e, eq-eqb p.1 p.1 refl) refl)))
    (λ e _. unnamed ws t (λ m k. n m (rw e k))) refl

-- a deadline counts for no call that is past waiting
due_not_past : (q : Request) (p : Progress) → counts_now q p ≡ true → is_past q p ≡ true → ⊥
due_not_past (Lock m) Waiting e k = true≢false (sym k)
due_not_past (Lock m) Stuck e k = true≢false (sym k)
due_not_past (Lock m) _ e k = true≢false (sym e)
due_not_past (Wait c m) (Blocked b) e k = true≢false (sym k)
due_not_past (Wait c m) _ e k = true≢false (sym e)
due_not_past _ p e k = true≢false (sym e)

-- whose call expires doesn't rest then
expired_awake : {f : ℕ → Option Request} {counts : ℕ → ℕ → ℕ} {t : ℕ} {w u : World} → IsHeld f counts w
    → is_due w t ≡ true → Expires t w u → rests (with_call_by t after_waits u) t ≡ false
expired_awake {t = t} {w = w} {u = u} h due (lock_expires m p before e) =
    awake ∙ ap (λ (x : World). names t x.waiters) e ∙ named-without_same w.waiters t
  where
    late : call_of u t ≡ Some (record { request = Lock m; progress = Has 110 })
    late = ap (λ x. call_of x t) e ∙ call-with_progress w t (Has 110) ∙ ap (at_progress (Has 110)) before

    awake : rests (with_call_by t after_waits u) t ≡ names t u.waiters
    awake = ap (λ c. if sleeps c then true else names t u.waiters)
        (call-recalled u t after_waits refl ∙ ap after_waits late)
expired_awake {t = t} {w = w} {u = u} h due (wait_expires c m p before e) =
    awake ∙ ap (λ (x : World). names t x.waiters) e
    ∙ unnamed w.waiters t (acting h t (Wait c m) p before not_waiting).alone
  where
    not_waiting : p ≢ Waiting
    not_waiting k = true≢false (sym (due_counts w t (Wait c m) p before due) ∙ ap (counts_now (Wait c m)) k)

    x : Thread
    x = record (thread_at w t) { timer = ran_out (thread_at w t).timer }

    kept : call_of (after_timeout t w) t ≡ call_of w t
    kept = kept_at (λ (y : Thread). y.call) w.threads t x nobody refl t

    late : call_of u t ≡ Some (record { request = Wait c m; progress = Reacquiring })
    late = ap (λ y. call_of y t) e ∙ call-with_progress (after_timeout t w) t Reacquiring
        ∙ ap (at_progress Reacquiring) (kept ∙ before)

    awake : rests (with_call_by t after_waits u) t ≡ names t u.waiters
    awake = ap (λ a. if sleeps a then true else names t u.waiters)
        (call-recalled u t after_waits refl ∙ ap after_waits late)

-- what a Go does after which its thread rests is no expiry
acts_if_rests : {f : ℕ → Option Request} {counts : ℕ → ℕ → ℕ} {t : ℕ} {w u : World} → IsHeld f counts w
    → Moves t w u → rests (with_call_by t after_waits u) t ≡ true → is_due w t ≡ false
acts_if_rests h (expires due e) resting = absurd (true≢false (sym resting ∙ expired_awake h due e))
acts_if_rests h (acts due e) resting = due

-- who is told to wait was not due
pub waits_undue : (l : Bounds) (h : List Entry) (r : List World) (w v : World) (t : ℕ) → IsRun l h r w
    → Step l w (Happened (Go t) Waits) v → is_due w t ≡ false
waits_undue l h r w v t run (thread_added u p same is_next room low high after) = absurd (cc)
waits_undue l h r w v t run (mutex_added m k b same is_next room after) = absurd (cc)
waits_undue l h r w v t run (cond_added c m same known is_next room after) = absurd (cc)
waits_undue l h r w v t run (refused x a same why after) = absurd (cc)
waits_undue l h r w v t run (begun u q same allowed after) = absurd (cc)
waits_undue l h r w v t run (went u same goes runs) = absurd (cc)
waits_undue l h r w v t run (waits u x same goes after resting) =
    let e : u ≡ t = cc in
    subst (λ i. is_due w i ≡ false) e (acts_if_rests (IsHeld-IsRun l run) goes.moves
    (subst (λ y. rests y u ≡ true) after resting))
waits_undue l h r w v t run (answered u a q x same goes before after runs) = absurd (cc)
waits_undue l h r w v t run (ended u same ends) = absurd (cc)
waits_undue l h r w v t run (ticked n same allowed after) = absurd (cc)

-- FATES

-- what is known of a thread by what has become of its last call: it has run out of time, or has the result ETIMEDOUT,
-- only if it has expired; and if it was settled it still is
record Fated (f : Fate) (x : Thread) : Type 0 where
  expired : x.timer.expired ≡ true → f ≡ Expired
  late : (q : Request) → x.call ≡ Some (record { request = q; progress = Has 110 }) → f ≡ Expired
  settled : f ≡ Settled → (c : Call) → x.call ≡ Some c → is_past c.request c.progress ≡ true

-- of one that has expired nothing more is asked
has_expired : {f : Fate} {x : Thread} → f ≡ Expired → Fated f x
has_expired e = record { expired = λ k. e; late = λ q k. e; settled = λ k. absurd (let z = sym e ∙ k in cc) }

-- what has expired stays so
stays_expired : (own due settled : Bool) (f : Fate) → f ≡ Expired → fate_on own due settled f ≡ Expired
stays_expired own due settled f e = ap (fate_on own due settled) e

-- what is settled after a step is past waiting before it
was_past : (own due : Bool) (f : Fate) (x : Thread) → Fated f x → fate_on own due (is_settled x.call) f ≡ Settled
    → (c : Call) → x.call ≡ Some c → is_past c.request c.progress ≡ true
was_past own due Pending x h e c k = go (if own then due else false) (is_settled x.call) refl e
  where
    go : (a b : Bool) → is_settled x.call ≡ b → (if a then Expired else (if b then Settled else Pending)) ≡ Settled
        → is_past c.request c.progress ≡ true
    go true b s z = absurd (cc)
    go false true s z = sym (ap is_settled k) ∙ s
    go false false s z = absurd (cc)
was_past own due Expired x h e c k = absurd (cc)
was_past own due Settled x h e c k = h.settled refl c k

-- a thread that keeps its timer and whose call goes on
follows : (own due : Bool) (f : Fate) (x y : Thread) → Fated f x → y.timer ≡ x.timer → GoesOn x.call y.call
    → Fated (fate_on own due (is_settled x.call) f) y
follows own due f x y h t g = record {
  expired = λ e. stays_expired own due (is_settled x.call) f (h.expired (sym (ap (λ (z : Timer). z.expired) t) ∙ e));
  late = λ q e. by_late q e g;
  settled = λ e c k. by_past e c k g;
}
  where
    by_late : (q : Request) → y.call ≡ Some (record { request = q; progress = Has 110 }) → GoesOn x.call y.call
        → fate_on own due (is_settled x.call) f ≡ Expired
    by_late q e (stays k) = stays_expired own due (is_settled x.call) f (h.late q (sym k ∙ e))
    by_late q e (closes k) = absurd (let z = sym e ∙ k in cc)
    by_late q e (comes r p b k l past n) = absurd (n (same_progress l e))

    by_past : fate_on own due (is_settled x.call) f ≡ Settled → (c : Call) → y.call ≡ Some c → GoesOn x.call y.call
        → is_past c.request c.progress ≡ true
    by_past e c k (stays z) = was_past own due f x h e c (sym z ∙ k)
    by_past e c k (closes z) = absurd (let a = sym k ∙ z in cc)
    by_past e c k (comes r p b z l past n) =
        subst (λ (d : Call). is_past d.request d.progress ≡ true) (same_call l k)
        (past (was_past own due f x h e (record { request = r; progress = p }) z))

-- a step of a thread that is due makes its call expire
due_expires : (w : World) (t : ℕ) (f : Fate) → Fated f (thread_at w t) → is_due w t ≡ true
    → fate_on (t == t) (is_due w t) (is_settled (call_of w t)) f ≡ Expired
due_expires w t Pending h due = rw (eq-eqb t t refl, due) refl
due_expires w t Expired h due = refl
due_expires w t Settled h due = absurd (by_call (call_of w t) refl)
  where
    by_call : (o : Option Call) → call_of w t ≡ o → ⊥
    by_call None e = true≢false (sym due ∙ ap (λ c. if is_reached (thread_at w t).timer.deadline w.time
        then is_counting c else false) e ∙ either (is_reached (thread_at w t).timer.deadline w.time))
    by_call (Some c) e = due_not_past c.request c.progress (due_counts w t c.request c.progress e due) (h.settled refl c e)

-- an expiry leaves the other threads
expiry_others : {t : ℕ} {w v : World} → Expires t w v → (u : ℕ) → u ≢ t → thread_at v u ≡ thread_at w u
expiry_others {t} {w} (lock_expires m p before e) u d =
    ap (λ x. thread_at x u) e ∙ get_or-set_other w.threads t u _ nobody d
expiry_others {t} {w} (wait_expires c m p before e) u d =
    ap (λ x. thread_at x u) e ∙ get_or-set_other (after_timeout t w).threads t u _ nobody d
    ∙ get_or-set_other w.threads t u _ nobody d

-- a Go of t, and what is made of the calls then
moves_fated : {t : ℕ} {w v z : World} → Moves t w v → Quiet v z → (u : ℕ) (f : Fate) → Fated f (thread_at w u)
    → Fated (fate_on (t == u) (is_due w u) (is_settled (call_of w u)) f) (thread_at z u)
moves_fated {t} {w} {v} {z} (acts due e) q u f h =
    let a = quiet_then (quiet_Effects e) q in
    follows (t == u) (is_due w u) f (thread_at w u) (thread_at z u) h (a.timer u) (a.call u)
moves_fated {t} {w} {v} {z} (expires due e) q u f h = go (cases_eq u t)
  where
    go : (u ≡ t) ⊎ (u ≢ t)
        → Fated (fate_on (t == u) (is_due w u) (is_settled (call_of w u)) f) (thread_at z u)
    go (inl k) = has_expired (subst (λ i. fate_on (i == u) (is_due w u) (is_settled (call_of w u)) f ≡ Expired) k
        (due_expires w u f h (ap (is_due w) k ∙ due)))
    go (inr d) = follows (t == u) (is_due w u) f (thread_at w u) (thread_at z u) h
        (q.timer u ∙ ap (λ (x : Thread). x.timer) (expiry_others e u d))
        (goes_on_then (stays (ap (λ (x : Thread). x.call) (expiry_others e u d))) (q.call u))

-- a state in which each thread is as what became of its last call
abbrev AllFated : List Entry → List World → World → Type 0
AllFated h r w = (t : ℕ) → Fated (fate t h r) (thread_at w t)

-- a refused event changes nothing
refused_fated : (x : Event) (a : Refusal) (w : World) (t : ℕ) (f : Fate) → Fated f (thread_at w t)
    → Fated (fate_after t (Happened x (Refused a)) w f) (thread_at w t)
refused_fated (Begin u q) a w t f h = follows false (is_due w t) f (thread_at w t) (thread_at w t) h refl (stays refl)
refused_fated (Go u) a w t f h = follows (u == t) (is_due w t) f (thread_at w t) (thread_at w t) h refl (stays refl)
refused_fated (End u) a w t f h = follows false (is_due w t) f (thread_at w t) (thread_at w t) h refl (stays refl)
refused_fated (Tick n) a w t f h = follows false (is_due w t) f (thread_at w t) (thread_at w t) h refl (stays refl)

-- a call begins
begun_fated : (u : ℕ) (q : Request) (w : World) (t : ℕ) (f : Fate) → Fated f (thread_at w t) → u < length w.threads
    → Fated (fate_after t (Happened (Begin u q) Begun) w f)
    (thread_at (with_thread u (begun_thread w q (thread_at w u)) w) t)
begun_fated u q w t f h there = go (cases_eq t u)
  where
    x : Thread
    x = begun_thread w q (thread_at w u)

    fresh : Fated Pending x
    fresh = record {
      expired = λ e. absurd (true≢false (sym e));
      late = λ r e. absurd (let z = ap result_of (same_progress e refl) in omega arith);
      settled = λ e. absurd (cc);
    }

    go : (t ≡ u) ⊎ (t ≢ u) → Fated (fate_after t (Happened (Begin u q) Begun) w f) (thread_at (with_thread u x w) t)
    go (inl e) = subst (λ i. Fated (if i == t then Pending else fate_on false (is_due w t) (is_settled (call_of w t)) f)
        (thread_at (with_thread i x w) t)) e
        (rw (eq-eqb t t refl, get_or-set_same w.threads t x nobody (subst (λ i. i < length w.threads) (sym e) there)) fresh)
    go (inr d) = rw (ne_eqb u t (λ e. d (sym e)), get_or-set_other w.threads u t x nobody d)
        (follows false (is_due w t) f (thread_at w t) (thread_at w t) h refl (stays refl))

-- what the state has after an entry is as what became of the calls
step_fated : (l : Bounds) (h : List Entry) (r : List World) (w : World) (e : Entry) (v : World) → AllFated h r w
    → Step l w e v → AllFated (e ∷ h) (w ∷ r) v
step_fated l h r w e v all (thread_added t p same is_next room low high after) u =
    rw (same, after) (follows false (is_due w u) (fate u h r) (thread_at w u) _ (all u)
    (push_same (λ (x : Thread). x.timer) w.threads (new_thread p) nobody u refl)
    (stays (push_same (λ (x : Thread). x.call) w.threads (new_thread p) nobody u refl)))
step_fated l h r w e v all (mutex_added m k b same is_next room after) u =
    rw (same, after) (follows false (is_due w u) (fate u h r) (thread_at w u) (thread_at w u) (all u) refl (stays refl))
step_fated l h r w e v all (cond_added c m same known is_next room after) u =
    rw (same, after) (follows false (is_due w u) (fate u h r) (thread_at w u) (thread_at w u) (all u) refl (stays refl))
step_fated l h r w e v all (refused x a same why after) u =
    rw (same, after) (refused_fated x a w u (fate u h r) (all u))
step_fated l h r w e v all (begun t q same allowed after) u =
    rw (same, after) (begun_fated t q w u (fate u h r) (all u)
    (within t (length w.threads) (begin_allowed w t q allowed).0).1)
step_fated l h r w e v all (went t same goes runs) u =
    rw same (moves_fated goes.moves (quiet_threads {w = v} {v = v} refl refl) u (fate u h r) (all u))
step_fated l h r w e v all (waits t x same goes after resting) u =
    rw (same, after) (moves_fated goes.moves (quiet_noted x t) u (fate u h r) (all u))
step_fated l h r w e v all (answered t a q x same goes before after runs) u =
    rw (same, after) (moves_fated goes.moves (quiet_closed x t) u (fate u h r) (all u))
step_fated l h r w e v all (ended t same ends) u =
    let a = quiet_Ends ends in
    rw same (follows false (is_due w u) (fate u h r) (thread_at w u) (thread_at v u) (all u) (a.timer u) (a.call u))
step_fated l h r w e v all (ticked n same allowed after) u =
    rw (same, after) (follows false (is_due w u) (fate u h r) (thread_at w u) (thread_at w u) (all u) refl (stays refl))

-- and so over a run
run_fated : (l : Bounds) {h : List Entry} {r : List World} {w : World} → IsRun l h r w → AllFated h r w
run_fated l (start e) = λ t. rw e (none t)
  where
    none : (t : ℕ) → Fated Pending (get_or (nobody ∷ []) t nobody)
    none t = rw (lone t) (record {
      expired = λ e. absurd (true≢false (sym e));
      late = λ q e. absurd (cc);
      settled = λ e. absurd (cc);
    })
      where
        lone : (t : ℕ) → get_or (nobody ∷ []) t nobody ≡ nobody
        lone zero = refl
        lone (suc t) = refl
run_fated l (next {h = h} {r = r} {e = e} {w = w} {v = v} run step) = step_fated l h r w e v (run_fated l run) step

-- WHO IS ANSWERED ETIMEDOUT

-- a result that is not to be told otherwise is told as it is
told_as_is : (q : Request) (a : ℕ) → reported_result q false a ≡ a
told_as_is (Wait c m) a = refl
told_as_is _ a = refl

-- a call that goes on to ETIMEDOUT had it, and has expired
late_before : {f : Fate} {x : Thread} {o : Option Call} → Fated f x → GoesOn x.call o → (q : Request)
    → o ≡ Some (record { request = q; progress = Has 110 }) → f ≡ Expired
late_before h (stays k) q e = h.late q (sym k ∙ e)
late_before h (closes k) q e = absurd (let z = sym e ∙ k in cc)
late_before h (comes r p b k l past n) q e = absurd (n (same_progress l e))

-- a call with this result that is told as ETIMEDOUT has expired
told_late : (w u : World) (t a : ℕ) (q : Request) (f : Fate) → Fated f (thread_at w t) → Moves t w u
    → call_of u t ≡ Some (record { request = q; progress = Has a })
    → reported_result q (thread_at w t).timer.expired a ≡ 110
    → fate_on (t == t) (is_due w t) (is_settled (call_of w t)) f ≡ Expired
told_late w u t a q f h (expires due e) before told_so = due_expires w t f h due
told_late w u t a q f h (acts due e) before told_so =
    stays_expired (t == t) (is_due w t) (is_settled (call_of w t)) f (go (thread_at w t).timer.expired refl told_so)
  where
    go : (b : Bool) → (thread_at w t).timer.expired ≡ b → reported_result q b a ≡ 110 → f ≡ Expired
    go true k z = h.expired k
    go false k z = late_before h ((quiet_Effects e).call t) q
        (before ∙ ap (λ n. Some (record { request = q; progress = Has n })) (sym (told_as_is q a) ∙ z))

-- the answer of an entry
abbrev answer_of : Entry → ℕ
answer_of (Happened (Go u) (Answered a)) = a
answer_of _ = 0

-- and its thread
abbrev actor_of : Entry → ℕ
actor_of (Happened (Go u) x) = u
actor_of _ = 0

-- who is answered ETIMEDOUT has expired
pub late_expired : (l : Bounds) (h : List Entry) (r : List World) (w v : World) (t : ℕ) → IsRun l h r w
    → Step l w (Happened (Go t) (Answered 110)) v → fate t (Happened (Go t) (Answered 110) ∷ h) (w ∷ r) ≡ Expired
late_expired l h r w v t run (thread_added u p same is_next room low high after) = absurd (cc)
late_expired l h r w v t run (mutex_added m k b same is_next room after) = absurd (cc)
late_expired l h r w v t run (cond_added c m same known is_next room after) = absurd (cc)
late_expired l h r w v t run (refused x a same why after) = absurd (cc)
late_expired l h r w v t run (begun u q same allowed after) = absurd (cc)
late_expired l h r w v t run (went u same goes runs) = absurd (cc)
late_expired l h r w v t run (waits u x same goes after resting) = absurd (cc)
late_expired l h r w v t run (answered u a q x same goes before after runs) =
    subst (λ i. fate i (Happened (Go i) (Answered 110) ∷ h) (w ∷ r) ≡ Expired) actor
    (told_late w x u a q (fate u h r) (run_fated l run u) goes.moves before (sym (ap answer_of same)))
  where
    actor : u ≡ t
    actor = ap actor_of (sym same)
late_expired l h r w v t run (ended u same ends) = absurd (cc)
late_expired l h r w v t run (ticked n same allowed after) = absurd (cc)

-- THE LAWS OVER RUNS

-- the last entry of a run is a step from the state before it
pub last_step : (l : Bounds) (h : List Entry) (r : List World) (e : Entry) (w v : World) → IsRun l (e ∷ h) (w ∷ r) v
    → IsRun l h r w × Step l w e v
last_step l h r e w v (next run step) = (run, step)

-- the time of a run never falls
pub time_never_falls : (l : Bounds) (h : List Entry) (r : List World) (e : Entry) (w v : World)
    → IsRun l (e ∷ h) (w ∷ r) v → w.time ≤ v.time
time_never_falls l h r e w v run = time_grows l w e v (last_step l h r e w v run).1

-- who is told to wait at the end of a run was not due
pub only_undue_wait : (l : Bounds) (h : List Entry) (r : List World) (w v : World) (t : ℕ)
    → IsRun l (Happened (Go t) Waits ∷ h) (w ∷ r) v → is_due w t ≡ false
only_undue_wait l h r w v t run =
    let a = last_step l h r (Happened (Go t) Waits) w v run in waits_undue l h r w v t a.0 a.1

-- who is answered ETIMEDOUT at the end of a run has expired
pub timed_out_expired : (l : Bounds) (h : List Entry) (r : List World) (w v : World) (t : ℕ)
    → IsRun l (Happened (Go t) (Answered 110) ∷ h) (w ∷ r) v
    → fate t (Happened (Go t) (Answered 110) ∷ h) (w ∷ r) ≡ Expired
timed_out_expired l h r w v t run =
    let a = last_step l h r (Happened (Go t) (Answered 110)) w v run in late_expired l h r w v t a.0 a.1

-- an expiry leaves all mutexes
pub expiry_mutexes : (t : ℕ) (w v : World) → Expires t w v → (m : ℕ) → mutex_at v m ≡ mutex_at w m
expiry_mutexes t w v (lock_expires n p before e) m = ap (λ x. mutex_at x m) e
expiry_mutexes t w v (wait_expires c n p before e) m = ap (λ x. mutex_at x m) e
