-- A thread is unblocked by a use of the variable that it waits for, or runs out of time.
use Rattle.std.proofs.Common.{ℕ, ◌≡◌, ◌∙◌, ◌==◌, ◌||◌, true, false, List, [], ◌∷◌, Option, Some, None, unwrap_or, refl, sym, ap, subst, eqb-true, if◌then◌else◌}
use Rattle.std.specs.List.{list_any}
use Rattle.std.proofs.lemmas.Bool.{true≢false, eq-eqb}
use Rattle.std.proofs.Math.ListN.{get_or-map}
use Rattle.pif_types.specs.declared.requests.Request.{Request}
use Rattle.pif_types.specs.Shapes.{Shape, shape_of, waits, names}
use Rattle.pif_types.specs.Shapes.Shape.{Awaits}
use Rattle.pif_model.specs.Deadlines.{ran_out}
use Rattle.pif_model.specs.Posix.{World, Thread, Call, Progress, nobody, thread_at, at_progress, with_progress, with_call_by, with_base, after_unblocking, on_unblocking, after_use, after_timeout, all_unblocked, used, variable_of, is_idle, is_blocked, is_newly_blocked, is_call_blocked}
use Rattle.pif_model_lemmas.proofs.Places.{kept_at}
use Rattle.pif_model_lemmas.proofs.Waiting.{by_test, or_true}
use Rattle.pif_model_simulation.proofs.runs.Holding.{request_of, same_request}
use Rattle.pif_model_simulation.proofs.runs.Worlds.{call_of}
use Rattle.pif_history_model.specs.declared.lines.Line.{Line}
use Rattle.pif_history_model.specs.Wakeups.{waited_variable, HasOpenUse}
use Rattle.pif_history_model.proofs.WokenTold.{AreTold, IsThreadTold, is_woken, told_less, told_used, told_written}

-- WHOSE VARIABLE IS IN USE

-- a request, if it is a wait, waits for a variable that is in use by these lines
pub record IsInUse (lines : List Line) (o : Option Request) : Type 0 where
  pub each : (q : Request) (c : ℕ) → o ≡ Some q → waited_variable q ≡ Some c → HasOpenUse c lines

-- a wait names the variable for which it waits
waited_is_named : (s : Shape) (c : ℕ) → waits s ≡ Some c → unwrap_or (names s).cond 0 ≡ c
waited_is_named (Awaits d m k) c e = cc
waited_is_named _ c e = absurd (cc)

-- who is blocked on a variable in use waits for one
pub in_use-from_blocked : (lines : List Line) (c : ℕ) (o : Option Call) → HasOpenUse c lines
    → is_call_blocked c o ≡ true
    → IsInUse lines (request_of o)
in_use-from_blocked lines c None i e = absurd (true≢false (sym e))
in_use-from_blocked lines c (Some x) i e =
    record { each = λ q d is waits. subst (λ k. HasOpenUse k lines) (sym (same q d is waits)) i }
  where
    named : variable_of x.request ≡ c
    named =
        by_test (λ b. (if b then variable_of x.request == c else false) ≡ true → variable_of x.request ≡ c)
        (is_blocked x.progress) (λ _ k. eqb-true (variable_of x.request) c k) (λ _ k. absurd (true≢false (sym k))) e

    same : (q : Request) (d : ℕ) → Some x.request ≡ Some q → waited_variable q ≡ Some d → d ≡ c
    same q d is waits =
        let asked : x.request ≡ q = cc in
        sym (waited_is_named (shape_of x.request) d (ap waited_variable asked ∙ waits)) ∙ named

-- so is who is newly blocked
in_use-from_newly : (lines : List Line) (c : ℕ) (o : Option Call) → HasOpenUse c lines → is_newly_blocked c o ≡ true
    → IsInUse lines (request_of o)
in_use-from_newly lines c None i e = absurd (true≢false (sym e))
in_use-from_newly lines c (Some x) i e =
    in_use-from_blocked lines c (Some x) i
    (by_test (λ b. (if b then false else is_call_blocked c (Some x)) ≡ true → is_call_blocked c (Some x) ≡ true)
    (is_idle x.progress) (λ _ k. absurd (true≢false (sym k))) (λ _ k. k) e)

-- WHO IS UNBLOCKED

-- a call that was unblocked was open before
was_open : (o : Option Call) (q : Request) (p : Progress)
    → after_unblocking o ≡ Some (record { request = q; progress = p })
    → (k : Progress) × (o ≡ Some (record { request = q; progress = k }))
was_open None q p e = absurd (cc)
was_open (Some x) q p e =
    let before : after_unblocking (Some x) ≡ Some (record x { progress = on_unblocking x.progress }) = refl in
    (x.progress, ap (λ k. Some (record { request = k; progress = x.progress })) (same_request before e))

-- a thread is unblocked whose variable is in use
thread_unblocked : {lines : List Line} (t : ℕ) (y : Thread) → IsThreadTold lines t y → IsInUse lines (request_of y.call)
    → IsThreadTold lines t (record y { call = after_unblocking y.call })
thread_unblocked t y told i q p e =
    let o = was_open y.call q p e in
    told_used (is_woken q o.0 y.timer.expired) (is_woken q p y.timer.expired)
    (λ c waits. i.each q c (ap request_of o.1) waits) (told q o.0 o.1)

pub told_unblocked : {lines : List Line} {w : World} (t : ℕ) → AreTold lines w
    → IsInUse lines (request_of (call_of w t))
    → AreTold lines (with_call_by t after_unblocking w)
told_unblocked {w = w} t told i = told_written t _ told (thread_unblocked t (thread_at w t) (told.each t) i)

-- requests stay when a call is unblocked, or comes further
kept_request : (o : Option Call) → request_of (after_unblocking o) ≡ request_of o
kept_request None = refl
kept_request (Some x) = refl

unblocked_request : (w : World) (t u : ℕ)
    → request_of (call_of (with_call_by t after_unblocking w) u) ≡ request_of (call_of w u)
unblocked_request w t u =
    kept_at (λ (y : Thread). request_of y.call) w.threads t _ nobody (kept_request (call_of w t)) u

further_request : (p : Progress) (o : Option Call) → request_of (at_progress p o) ≡ request_of o
further_request p None = refl
further_request p (Some x) = refl

pub progress_request : (w : World) (t : ℕ) (p : Progress) (u : ℕ)
    → request_of (call_of (with_progress t p w) u) ≡ request_of (call_of w u)
progress_request w t p u =
    kept_at (λ (y : Thread). request_of y.call) w.threads t _ nobody (further_request p (call_of w t)) u

-- several threads are unblocked
pub told_all_unblocked : {lines : List Line} (us : List ℕ) (w : World) → AreTold lines w
    → ((u : ℕ) → list_any (λ x. x == u) us ≡ true → IsInUse lines (request_of (call_of w u)))
    → AreTold lines (all_unblocked us w)
unfolding all_unblocked
told_all_unblocked [] w told i = told
told_all_unblocked {lines} (t ∷ us) w told i =
    told_all_unblocked us (with_call_by t after_unblocking w) (told_unblocked t told (i t here))
    (λ u among. subst (λ (o : Option Request). IsInUse lines o) (sym (unblocked_request w t u)) (i u (there u among)))
  where
    here : list_any (λ x. x == t) (t ∷ us) ≡ true
    here = ap (λ b. b || list_any (λ x. x == t) us) (eq-eqb t t refl)

    there : (u : ℕ) → list_any (λ x. x == u) us ≡ true → list_any (λ x. x == u) (t ∷ us) ≡ true
    there u among = ap (λ b. (t == u) || b) among ∙ or_true (t == u)

-- a variable is used: who was newly blocked on it is unblocked
pub told_uses : {lines : List Line} {w : World} (c : ℕ) → AreTold lines w → HasOpenUse c lines
    → AreTold lines (used c w)
told_uses {lines} {w} c told i =
    record {
      each = λ t.
          subst (λ (y : Thread). IsThreadTold lines t y) (sym (get_or-map (after_use c) w.threads t nobody)) (go t);
    }
  where
    go : (t : ℕ) → IsThreadTold lines t (after_use c (thread_at w t))
    go t =
        by_test
        (λ b. IsThreadTold lines t
        (if b then record (thread_at w t) { call = after_unblocking (call_of w t) } else thread_at w t))
        (is_newly_blocked c (call_of w t))
        (λ e. thread_unblocked t (thread_at w t) (told.each t) (in_use-from_newly lines c (call_of w t) i e))
        (λ _. told.each t)

-- a call runs out of time
pub told_timeout : {lines : List Line} {w : World} (t : ℕ) → AreTold lines w → AreTold lines (after_timeout t w)
told_timeout {lines} {w} t told = told_written t _ told own
  where
    own : IsThreadTold lines t (record (thread_at w t) { timer = ran_out (thread_at w t).timer })
    own q p e =
        told_less (is_woken q p (thread_at w t).timer.expired) false (λ k. absurd (true≢false (sym k)))
        (told.each t q p e)

-- a thread has another priority
pub told_base : {lines : List Line} {w : World} (t p : ℕ) → AreTold lines w → AreTold lines (with_base t p w)
told_base t p told = told_written t _ told (λ q o e. told.each t q o e)
