-- The begin and the answer of a call stay on their side, depend on it alone, and keep the sides apart.
use Rattle.std.proofs.Common.{ℕ, zero, suc, ◌≡◌, ◌≢◌, ◌∙◌, ◌==◌, ◌||◌, Bool, true, false, cond, List, [], ◌∷◌, length, get_or, set, nat_lt, Some, None, is_some, refl, sym, ap, subst, inl, inr, true≢false, eqb-true, if◌then◌else◌, filter}
use Rattle.std.specs.List.{list_any}
use Rattle.std.proofs.lemmas.Bool.{cases_eq, false_from_ne_true}
use Rattle.std.proofs.lemmas.List.{get_or-set_other, length-set}
use Rattle.pif_types.specs.declared.requests.Request.{Request}
use Rattle.pif_types.specs.Shapes.{Shape, shape_of, names_of, uses, names}
use Rattle.pif_types.specs.Shapes.Shape.{Wakes}
use Rattle.pif_types.specs.declared.requests.Request.TheVariants.{TimedLock, TimedWait}
use Rattle.pif_model.specs.declared.events.Event.TheVariants.{Begin, End}
use Rattle.pif_model.specs.Refusals.{begin_refused, end_refused}
use Rattle.pif_components_model.specs.Components.IsNamed.{variable as names_variable}
use Rattle.pif_model.specs.Deadlines.{plain, timer_of, reported_result}
use Rattle.pif_model.specs.Posix.{World, Thread, Memory, nobody, refusal_of, names_known, thread_at, with_thread, with_call_by, without_call, begun_thread, begun_memory, memory_by, blocked_below, is_blocked_on, rests, sleeps}
use Rattle.pif_model.specs.World.Progress.{Fresh}
use Rattle.pif_posix_steps.specs.Once.{Answers}
use Rattle.pif_components_model.specs.Components.{Side}
use Rattle.pif_components_model.specs.Components.Name.{OfThread, OfVariable}
use Rattle.pif_components_model.specs.Sides.{Agrees, IsSplit, IsBeside, request_of}
use Rattle.pif_components_model.proofs.Lists.{at_place}
use Rattle.pif_components_model.proofs.Frames.{Passed, blocked_side}
use Rattle.pif_components_model.proofs.Reading.{blocked_same, go_same}
use Rattle.pif_components_model.proofs.Changes.{same_thread}
use Rattle.pif_components_model.proofs.Echoes.{Echo}

-- a thread of t's side changes; what its call names is on its side
pub passed_newly : (x : Side) (t u : ℕ) (y : Thread) (w : World) → IsSplit x w → x (OfThread u) ≡ x (OfThread t)
    → ((q : Request) → request_of y.call ≡ Some q → IsBeside x u q) → Passed x t w (with_thread u y w)
passed_newly x t u y w s side good = record {
  frame = λ off. record {
    thread = λ a on. get_or-set_other w.threads u a y nobody (λ e. true≢false (sym on ∙ ap (λ n. x (OfThread n)) e ∙ side ∙ off));
    mutex = λ a some on. refl;
    variable = λ a some on. refl;
    waiters = refl;
    threads = length-set w.threads u y;
    mutexes = refl;
    variables = refl;
    signals = refl;
    time = refl;
  };
  split = record {
    calls = λ a. elim (cases_eq a u) [
      | inl e ↦ subst (λ n. Names n (get_or (set w.threads u y) n nobody)) (sym e) (at_place nobody (Names u) w.threads u y good (s.calls u))
      | inr ne ↦ subst (Names a) (sym (get_or-set_other w.threads u a y nobody ne)) (s.calls a)
    ];
    waiters = s.waiters;
    owners = s.owners;
  };
}
  where
    Names : ℕ → Thread → Type 0
    Names n z = (q : Request) → request_of z.call ≡ Some q → IsBeside x n q

-- a filter by thread keeps whether a thread that passes is among the waiters
named_filtered : (f : ℕ → Bool) (ws : List (ℕ × ℕ)) (u : ℕ) → f u ≡ true
    → list_any (λ p. p.0 == u) (filter (λ p. f p.0) ws) ≡ list_any (λ p. p.0 == u) ws
named_filtered f [] u h = refl
named_filtered f (p ∷ ws) u h = step (f p.0) (p.0 == u) refl refl (named_filtered f ws u h)
  where
    step : (b c : Bool) → f p.0 ≡ b → (p.0 == u) ≡ c → list_any (λ p. p.0 == u) (filter (λ p. f p.0) ws) ≡ list_any (λ p. p.0 == u) ws
        → list_any (λ p. p.0 == u) (cond b (p ∷ filter (λ p. f p.0) ws) (filter (λ p. f p.0) ws)) ≡ (c || list_any (λ p. p.0 == u) ws)
    step true c e k ih = ap (λ (z : Bool). z || list_any (λ p. p.0 == u) (filter (λ p. f p.0) ws)) k ∙ ap (λ (z : Bool). c || z) ih
    step false false e k ih = ih
    step false true e k ih = absurd (true≢false (sym h ∙ ap f (sym (eqb-true p.0 u k)) ∙ e))

-- whether a thread rests depends on its side
pub rests_same : (x : Side) (w v : World) → Agrees x w v → (t : ℕ) → x (OfThread t) ≡ true → rests v t ≡ rests w t
rests_same x w v a t on =
    (λ i. if sleeps (a.thread t on i).call then true else list_any (λ p. p.0 == t) v.waiters)
    ∙ ap (λ (b : Bool). if sleeps (thread_at w t).call then true else b)
    (sym (named_filtered (λ n. x (OfThread n)) v.waiters t on)
    ∙ ap (list_any (λ (p : ℕ × ℕ). p.0 == t)) a.waiters
    ∙ named_filtered (λ n. x (OfThread n)) w.waiters t on)

-- ANSWERS

-- t's call is answered, and closes
pub passes_answer : (x : Side) (t a : ℕ) (w : World) → IsSplit x w → {v : World} → Answers t a w v → Passed x t w v
passes_answer x t a w s y =
    subst (Passed x t w) (sym y.closes) (passed_newly x t t _ w s refl (λ q e. absurd (cc)))

pub echo_answer : (x : Side) (w v : World) → IsSplit x w → IsSplit x v → Agrees x w v → (t : ℕ) → x (OfThread t) ≡ true → (b : ℕ) → {u : World}
    → Answers t b w u → Echo x (Answers t b v) u
echo_answer x w v s r a t on b {u} y =
    let same : Agrees x u (with_call_by t without_call v) =
    subst (λ (z : World). Agrees x z (with_call_by t without_call v)) (sym y.closes)
    (same_thread x w v a t _ _ (λ i. record (a.thread t on i) { call = None })) in
    record {
      after = with_call_by t without_call v;
      step = record {
        request = y.request;
        result = y.result;
        call = ap (λ (z : Thread). z.call) (a.thread t on) ∙ y.call;
        told = y.told ∙ ap (λ (z : Thread). reported_result y.request z.timer.expired y.result) (sym (a.thread t on));
        allowed = go_same x w v s r a t on ∙ y.allowed;
        goes_on = rests_same x u (with_call_by t without_call v) same t on ∙ y.goes_on;
        closes = refl;
      };
      agrees = same;
    }

-- BEGINS

-- t begins a call
pub passes_begin : (x : Side) (t : ℕ) (q : Request) (w : World) → IsSplit x w → IsBeside x t (plain q)
    → Passed x t w (with_thread t (begun_thread w q (thread_at w t)) w)
passes_begin x t q w s b = passed_newly x t t _ w s refl (λ k e. subst (IsBeside x t) (cc) b)

module _ (x : Side) (w v : World) (s : IsSplit x w) (r : IsSplit x v) (a : Agrees x w v) where
  -- who is blocked on a variable of the side depends on it
  module _ (c : ℕ) (some : c ≢ 0) (its : x (OfVariable c) ≡ true) where
    blocked_alike : (u : ℕ) (b : Bool) → x (OfThread u) ≡ b → is_blocked_on v c u ≡ is_blocked_on w c u
    blocked_alike u true e = blocked_same x w v s r a c u e
    blocked_alike u false e =
        false_from_ne_true _ (λ h. true≢false (sym its ∙ sym (blocked_side x v r c u some h) ∙ e))
        ∙ sym (false_from_ne_true _ (λ h. true≢false (sym its ∙ sym (blocked_side x w s c u some h) ∙ e)))

    found_same : (n : ℕ) → blocked_below v c n ≡ blocked_below w c n
    unfolding blocked_below
    found_same zero = refl
    found_same (suc n) =
        ap (λ (b : Bool). if b then (n, (thread_at v n).memory.waits) ∷ blocked_below v c n else blocked_below v c n) (blocked_alike n (x (OfThread n)) refl)
        ∙ step (is_blocked_on w c n) refl (found_same n)
      where
        step : (b : Bool) → is_blocked_on w c n ≡ b → blocked_below v c n ≡ blocked_below w c n
            → (if b then (n, (thread_at v n).memory.waits) ∷ blocked_below v c n else blocked_below v c n)
            ≡ (if b then (n, (thread_at w n).memory.waits) ∷ blocked_below w c n else blocked_below w c n)
        step true e ih = λ i. (n, (a.thread n (blocked_side x w s c n some e ∙ its) i).memory.waits) ∷ ih i
        step false e ih = ih

  -- what is remembered once a call begins depends on the side of what it names
  memory_alike : (k : Shape) → ((c : ℕ) → uses k ≡ Some c → (c ≢ 0) × (x (OfVariable c) ≡ true)) → (m : Memory) → memory_by v k m ≡ memory_by w k m
  memory_alike (Wakes d c) h m =
      let named = h c refl in
      λ i. record m { found = (found_same c named.0 named.1 (length v.threads) ∙ ap (blocked_below w c) a.threads) i }
  memory_alike _ h m = refl

-- a variable that a call uses is named
uses_is_named : (k : Shape) (c : ℕ) → uses k ≡ Some c → (names k).cond ≡ Some c
uses_is_named (Wakes d n) c e = e
uses_is_named _ c e = absurd (cc)

-- a plain request names the same
pub plain_names : (q : Request) → names_of (plain q) ≡ names_of q
plain_names (TimedLock m d) = refl
plain_names (TimedWait c m d) = refl
plain_names _ = refl

module _ (x : Side) (w v : World) (s : IsSplit x w) (r : IsSplit x v) (a : Agrees x w v) (t : ℕ) (on : x (OfThread t) ≡ true) where
  -- a begin is allowed in both states
  pub begin_same : (q : Request) → refusal_of v (Begin t q) ≡ refusal_of w (Begin t q)
  begin_same q = λ i.
      begin_refused (if t == 0 then false else nat_lt t (a.threads i)) (a.thread t on i).living (is_some (a.thread t on i).call)
      (names_known (λ m. if m == 0 then false else nat_lt m (a.mutexes i)) (λ c. if c == 0 then false else nat_lt c (a.variables i)) q)

  -- so is an end
  pub end_same : refusal_of v (End t) ≡ refusal_of w (End t)
  end_same = λ i. end_refused (if t == 0 then false else nat_lt t (a.threads i)) (a.thread t on i).living

  -- the states behind a begin agree
  pub same_begin : (q : Request) → IsBeside x t (plain q)
      → Agrees x (with_thread t (begun_thread w q (thread_at w t)) w) (with_thread t (begun_thread v q (thread_at v t)) v)
  same_begin q b =
      same_thread x w v a t _ _ (λ i. record (a.thread t on i) {
        call = Some (record { request = plain q; progress = Fresh });
        timer = timer_of q;
        memory = (ap (λ (z : Thread). begun_memory v (plain q) z.memory) (a.thread t on)
            ∙ memory_alike x w v s r a (shape_of (plain q)) named (thread_at w t).memory) i;
      })
    where
      named : (c : ℕ) → uses (shape_of (plain q)) ≡ Some c → (c ≢ 0) × (x (OfVariable c) ≡ true)
      named c e =
          let there = uses_is_named (shape_of (plain q)) c e in
          (b.variable c there, b.sides (OfVariable c) (names_variable c there) ∙ on)
