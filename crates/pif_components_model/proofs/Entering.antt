-- An entry that a line shows stays on its side, depends on it alone, and keeps the sides apart. Additions and ticks are
-- shared: they come in each state that agrees on a side.
use Rattle.std.proofs.Common.{ℕ, zero, suc, ◌≡◌, ◌≢◌, ◌∙◌, ◌==◌, Bool, true, false, List, [], ◌∷◌, ◌++◌, length, get_or, nat_lt, Option, Some, None, is_some, refl, sym, ap, subst, if◌then◌else◌, arith, true≢false}
use Rattle.std.proofs.lemmas.List.{length-append}
use Rattle.pif_types.specs.Bounds.{Bounds}
use Rattle.pif_types.specs.Shapes.{names_of}
use Rattle.pif_types.specs.declared.requests.Request.{Request}
use Rattle.pif_model.specs.declared.events.Event.TheVariants.{Begin}
use Rattle.pif_model.specs.declared.events.Entry.{Entry}
use Rattle.pif_model.specs.Deadlines.{plain}
use Rattle.pif_model.specs.Refusals.{begin_refused, tick_refused}
use Rattle.pif_model.specs.Posix.{World, Thread, Mutex, nobody, no_mutex, no_variable, thread_at, with_thread, begun_thread, new_thread, new_mutex, new_variable, are_known, is_thread, is_living, is_mutex, is_variable, IsAllowed, Step}
use Rattle.pif_model.specs.Posix.Step.{thread_added, mutex_added, cond_added, refused, begun, went, waits, answered, ended, ticked}
use Rattle.pif_posix_steps.specs.Once.{Enters, is_go, is_refused}
use Rattle.pif_posix_steps.specs.Once.Enters.{answered as by_answer, other}
use Rattle.pif_components_model.specs.Components.{Name, Side, IsNamed, concerns, BeginsBeside}
use Rattle.pif_components_model.specs.Components.IsNamed.{thread as names_thread, mutex as names_mutex, variable as names_variable}
use Rattle.pif_components_model.specs.Components.Name.{OfThread, OfMutex}
use Rattle.pif_components_model.specs.Sides.{Agrees, IsSplit, IsBeside, request_of}
use Rattle.pif_components_model.proofs.Echoes.{Echo}
use Rattle.pif_components_model.proofs.Entries.{passes_answer, echo_answer, passes_begin, same_begin, begin_same, plain_names}
use Rattle.pif_components_model.proofs.Ends.{passes_end, echo_end}

-- WHAT A BEGIN NAMES

known_mutex : (f g : ℕ → Bool) (m c : Option ℕ) → are_known f g m c ≡ true → (n : ℕ) → m ≡ Some n → f n ≡ true
known_mutex f g None c h n e = absurd (cc)
known_mutex f g (Some k) None h n e = ap f (sym (let is : k ≡ n = cc in is)) ∙ h
known_mutex f g (Some k) (Some j) h n e = step (g j) h
  where
    step : (b : Bool) → (if b then f k else false) ≡ true → f n ≡ true
    step true h = ap f (sym (let is : k ≡ n = cc in is)) ∙ h
    step false h = absurd (cc)

known_variable : (f g : ℕ → Bool) (m c : Option ℕ) → are_known f g m c ≡ true → (n : ℕ) → c ≡ Some n → g n ≡ true
known_variable f g m None h n e = absurd (cc)
known_variable f g None (Some k) h n e = ap g (sym (let is : k ≡ n = cc in is)) ∙ h
known_variable f g (Some j) (Some k) h n e = step (g k) refl h
  where
    step : (b : Bool) → g k ≡ b → (if b then f j else false) ≡ true → g n ≡ true
    step true i h = ap g (sym (let is : k ≡ n = cc in is)) ∙ i
    step false i h = absurd (cc)

named_of : (known living busy named : Bool) → begin_refused known living busy named ≡ None → named ≡ true
named_of true true true named e = absurd (cc)
named_of true true false true e = refl
named_of true true false false e = absurd (cc)
named_of true false busy named e = absurd (cc)
named_of false living busy named e = absurd (cc)

numbered : (n k : ℕ) → (if k == 0 then false else nat_lt k n) ≡ true → k ≢ 0
numbered n k h e = true≢false (sym h ∙ ap (λ (i : ℕ). if i == 0 then false else nat_lt i n) e)

-- a plain request names what the request does
plain_named : (q : Request) (n : Name) → IsNamed (plain q) n → IsNamed q n
plain_named q n (names_thread v e) = names_thread v (ap (λ z. z.thread) (sym (plain_names q)) ∙ e)
plain_named q n (names_mutex v e) = names_mutex v (ap (λ z. z.mutex) (sym (plain_names q)) ∙ e)
plain_named q n (names_variable v e) = names_variable v (ap (λ z. z.cond) (sym (plain_names q)) ∙ e)

-- a begin that is allowed names what has a number
beside : (x : Side) (w : World) (t : ℕ) (q : Request) → IsAllowed w (Begin t q) → ((n : Name) → IsNamed q n → x n ≡ x (OfThread t))
    → IsBeside x t (plain q)
beside x w t q allowed named =
    let all : are_known (is_mutex w) (is_variable w) (names_of q).mutex (names_of q).cond ≡ true = named_of (is_thread w t) (is_living w t) (is_some (thread_at w t).call) _ allowed in
    record {
      sides = λ n k. named n (plain_named q n k);
      mutex = λ m e. numbered (length w.mutexes) m (known_mutex (is_mutex w) (is_variable w) _ _ all m (ap (λ z. z.mutex) (sym (plain_names q)) ∙ e));
      variable = λ c e. numbered (length w.variables) c (known_variable (is_mutex w) (is_variable w) _ _ all c (ap (λ z. z.cond) (sym (plain_names q)) ∙ e));
    }

-- ADDITIONS

push_alike : {A : Type 0} (d : A) (xs ys : List A) (z : A) → length xs ≡ length ys → (u : ℕ) → get_or xs u d ≡ get_or ys u d
    → get_or (xs ++ z ∷ []) u d ≡ get_or (ys ++ z ∷ []) u d
push_alike d [] [] z e u h = refl
push_alike d [] (y ∷ ys) z e u h = absurd (omega (arith, e))
push_alike d (x ∷ xs) [] z e u h = absurd (omega (arith, e))
push_alike d (x ∷ xs) (y ∷ ys) z e zero h = h
push_alike d (x ∷ xs) (y ∷ ys) z e (suc u) h = push_alike d xs ys z (omega (arith, e)) u h

push_place : {A : Type 0} (d : A) (P : A → Type 0) (xs : List A) (z : A) (u : ℕ) → P z → P (get_or xs u d) → P (get_or (xs ++ z ∷ []) u d)
push_place d P [] z zero h k = h
push_place d P [] z (suc u) h k = k
push_place d P (x ∷ xs) z zero h k = k
push_place d P (x ∷ xs) z (suc u) h k = push_place d P xs z u h k

push_length : {A : Type 0} (xs ys : List A) (z : A) → length xs ≡ length ys → length (xs ++ z ∷ []) ≡ length (ys ++ z ∷ [])
push_length xs ys z e = omega (arith, e, length-append xs (z ∷ []), length-append ys (z ∷ []))

module _ (x : Side) where
  -- ENTRIES KEEP THE SIDES APART

  split_step : (l : Bounds) (w u : World) (e : Entry) → IsSplit x w → BeginsBeside x e → is_go e ≡ false → is_refused e ≡ false → Step l w e u → IsSplit x u
  split_step l w u e s b g r (thread_added t p is next room low high after) = subst (IsSplit x) (sym after) (record {
    calls = λ n. push_place nobody (λ (z : Thread). (q : Request) → request_of z.call ≡ Some q → IsBeside x n q) w.threads (new_thread p) n
        (λ q i. absurd (cc)) (s.calls n);
    waiters = s.waiters;
    owners = s.owners;
  })
  split_step l w u e s b g r (mutex_added m k i is next room after) = subst (IsSplit x) (sym after) (record {
    calls = s.calls;
    waiters = s.waiters;
    owners = λ n. push_place no_mutex (λ (z : Mutex). z.owner ≢ 0 → (x (OfThread z.owner) ≡ x (OfMutex n)) × (n ≢ 0)) w.mutexes (new_mutex k i) n
        (λ some. absurd (some refl)) (s.owners n);
  })
  split_step l w u e s b g r (cond_added c m is known next room after) =
      subst (IsSplit x) (sym after) (record { calls = s.calls; waiters = s.waiters; owners = s.owners })
  split_step l w u e s b g r (refused y i is why after) = subst (IsSplit x) (sym after) s
  split_step l w u e s b g r (begun t q is allowed after) =
      subst (IsSplit x) (sym after) (passes_begin x t q w s (beside x w t q allowed (b t q is))).split
  split_step l w u e s b g r (went t is goes runs) = absurd (true≢false (sym (ap is_go is) ∙ g))
  split_step l w u e s b g r (waits t z is goes after resting) = absurd (true≢false (sym (ap is_go is) ∙ g))
  split_step l w u e s b g r (answered t a q z is goes come after runs) = absurd (true≢false (sym (ap is_go is) ∙ g))
  split_step l w u e s b g r (ended t is y) = (passes_end x t w s y).split
  split_step l w u e s b g r (ticked n is allowed after) =
      subst (IsSplit x) (sym after) (record { calls = s.calls; waiters = s.waiters; owners = s.owners })

  pub split_entry : (l : Bounds) (w u : World) (e : Entry) → IsSplit x w → BeginsBeside x e → Enters l w e u → IsSplit x u
  split_entry l w u e s b (by_answer t a is y) = (passes_answer x t a w s y).split
  split_entry l w u e s b (other g r step) = split_step l w u e s b g r step

  -- THEY STAY ON THEIR SIDE

  frame_step : (l : Bounds) (w u : World) (e : Entry) → IsSplit x w → BeginsBeside x e → concerns x e ≡ false → is_go e ≡ false → is_refused e ≡ false
      → Step l w e u → Agrees x w u
  frame_step l w u e s b off g r (thread_added t p is next room low high after) = absurd (true≢false (sym (ap (concerns x) is) ∙ off))
  frame_step l w u e s b off g r (mutex_added m k i is next room after) = absurd (true≢false (sym (ap (concerns x) is) ∙ off))
  frame_step l w u e s b off g r (cond_added c m is known next room after) = absurd (true≢false (sym (ap (concerns x) is) ∙ off))
  frame_step l w u e s b off g r (refused y i is why after) = absurd (true≢false (sym (ap is_refused is) ∙ r))
  frame_step l w u e s b off g r (begun t q is allowed after) =
      subst (Agrees x w) (sym after) ((passes_begin x t q w s (beside x w t q allowed (b t q is))).frame (sym (ap (concerns x) is) ∙ off))
  frame_step l w u e s b off g r (went t is goes runs) = absurd (true≢false (sym (ap is_go is) ∙ g))
  frame_step l w u e s b off g r (waits t z is goes after resting) = absurd (true≢false (sym (ap is_go is) ∙ g))
  frame_step l w u e s b off g r (answered t a q z is goes come after runs) = absurd (true≢false (sym (ap is_go is) ∙ g))
  frame_step l w u e s b off g r (ended t is y) = (passes_end x t w s y).frame (sym (ap (concerns x) is) ∙ off)
  frame_step l w u e s b off g r (ticked n is allowed after) = absurd (true≢false (sym (ap (concerns x) is) ∙ off))

  pub frame_entry : (l : Bounds) (w u : World) (e : Entry) → IsSplit x w → BeginsBeside x e → concerns x e ≡ false → Enters l w e u → Agrees x w u
  frame_entry l w u e s b off (by_answer t a is y) = (passes_answer x t a w s y).frame (sym (ap (concerns x) is) ∙ off)
  frame_entry l w u e s b off (other g r step) = frame_step l w u e s b off g r step

  -- THEY DEPEND ON THEIR SIDE

  module _ (l : Bounds) (w v u : World) (s : IsSplit x w) (k : IsSplit x v) (a : Agrees x w v) (e : Entry) (b : BeginsBeside x e) (on : concerns x e ≡ true) where
    echo_step : is_go e ≡ false → is_refused e ≡ false → Step l w e u → Echo x (Enters l v e) u
    echo_step g r (thread_added t p is next room low high after) = record {
      after = record v { threads = v.threads ++ new_thread p ∷ [] };
      step = other g r (thread_added t p is (next ∙ sym a.threads) room low high refl);
      agrees = subst (λ (z : World). Agrees x z (record v { threads = v.threads ++ new_thread p ∷ [] })) (sym after) (record {
        thread = λ n i. push_alike nobody v.threads w.threads (new_thread p) a.threads n (a.thread n i);
        mutex = a.mutex;
        variable = a.variable;
        waiters = a.waiters;
        threads = push_length v.threads w.threads (new_thread p) a.threads;
        mutexes = a.mutexes;
        variables = a.variables;
        signals = a.signals;
        time = a.time;
      });
    }
    echo_step g r (mutex_added m q i is next room after) = record {
      after = record v { mutexes = v.mutexes ++ new_mutex q i ∷ [] };
      step = other g r (mutex_added m q i is (next ∙ sym a.mutexes) room refl);
      agrees = subst (λ (z : World). Agrees x z (record v { mutexes = v.mutexes ++ new_mutex q i ∷ [] })) (sym after) (record {
        thread = a.thread;
        mutex = λ n some o. push_alike no_mutex v.mutexes w.mutexes (new_mutex q i) a.mutexes n (a.mutex n some o);
        variable = a.variable;
        waiters = a.waiters;
        threads = a.threads;
        mutexes = push_length v.mutexes w.mutexes (new_mutex q i) a.mutexes;
        variables = a.variables;
        signals = a.signals;
        time = a.time;
      });
    }
    echo_step g r (cond_added c m is known next room after) = record {
      after = record v { variables = v.variables ++ new_variable m ∷ [] };
      step = other g r (cond_added c m is (ap (λ (n : ℕ). if m == 0 then false else nat_lt m n) a.mutexes ∙ known) (next ∙ sym a.variables) room refl);
      agrees = subst (λ (z : World). Agrees x z (record v { variables = v.variables ++ new_variable m ∷ [] })) (sym after) (record {
        thread = a.thread;
        mutex = a.mutex;
        variable = λ n some o. push_alike no_variable v.variables w.variables (new_variable m) a.variables n (a.variable n some o);
        waiters = a.waiters;
        threads = a.threads;
        mutexes = a.mutexes;
        variables = push_length v.variables w.variables (new_variable m) a.variables;
        signals = a.signals;
        time = a.time;
      });
    }
    echo_step g r (refused y i is why after) = absurd (true≢false (sym (ap is_refused is) ∙ r))
    echo_step g r (begun t q is allowed after) =
        let mine : x (OfThread t) ≡ true = sym (ap (concerns x) is) ∙ on in
        record {
          after = with_thread t (begun_thread v q (thread_at v t)) v;
          step = other g r (begun t q is (begin_same x w v s k a t mine q ∙ allowed) refl);
          agrees = subst (λ (z : World). Agrees x z (with_thread t (begun_thread v q (thread_at v t)) v)) (sym after)
              (same_begin x w v s k a t mine q (beside x w t q allowed (b t q is)));
        }
    echo_step g r (went t is goes runs) = absurd (true≢false (sym (ap is_go is) ∙ g))
    echo_step g r (waits t z is goes after resting) = absurd (true≢false (sym (ap is_go is) ∙ g))
    echo_step g r (answered t c q z is goes come after runs) = absurd (true≢false (sym (ap is_go is) ∙ g))
    echo_step g r (ended t is y) =
        let f = echo_end x w v s k a t (sym (ap (concerns x) is) ∙ on) y in
        record { after = f.after; step = other g r (ended t is f.step); agrees = f.agrees }
    echo_step g r (ticked n is allowed after) = record {
      after = record v { time = n };
      step = other g r (ticked n is (ap (λ (i : ℕ). tick_refused i n) a.time ∙ allowed) refl);
      agrees = subst (λ (z : World). Agrees x z (record v { time = n })) (sym after) (record {
        thread = a.thread;
        mutex = a.mutex;
        variable = a.variable;
        waiters = a.waiters;
        threads = a.threads;
        mutexes = a.mutexes;
        variables = a.variables;
        signals = a.signals;
        time = refl;
      });
    }

    pub echo_entry : Enters l w e u → Echo x (Enters l v e) u
    echo_entry (by_answer t c is y) =
        let f = echo_answer x w v s k a t (sym (ap (concerns x) is) ∙ on) c y in
        record { after = f.after; step = by_answer t c is f.step; agrees = f.agrees }
    echo_entry (other g r step) = echo_step g r step
