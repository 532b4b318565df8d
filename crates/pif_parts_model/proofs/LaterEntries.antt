-- Each entry of a state that a line shows is one of the state at a later time, and back.
use Rattle.std.proofs.Common.{ℕ, zero, suc, ◌≡◌, ◌∙◌, ◌+◌, Bool, true, false, nat_lt, List, [], ◌∷◌, ◌++◌, length, Some, None, is_some, refl, sym, ap, subst, arith, if◌then◌else◌}
use Rattle.std.proofs.lemmas.Bool.{true≢false}
use Rattle.std.proofs.lemmas.Bool.Decides.{nat_tests}
use Rattle.std.proofs.lemmas.List.{map-append}
use Rattle.pif_types.specs.Bounds.{Bounds}
use Rattle.pif_types.specs.Shapes.{Shape, shape_of, names_of}
use Rattle.pif_types.specs.Shapes.Shape.{Awaits, Wakes}
use Rattle.pif_types.specs.declared.requests.Request.{Request}
use Rattle.pif_types.specs.declared.requests.Request.TheVariants.{TimedLock, TimedWait}
use Rattle.pif_model.specs.declared.events.Event.TheVariants.{Begin as BeginEvent, Go, End as EndEvent, Tick as TickEvent}
use Rattle.pif_model.specs.declared.events.Seen.TheVariants.{Begun, Answered, Ended, Ticked, Refused}
use Rattle.pif_model.specs.declared.events.Entry.{Entry}
use Rattle.pif_model.specs.declared.events.Entry.TheVariants.{Thread as AddThread, Mutex as AddMutex, Cond as AddCond, Step as Happened}
use Rattle.pif_model.specs.Deadlines.{plain, timer_of, reported_result}
use Rattle.pif_types.specs.declared.errors.Refusal.{Refusal}
use Rattle.pif_types.specs.declared.errors.Refusal.TheVariants.{Past}
use Rattle.pif_model.specs.World.Progress.{Fresh}
use Rattle.pif_model.specs.declared.events.Event.{Event}
use Rattle.pif_model.specs.Refusals.{begin_refused, end_refused}
use Rattle.pif_model.specs.Posix.{World, Thread, Memory, are_known, is_mutex, is_variable, blocked_below, memory_by, begun_memory, begun_thread, thread_at, with_thread, with_call_by, without_call, after_end, after_owner_death, new_thread, new_mutex, new_variable, rests, refusal_of, IsOwner, IsNotStalled, OwnsNoneRobust, Passes, Releases, Ends, Step}
use Rattle.pif_model.specs.Posix.Releases.{none_left, one_more}
use Rattle.pif_model.specs.Posix.Step.{thread_added, mutex_added, cond_added, refused, begun, went, waits, answered, ended, ticked}
use Rattle.pif_posix_steps.specs.Once.{Answers, Enters, is_go}
use Rattle.pif_posix_steps.specs.Once.Enters.{answered as by_answer, other}
use Rattle.pif_history_model.specs.declared.lines.Protocol.TheVariants.{PrioInherit}
use Rattle.pif_history_model.specs.declared.lines.Line.{Line}
use Rattle.pif_history_model.specs.declared.lines.Line.TheVariants.{Thread as AThread, Mutex as AMutex, Cond, Begin, Answer, End, Tick}
use Rattle.pif_history_model.specs.Lines.{line_of}
use Rattle.pif_parts_model.specs.Later.{later_deadline, later_request, later_line, later_thread, later_world}
use Rattle.pif_parts_model.proofs.Later.{call_later, lives_later, count_later, blocked_later, memory_later, rests_later, at_later, called_later, written_later}
use Rattle.pif_parts_model.proofs.LaterMoves.{Earlier, passes_on, passes_off, added_later, go_later}
use Rattle.pif_parts_model.proofs.Stepping.{shown_by}

-- REQUESTS

plain_later : (n : ℕ) (q : Request) → plain (later_request n q) ≡ plain q
plain_later n (TimedLock m d) = refl
plain_later n (TimedWait c m d) = refl
plain_later n _ = refl

names_later : (n : ℕ) (q : Request) → names_of (later_request n q) ≡ names_of q
names_later n (TimedLock m d) = refl
names_later n (TimedWait c m d) = refl
names_later n _ = refl

timer_later : (n : ℕ) (q : Request)
    → timer_of (later_request n q) ≡ record { deadline = later_deadline n (timer_of q).deadline; expired = false }
timer_later n (TimedLock m d) = refl
timer_later n (TimedWait c m d) = refl
timer_later n _ = refl

-- LINES

-- whether a line has a time
abbrev pub has_time : Line → Bool
has_time (Begin t q) = true
has_time (Tick k) = true
has_time _ = false

pub timeless : (n : ℕ) (k : Line) → has_time (later_line n k) ≡ false → later_line n k ≡ k
timeless n (Begin t q) e = absurd (true≢false e)
timeless n (Tick i) e = absurd (true≢false e)
timeless n _ e = refl

-- a line that has no time is that line at any time
pub same_line : (n : ℕ) (k x : Line) → later_line n k ≡ x → has_time x ≡ false → k ≡ x
same_line n k x e none = sym (timeless n k (ap has_time e ∙ none)) ∙ e

begin_back : (n t : ℕ) (k : Line) (r : Request) → later_line n k ≡ Begin t r → (q : Request) × (k ≡ Begin t q) × (r ≡ later_request n q)
begin_back n t (Begin u q) r e = (q, cc, cc)
begin_back n t _ r e = absurd (cc)

tick_back : (n i : ℕ) (k : Line) → later_line n k ≡ Tick i → (j : ℕ) × (k ≡ Tick j) × (i ≡ j + n)
tick_back n i (Tick j) e = (j, refl, cc)
tick_back n i _ e = absurd (cc)

-- no line shows a refused event
refused_no_line : (x : Event) (r : Refusal) (k : Line) → line_of (Happened x (Refused r)) ≡ Some k → ⊥
refused_no_line (BeginEvent t q) r k e = cc
refused_no_line (Go t) r k e = cc
refused_no_line (EndEvent t) r k e = cc
refused_no_line (TickEvent i) r k e = cc

-- ENDS

releases_on : (n t : ℕ) (w : World) {u : World} → Releases t w u → Releases t (later_world n w) (later_world n u)
releases_on n t w (none_left none e) = none_left none (ap (later_world n) e)
releases_on n t w (one_more {u = z} m own robust passes more) =
    one_more m own robust (passes_on n (after_owner_death m w) passes) (releases_on n t z more)

releases_off : (n : ℕ) {t : ℕ} {z u : World} → Releases t z u → (w : World) → z ≡ later_world n w → Earlier n (Releases t w) u
releases_off n {t} (none_left none e) w is =
    record { before = w; step = none_left (subst (λ (y : World). OwnsNoneRobust y t) is none) refl; is = e ∙ is }
releases_off n {t} {z} {u} (one_more {u = y} m own robust passes more) w is =
    go (passes_off n (after_owner_death m w) (subst (λ (i : World). Passes m (after_owner_death m i) y) is passes))
    (λ b e. releases_off n more b e)
  where
    go : Earlier n (Passes m (after_owner_death m w)) y → ((b : World) → y ≡ later_world n b → Earlier n (Releases t b) u)
        → Earlier n (Releases t w) u
    go p again =
        let x = again p.before p.is in
        record {
          before = x.before;
          step = one_more m (subst (λ (i : World). IsOwner i t m) is own) (subst (λ (i : World). IsNotStalled i m) is robust) p.step x.step;
          is = x.is;
        }

module _ (n : ℕ) (w : World) where
  abbrev v : World
  v = later_world n w

  end_later : (t : ℕ) → later_world n (after_end t w) ≡ after_end t v
  end_later t =
      ap (λ (z : World). record z { waiters = (after_end t w).waiters })
      (written_later n w t (λ x. record x { living = false; call = None }) (λ x. record x { living = false; call = None }) (λ x. refl))

  allowed_later : (t : ℕ) → refusal_of v (EndEvent t) ≡ refusal_of w (EndEvent t)
  allowed_later t = λ j. end_refused (added_later n w t j) (lives_later n w t j)

  pub ends_on : (t : ℕ) {u : World} → Ends t w u → Ends t v (later_world n u)
  ends_on t {u} x = record {
    allowed = allowed_later t ∙ x.allowed;
    releases = subst (λ (z : World). Releases t z (later_world n u)) (end_later t) (releases_on n t (after_end t w) x.releases);
  }

  pub ends_off : (t : ℕ) {u : World} → Ends t v u → Earlier n (Ends t w) u
  ends_off t x =
      let y = releases_off n x.releases (after_end t w) (sym (end_later t)) in
      record { before = y.before; step = record { allowed = sym (allowed_later t) ∙ x.allowed; releases = y.step }; is = y.is }

  -- BEGINS

  found_later : (c k : ℕ) → blocked_below v c k ≡ blocked_below w c k
  unfolding blocked_below
  found_later c zero = refl
  found_later c (suc k) = λ j.
      if blocked_later n w c k j then (k, (memory_later n w k j).waits) ∷ found_later c k j else found_later c k j

  remembered : (s : Shape) (x : Memory) → memory_by v s x ≡ memory_by w s x
  remembered (Wakes r c) x = λ j. record x { found = (ap (blocked_below v c) (count_later n w) ∙ found_later c (length w.threads)) j }
  remembered (Awaits c m d) x = refl
  remembered _ x = refl

  begun_later : (t : ℕ) (q : Request)
      → later_world n (with_thread t (begun_thread w q (thread_at w t)) w)
      ≡ with_thread t (begun_thread v (later_request n q) (thread_at v t)) v
  begun_later t q = written_later n w t (begun_thread w q) (begun_thread v (later_request n q)) (λ x. λ j. record {
    base = x.base;
    living = x.living;
    call = Some (record { request = sym (plain_later n q) j; progress = Fresh });
    timer = sym (timer_later n q) j;
    memory = (sym (remembered (shape_of (plain q)) x.memory) ∙ ap (λ (k : Request). begun_memory v k x.memory) (sym (plain_later n q))) j;
  })

  may_begin : (t : ℕ) (q : Request) → refusal_of v (BeginEvent t (later_request n q)) ≡ refusal_of w (BeginEvent t q)
  may_begin t q = λ j.
      begin_refused (added_later n w t j) (lives_later n w t j) (is_some (call_later n w t j))
      (are_known (is_mutex w) (is_variable w) (names_later n q j).mutex (names_later n q j).cond)

  may_tick : (k : ℕ) → refusal_of v (TickEvent (k + n)) ≡ refusal_of w (TickEvent k)
  may_tick k =
      let same : nat_lt (k + n) (w.time + n) ≡ nat_lt k w.time = grind (arith, nat_tests) in
      ap (λ (b : Bool). if b then Some Past else None) same

  -- ANSWERS

  answers_on : (t a : ℕ) {u : World} → Answers t a w u → Answers t a v (later_world n u)
  answers_on t a {u} x = record {
    request = x.request;
    result = x.result;
    call = call_later n w t ∙ x.call;
    told = x.told ∙ sym (ap (λ (i : Thread). reported_result x.request i.timer.expired x.result) (at_later n w t));
    allowed = go_later n w t ∙ x.allowed;
    goes_on = rests_later n u t ∙ x.goes_on;
    closes = ap (later_world n) x.closes ∙ called_later n w t without_call;
  }

  answers_off : (t a : ℕ) {u : World} → Answers t a v u → Earlier n (Answers t a w) u
  answers_off t a {u} x =
      let is : u ≡ later_world n (with_call_by t without_call w) = x.closes ∙ sym (called_later n w t without_call) in
      record {
        before = with_call_by t without_call w;
        step = record {
          request = x.request;
          result = x.result;
          call = sym (call_later n w t) ∙ x.call;
          told = x.told ∙ ap (λ (i : Thread). reported_result x.request i.timer.expired x.result) (at_later n w t);
          allowed = sym (go_later n w t) ∙ x.allowed;
          goes_on = sym (rests_later n (with_call_by t without_call w) t) ∙ sym (ap (λ (z : World). rests z t) is) ∙ x.goes_on;
          closes = refl;
        };
        is = is;
      }

  -- ENTRIES

  thread_later : (p : ℕ) → later_world n (record w { threads = w.threads ++ new_thread p ∷ [] }) ≡ record v { threads = v.threads ++ new_thread p ∷ [] }
  thread_later p = ap (λ (xs : List Thread). record v { threads = xs }) (map-append (later_thread n) w.threads (new_thread p ∷ []))

  -- an entry at a later time
  pub record IsEntered (l : Bounds) (k : Line) (z u : World) : Type 0 where
    pub entry : Entry
    pub shows : line_of entry ≡ Some k
    pub step : Enters l z entry u

  entered_by : (l : Bounds) (k : Line) (x : Entry) {z u : World} → line_of x ≡ Some k → Enters l z x u → IsEntered l k z u
  entered_by l k x s y = record { entry = x; shows = s; step = y }

  -- a line shows it
  steps_on : (l : Bounds) (k : Line) (e : Entry) {u : World} → line_of e ≡ Some k → is_go e ≡ false → Step l w e u
      → IsEntered l (later_line n k) v (later_world n u)
  steps_on l k e of g (thread_added t p is next room low high after) =
      rw (shown_by (AddThread t p) of is refl)
      (entered_by l (AThread p) (AddThread t p) refl
      (other refl refl (thread_added t p refl (next ∙ sym (count_later n w)) room low high (ap (later_world n) after ∙ thread_later p))))
  steps_on l k e of g (mutex_added m i b is next room after) =
      rw (shown_by (AddMutex m i b) of is refl)
      (entered_by l (AMutex i b PrioInherit) (AddMutex m i b) refl
      (other refl refl (mutex_added m i b refl next room (ap (later_world n) after))))
  steps_on l k e of g (cond_added c m is known next room after) =
      rw (shown_by (AddCond c m) of is refl)
      (entered_by l (Cond m) (AddCond c m) refl (other refl refl (cond_added c m refl known next room (ap (later_world n) after))))
  steps_on l k e of g (refused y r is why after) = absurd (refused_no_line y r k (sym (ap line_of is) ∙ of))
  steps_on l k e of g (begun t q is allowed after) =
      rw (shown_by (Happened (BeginEvent t q) Begun) of is refl)
      (entered_by l (Begin t (later_request n q)) (Happened (BeginEvent t (later_request n q)) Begun) refl
      (other refl refl (begun t (later_request n q) refl (may_begin t q ∙ allowed) (ap (later_world n) after ∙ begun_later t q))))
  steps_on l k e of g (went t is goes runs) = absurd (true≢false (sym (ap is_go is) ∙ g))
  steps_on l k e of g (waits t z is goes after resting) = absurd (true≢false (sym (ap is_go is) ∙ g))
  steps_on l k e of g (answered t a q z is goes come after runs) = absurd (true≢false (sym (ap is_go is) ∙ g))
  steps_on l k e of g (ended t is gone) =
      rw (shown_by (Happened (EndEvent t) Ended) of is refl)
      (entered_by l (End t) (Happened (EndEvent t) Ended) refl (other refl refl (ended t refl (ends_on t gone))))
  steps_on l k e of g (ticked i is allowed after) =
      rw (shown_by (Happened (TickEvent i) Ticked) of is refl)
      (entered_by l (Tick (i + n)) (Happened (TickEvent (i + n)) Ticked) refl
      (other refl refl (ticked (i + n) refl (may_tick i ∙ allowed) (ap (later_world n) after))))

  pub enters_on_later : (l : Bounds) (k : Line) (e : Entry) {u : World} → line_of e ≡ Some k → Enters l w e u
      → IsEntered l (later_line n k) v (later_world n u)
  enters_on_later l k e of (by_answer t a is x) =
      rw (shown_by (Happened (Go t) (Answered a)) of is refl)
      (entered_by l (Answer t a) (Happened (Go t) (Answered a)) refl (by_answer t a refl (answers_on t a x)))
  enters_on_later l k e of (other g r step) = steps_on l k e of g step

  -- and back
  abbrev Back : Bounds → Line → World → Type 0
  Back l k u = Earlier n (λ z. IsEntered l k w z) u

  steps_off : (l : Bounds) (k : Line) (e : Entry) {u : World} → line_of e ≡ Some (later_line n k) → is_go e ≡ false → Step l v e u
      → Back l k u
  steps_off l k e of g (thread_added t p is next room low high after) =
      rw (same_line n k (AThread p) (shown_by (AddThread t p) of is refl) refl) (record {
        before = record w { threads = w.threads ++ new_thread p ∷ [] };
        step = entered_by l (AThread p) (AddThread t p) refl
            (other refl refl (thread_added t p refl (next ∙ count_later n w) room low high refl));
        is = after ∙ sym (thread_later p);
      })
  steps_off l k e of g (mutex_added m i b is next room after) =
      rw (same_line n k (AMutex i b PrioInherit) (shown_by (AddMutex m i b) of is refl) refl) (record {
        before = record w { mutexes = w.mutexes ++ new_mutex i b ∷ [] };
        step = entered_by l (AMutex i b PrioInherit) (AddMutex m i b) refl
            (other refl refl (mutex_added m i b refl next room refl));
        is = after;
      })
  steps_off l k e of g (cond_added c m is known next room after) =
      rw (same_line n k (Cond m) (shown_by (AddCond c m) of is refl) refl) (record {
        before = record w { variables = w.variables ++ new_variable m ∷ [] };
        step = entered_by l (Cond m) (AddCond c m) refl (other refl refl (cond_added c m refl known next room refl));
        is = after;
      })
  steps_off l k e of g (refused y r is why after) = absurd (refused_no_line y r (later_line n k) (sym (ap line_of is) ∙ of))
  steps_off l k e {u} of g (begun t r is allowed after) =
      let b = begin_back n t k r (shown_by (Happened (BeginEvent t r) Begun) of is refl) in
      rw b.1 (record {
        before = with_thread t (begun_thread w b.0 (thread_at w t)) w;
        step = entered_by l (Begin t b.0) (Happened (BeginEvent t b.0) Begun) refl
            (other refl refl (begun t b.0 refl
            (sym (may_begin t b.0) ∙ sym (ap (λ (q : Request). refusal_of v (BeginEvent t q)) b.2) ∙ allowed) refl));
        is = after ∙ ap (λ (q : Request). with_thread t (begun_thread v q (thread_at v t)) v) b.2 ∙ sym (begun_later t b.0);
      })
  steps_off l k e of g (went t is goes runs) = absurd (true≢false (sym (ap is_go is) ∙ g))
  steps_off l k e of g (waits t z is goes after resting) = absurd (true≢false (sym (ap is_go is) ∙ g))
  steps_off l k e of g (answered t a q z is goes come after runs) = absurd (true≢false (sym (ap is_go is) ∙ g))
  steps_off l k e of g (ended t is gone) =
      let y = ends_off t gone in
      rw (same_line n k (End t) (shown_by (Happened (EndEvent t) Ended) of is refl) refl) (record {
        before = y.before;
        step = entered_by l (End t) (Happened (EndEvent t) Ended) refl (other refl refl (ended t refl y.step));
        is = y.is;
      })
  steps_off l k e of g (ticked i is allowed after) =
      let b = tick_back n i k (shown_by (Happened (TickEvent i) Ticked) of is refl) in
      rw b.1 (record {
        before = record w { time = b.0 };
        step = entered_by l (Tick b.0) (Happened (TickEvent b.0) Ticked) refl
            (other refl refl (ticked b.0 refl (sym (may_tick b.0) ∙ sym (ap (λ (j : ℕ). refusal_of v (TickEvent j)) b.2) ∙ allowed) refl));
        is = after ∙ ap (λ (j : ℕ). record v { time = j }) b.2;
      })

  pub enters_off : (l : Bounds) (k : Line) (e : Entry) {u : World} → line_of e ≡ Some (later_line n k) → Enters l v e u
      → Earlier n (λ z. IsEntered l k w z) u
  enters_off l k e of (by_answer t a is x) =
      let y = answers_off t a x in
      rw (same_line n k (Answer t a) (shown_by (Happened (Go t) (Answered a)) of is refl) refl) (record {
        before = y.before;
        step = entered_by l (Answer t a) (Happened (Go t) (Answered a)) refl (by_answer t a refl y.step);
        is = y.is;
      })
  enters_off l k e of (other g r step) = steps_off l k e of g step
