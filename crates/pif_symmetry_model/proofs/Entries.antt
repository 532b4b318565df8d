-- The entries that a line shows, by other names: the begin of a call, its answer, the end of a thread, and a tick.
use Rattle.std.proofs.Common.{ℕ, ◌≡◌, ◌∙◌, Bool, true, false, None, refl, sym, ap, subst, true≢false}
use Rattle.pif_types.specs.Bounds.{Bounds}
use Rattle.pif_types.specs.declared.requests.Request.{Request}
use Rattle.pif_types.specs.declared.requests.Request.TheVariants.{SetPrio}
use Rattle.pif_model.specs.declared.events.Event.TheVariants.{End}
use Rattle.pif_model.specs.declared.events.Entry.{Entry}
use Rattle.pif_model.specs.Refusals.{end_refused, tick_refused}
use Rattle.pif_model.specs.Deadlines.{reported_result}
use Rattle.pif_model.specs.declared.lines.Timer.{Timer}
use Rattle.pif_model.specs.Posix.{World, Thread, Mutex, thread_at, refusal_of, with_thread, with_call_by, without_call, begun_thread, after_end, after_owner_death, on_death, Releases, Ends, Step}
use Rattle.pif_model.specs.Posix.Releases.{none_left, one_more}
use Rattle.pif_model.specs.Posix.Step.{thread_added, mutex_added, cond_added, refused, begun, went, waits, answered, ended, ticked}
use Rattle.pif_posix_steps.specs.Once.{Enters, Answers, is_go, is_refused}
use Rattle.pif_posix_steps.specs.Once.Enters.{answered as by_answer, other}
use Rattle.pif_symmetry_model.specs.Renaming.{IsRenamed, Mirrors, renamed_request, renamed_call, renamed_entry, is_event}
use Rattle.pif_symmetry_model.proofs.Names.{one_name}
use Rattle.pif_symmetry_model.proofs.Reading.{mutex_there, owner_there, call_there, living_there, thread_there, rests_there, go_there}
use Rattle.pif_symmetry_model.proofs.Changes.{same_thread, same_mutex, same_leaving, same_call_by}
use Rattle.pif_symmetry_model.proofs.Moves.{Mirrored, as_step, steps_to, passes_too}
use Rattle.pif_symmetry_model.proofs.Begins.{same_begin, begin_there}

-- an answer tells the same of a request by another name
reported_same : (f : ℕ → ℕ) (q : Request) (expired : Bool) (a : ℕ) → reported_result (renamed_request f q) expired a ≡ reported_result q expired a
reported_same f (SetPrio t p) expired a = refl
reported_same f q expired a = refl

-- ENDS

too_Releases : (f : ℕ → ℕ) (t : ℕ) {w u : World} → Releases t w u → (v : World) → Mirrors f w v → Mirrored f (Releases (f t) v) u
too_Releases f t {w} {u} (none_left none e) v a =
    steps_to f (Releases (f t) v) w v a e
    (none_left (λ m own. ap (λ (z : Mutex). z.robust) (mutex_there f w v a m)
    ∙ none m (one_name f _ a.renaming _ t (sym (owner_there f w v a m) ∙ own))) refl)
too_Releases f t {w} {u} (one_more {u = z} m own robust passes more) v a =
    let is = mutex_there f w v a m in
    let p = passes_too f (after_owner_death m w) (after_owner_death m v)
    (same_mutex f w v a m _ _ (λ i. record (is i) { health = on_death (is i).health })) m passes in
    as_step f (λ y k. one_more m (owner_there f w v a m ∙ ap f own) (ap (λ (x : Mutex). x.robust) is ∙ robust) p.step k)
    (too_Releases f t more p.after p.mirrors)

module _ (f : ℕ → ℕ) (w v : World) (a : Mirrors f w v) (t : ℕ) where
  ended_thread : (x y : Thread) → IsRenamed f x y
      → IsRenamed f (record x { living = false; call = None }) (record y { living = false; call = None })
  ended_thread x y e = record {
    base = e.base;
    living = refl;
    call = refl;
    timer = e.timer;
    waits = e.waits;
    found = e.found;
  }

  same_end : Mirrors f (after_end t w) (after_end (f t) v)
  same_end =
      same_leaving f (with_thread t (record (thread_at w t) { living = false; call = None }) w)
      (with_thread (f t) (record (thread_at v (f t)) { living = false; call = None }) v)
      (same_thread f w v a t _ _ (ended_thread (thread_at w t) (thread_at v (f t)) (a.thread t))) t

  end_there : refusal_of v (End (f t)) ≡ refusal_of w (End t)
  end_there = λ i. end_refused (thread_there f w v a t i) (living_there f w v a t i)

  pub too_end : {u : World} → Ends t w u → Mirrored f (Ends (f t) v) u
  too_end y =
      as_step f (λ z k. record { allowed = end_there ∙ y.allowed; releases = k })
      (too_Releases f t y.releases (after_end (f t) v) same_end)

  -- ANSWERS

  pub too_answer : (b : ℕ) {u : World} → Answers t b w u → Mirrored f (Answers (f t) b v) u
  too_answer b {u} y =
      let closed : Mirrors f (with_call_by t without_call w) (with_call_by (f t) without_call v) =
      same_call_by f w v a t without_call (λ c. refl) in
      let same : Mirrors f u (with_call_by (f t) without_call v) =
      subst (λ (z : World). Mirrors f z (with_call_by (f t) without_call v)) (sym y.closes) closed in
      record {
        after = with_call_by (f t) without_call v;
        step = record {
          request = renamed_request f y.request;
          result = y.result;
          call = call_there f w v a t ∙ ap (renamed_call f) y.call;
          told = y.told ∙ ap (λ (z : Timer). reported_result y.request z.expired y.result) (sym (a.thread t).timer)
              ∙ sym (reported_same f y.request (thread_at v (f t)).timer.expired y.result);
          allowed = go_there f w v a t ∙ y.allowed;
          goes_on = rests_there f u (with_call_by (f t) without_call v) same t ∙ y.goes_on;
          closes = refl;
        };
        mirrors = same;
      }

-- ALL ENTRIES

module _ (f : ℕ → ℕ) (l : Bounds) (w v u : World) (a : Mirrors f w v) (e : Entry) (b : is_event e ≡ true) where
  too_step : is_go e ≡ false → is_refused e ≡ false → Step l w e u → Mirrored f (Enters l v (renamed_entry f e)) u
  too_step g r (thread_added t p is next room low high after) = absurd (true≢false (sym b ∙ ap is_event is))
  too_step g r (mutex_added m k i is next room after) = absurd (true≢false (sym b ∙ ap is_event is))
  too_step g r (cond_added c m is known next room after) = absurd (true≢false (sym b ∙ ap is_event is))
  too_step g r (refused y i is why after) = absurd (true≢false (sym (ap is_refused is) ∙ r))
  too_step g r (begun t q is allowed after) =
      steps_to f (Enters l v (renamed_entry f e)) (with_thread t (begun_thread w q (thread_at w t)) w)
      (with_thread (f t) (begun_thread v (renamed_request f q) (thread_at v (f t))) v) (same_begin f w v a t q) after
      (other (ap (λ x. is_go (renamed_entry f x)) is) (ap (λ x. is_refused (renamed_entry f x)) is)
      (begun (f t) (renamed_request f q) (ap (renamed_entry f) is) (begin_there f w v a t q ∙ allowed) refl))
  too_step g r (went t is goes runs) = absurd (true≢false (sym (ap is_go is) ∙ g))
  too_step g r (waits t z is goes after resting) = absurd (true≢false (sym (ap is_go is) ∙ g))
  too_step g r (answered t c q z is goes come after runs) = absurd (true≢false (sym (ap is_go is) ∙ g))
  too_step g r (ended t is y) =
      as_step f (λ z k. other (ap (λ x. is_go (renamed_entry f x)) is) (ap (λ x. is_refused (renamed_entry f x)) is)
      (ended (f t) (ap (renamed_entry f) is) k)) (too_end f w v a t y)
  too_step g r (ticked n is allowed after) =
      steps_to f (Enters l v (renamed_entry f e)) (record w { time = n }) (record v { time = n }) (record {
        renaming = a.renaming;
        thread = a.thread;
        threads = a.threads;
        mutexes = a.mutexes;
        waiters = a.waiters;
        variables = a.variables;
        signals = a.signals;
        time = refl;
      }) after
      (other (ap (λ x. is_go (renamed_entry f x)) is) (ap (λ x. is_refused (renamed_entry f x)) is)
      (ticked n (ap (renamed_entry f) is) (ap (λ (i : ℕ). tick_refused i n) a.time ∙ allowed) refl))

  pub too_entry : Enters l w e u → Mirrored f (Enters l v (renamed_entry f e)) u
  too_entry (by_answer t c is y) =
      as_step f (λ z k. by_answer (f t) c (ap (renamed_entry f) is) k) (too_answer f w v a t c y)
  too_entry (other g r step) = too_step g r step
