-- A thread that may fail at once does so by a step, in each state that a run reaches.
use Rattle.std.proofs.Common.{ℕ, zero, suc, ◌≡◌, ◌≢◌, ◌⊎◌, ◌∙◌, Bool, true, false, List, [], ◌∷◌, drop, not, Some, is_some, refl, sym, ap, subst, inl, inr, if◌then◌else◌}
use Rattle.std.proofs.lemmas.Bool.{cases_eq, eq-eqb, false_from_ne_true}
use Rattle.std.proofs.lemmas.List.{get_or-set_other}
use Rattle.pif_types.specs.Bounds.{Bounds}
use Rattle.pif_types.specs.declared.requests.Request.{Request}
use Rattle.pif_types.specs.declared.requests.Request.TheVariants.{TryLock}
use Rattle.pif_model.specs.declared.events.Event.TheVariants.{Go}
use Rattle.pif_model.specs.NamedNumbers.{EBUSY}
use Rattle.pif_model.specs.Refusals.{go_refused}
use Rattle.pif_model.specs.Posix.{World, Thread, nobody, empty_world, thread_at, with_progress, at_progress, HasCome, IsCalling, IsAllowed}
use Rattle.pif_model.specs.Posix.Effect.{try_lock}
use Rattle.pif_model.specs.Posix.TriesToLock.{busy}
use Rattle.pif_model.specs.World.Progress.{Fresh, Waiting, Has}
use Rattle.pif_model_lemmas.proofs.Waiting.{pair-from_named}
use Rattle.pif_model_simulation.proofs.runs.Worlds.{call-with_progress}
use Rattle.pif_model_simulation.proofs.runs.Holding.{same_request, same_progress}
use Rattle.pif_posix_steps.specs.Once.Acts.{effect}
use Rattle.pif_posix_steps.specs.Independence.{is_queued}
use Rattle.pif_search.specs.Runs.{Runs}
use Rattle.pif_history_model.specs.declared.lines.Line.{Line}
use Rattle.pif_history_model.specs.declared.labels.Label.{Label}
use Rattle.pif_history_model.specs.declared.labels.Label.TheVariants.{Moves}
use Rattle.pif_history_model.specs.Plain.{plain_start_of}
use Rattle.pif_history_model.specs.Plain.PlainAdvances.{moves}
use Rattle.pif_history_model.specs.Notes.{Needs, awaits_note, is_asked, is_needed}
use Rattle.pif_history_model.specs.Queues.{is_taken}
use Rattle.pif_history_model.proofs.Soundness.{run_is_reached}
use Rattle.pif_history_model.specs.Known.{known_answer, may_be_answered, KeepsTo, Counted, known_start_of, GoesKnown}
use Rattle.pif_history_model.proofs.Leading.{AreWaiting}
use Rattle.pif_history_model.proofs.Answering.{waiting_at}
use Rattle.pif_history_model.proofs.Knowing.{run-from_known, advancing}
use Rattle.pif_history_model.proofs.Failing.{HasFailed}
use Rattle.pif_history_model.proofs.Turns.{MayFail, failed}

-- the state in which t has failed, after as many lines
abbrev pub failed_at : ℕ → Counted → Counted
failed_at t s = record s { state = failed t s.state }

-- a call that has had no effect isn't that of a waiter
no_waiter : (w : World) (t : ℕ) (q : Request) → AreWaiting w → IsCalling w t q → is_queued w t ≡ false
no_waiter w t q ok call =
    false_from_ne_true (is_queued w t) (λ e.
    let m = pair-from_named w.waiters t e in
    let waits = ok t m.0 m.1 in
    absurd (let wrong : Fresh ≡ Waiting = same_progress call waits.1 in cc))

module _ (l : Bounds) (all : Bool) (lines : List Line) (s : Counted) (t : ℕ) (ok : AreWaiting s.state.world)
    (f : MayFail (drop s.count lines) s.state t) where
  abbrev before : World
  before = s.state.world

  abbrev after : World
  after = with_progress t (Has EBUSY) before

  unqueued : is_queued before t ≡ false
  unqueued = no_waiter before t (TryLock f.meets.mutex) ok f.meets.call

  pub has_failed : HasFailed (drop s.count lines) t s.state (failed t s.state)
  has_failed = record {
    mutex = f.meets.mutex;
    call = f.meets.call;
    unqueued = unqueued;
    apart = f.apart;
    known = f.known;
    is = refl;
  }

  allowed : IsAllowed before (Go t)
  allowed = λ i. go_refused (f.thread i) (f.living i) (is_some (f.meets.call i))

  -- the step is needed: t awaits no note, and isn't among the waiters
  needed : is_needed all s.state (Moves t) (failed t s.state) ≡ true
  needed =
      (λ i. if awaits_note (f.meets.call i) then is_asked before t else is_taken all (Moves t) (failed t s.state))
      ∙ taken all
    where
      taken : (b : Bool) → (if b then true else not (is_queued before t)) ≡ true
      taken true = refl
      taken false = ap not unqueued

  -- t's call has the result that is known, and those of others stay
  keeps : KeepsTo (drop s.count lines) before → KeepsTo (drop s.count lines) after
  keeps k u q p a come known = go (cases_eq u t)
    where
      go : (u ≡ t) ⊎ (u ≢ t) → may_be_answered q p (thread_at after u).timer.expired a ≡ true
      go (inl e) =
          let x : Bool = (thread_at after u).timer.expired in
          let its : HasCome after t (TryLock f.meets.mutex) (Has EBUSY) =
          call-with_progress before t (Has EBUSY) ∙ ap (at_progress (Has EBUSY)) f.meets.call in
          let come_too : HasCome after t q p = subst (λ n. HasCome after n q p) e come in
          let request : q ≡ TryLock f.meets.mutex = same_request come_too its in
          let progress : p ≡ Has EBUSY = same_progress come_too its in
          let told : Some a ≡ Some EBUSY = sym known ∙ ap (λ n. known_answer n (drop s.count lines)) e ∙ f.known in
          let answer : a ≡ EBUSY = cc in
          (λ i. may_be_answered (request i) (progress i) x (answer i)) ∙ eq-eqb EBUSY EBUSY refl
      go (inr d) =
          let new : Thread = record (thread_at before t) { call = at_progress (Has EBUSY) (thread_at before t).call } in
          let same : thread_at after u ≡ thread_at before u = get_or-set_other before.threads t u new nobody d in
          ap (λ (x : Thread). may_be_answered q p x.timer.expired a) same
          ∙ k u q p a (sym (ap (λ (x : Thread). x.call) same) ∙ come) known

  -- it fails by a step
  pub fails_by_step : KeepsTo (drop s.count lines) before → GoesKnown (Needs l all) lines s (Moves t) (failed_at t s)
  fails_by_step k = record {
    step = record {
      advances = moves t after refl (record {
        allowed = allowed;
        acts =
            effect
            (try_lock f.meets.mutex f.meets.call (busy f.meets.owned (λ own. absurd (f.meets.not_own own)) refl));
      }) refl;
      needed = needed;
    };
    count = refl;
    next = λ line is. absurd (cc);
    keeps = keeps k;
  }

-- RUNS

-- at the start no call is open
start_keeps : (n : ℕ) (rest : List Line) → KeepsTo rest (empty_world n)
start_keeps n rest zero q p a come known = absurd (cc)
start_keeps n rest (suc t) q p a come known = absurd (cc)

module _ (l : Bounds) (all : Bool) (lines : List Line) where
  -- a state that a run reaches keeps to the lines to come
  pub run_keeps : (h : List Label) (s : Counted) → Runs (GoesKnown (Needs l all) lines) (known_start_of l) h s
      → KeepsTo (drop s.count lines) s.state.world
  run_keeps [] s r =
      subst (λ (z : Counted). KeepsTo (drop z.count lines) z.state.world) r
      (start_keeps l.signals (drop (known_start_of l).count lines))
  run_keeps (x ∷ h) s r = r.2.keeps

  -- and waiters wait in it
  pub run_waits : (h : List Label) (s : Counted) → Runs (GoesKnown (Needs l all) lines) (known_start_of l) h s
      → AreWaiting s.state.world
  run_waits h s r =
      let plain = run-from_known (Needs l all) lines (known_start_of l) s h r in
      let searched = advancing l (Needs l all) (λ a n x y. y.advances) lines (plain_start_of l) s.state h plain in
      waiting_at l s.state.world (run_is_reached l h s.state searched).run

  module _ (h : List Label) (s : Counted) (r : Runs (GoesKnown (Needs l all) lines) (known_start_of l) h s) (t : ℕ)
      (f : MayFail (drop s.count lines) s.state t) where
    pub failed_in_run : HasFailed (drop s.count lines) t s.state (failed t s.state)
    failed_in_run = has_failed l all lines s t (run_waits h s r) f

    pub fails_in_run : GoesKnown (Needs l all) lines s (Moves t) (failed_at t s)
    fails_in_run = fails_by_step l all lines s t (run_waits h s r) f (run_keeps h s r)
