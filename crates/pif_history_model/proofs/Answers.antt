-- The answer of a call that has its result comes before a hidden step, if it comes behind it.
use Rattle.std.proofs.Common.{ℕ, ◌≡◌, ◌≢◌, ◌==◌, ◌∙◌, Bool, true, false, List, drop, nat_lt, Some, None, is_some, refl, sym, ap, subst, if◌then◌else◌}
use Rattle.std.proofs.lemmas.Bool.{true≢false, ne_eqb}
use Rattle.pif_types.specs.Bounds.{Bounds}
use Rattle.pif_types.specs.declared.requests.Request.{Request}
use Rattle.pif_model.specs.declared.lines.Timer.{Timer}
use Rattle.pif_model.specs.declared.events.Event.TheVariants as event
use Rattle.pif_model.specs.declared.events.Seen.TheVariants as seen
use Rattle.pif_model.specs.declared.events.Entry.TheVariants as entry
use Rattle.pif_model.specs.Deadlines.{is_reached, reported_result}
use Rattle.pif_model.specs.Refusals.{go_refused}
use Rattle.pif_model.specs.Posix.{World, Memory, thread_at, with_call_by, without_call, is_use, is_counting, is_due, refusal_of, HasCome, IsAllowed, Effect}
use Rattle.pif_model.specs.World.Progress.{Fresh, Leaving, Has, Checked, Enlisted, Blocked, Reacquiring, Used}
use Rattle.pif_model.specs.Posix.Effect.{lock, try_lock, unlock, consistent, set_prio, check_wait, enlist, give_up, lock_again, use_variable, choose, leave}
use Rattle.pif_model_lemmas.proofs.Waiting.{by_test}
use Rattle.pif_model_simulation.proofs.runs.Worlds.{call_of}
use Rattle.pif_model_simulation.proofs.runs.Holding.{same_progress}
use Rattle.pif_posix_steps.specs.Once.{Answers, Acts, MovesOnce}
use Rattle.pif_posix_steps.specs.Once.Acts.{effect, expires, notes}
use Rattle.pif_posix_steps.proofs.Singles.{has_counts_not}
use Rattle.pif_posix_steps.specs.Independence.{is_queued, AnswersAlone}
use Rattle.pif_posix_steps.proofs.IndependentThreads.{is_calm, put, Stays, stays_call, stays_living, stays_timer, stays_memory}
use Rattle.pif_posix_steps.proofs.IndependentEntries.{answer_from}
use Rattle.pif_history_model.specs.declared.lines.Line.{Line}
use Rattle.pif_history_model.specs.declared.lines.Line.TheVariants as line
use Rattle.pif_history_model.specs.declared.labels.Label.{Label}
use Rattle.pif_history_model.specs.declared.labels.Label.TheVariants.{Shown, Moves, Ends}
use Rattle.pif_history_model.specs.Lines.{is_among, dying_after}
use Rattle.pif_history_model.specs.Plain.{PlainConfiguration, PlainAdvances}
use Rattle.pif_history_model.specs.Searched.{hides}
use Rattle.pif_history_model.specs.Plain.PlainAdvances.{moves, ends, enters, sees, has_ended}
use Rattle.pif_history_model.specs.Notes.{will_use, Needs}
use Rattle.pif_history_model.specs.Known.{KeepsTo, Counted, GoesKnown}
use Rattle.pif_history_model.proofs.Entering.{answer-from_entry}
use Rattle.pif_history_model.proofs.Answering.{no_look}
use Rattle.pif_history_model.proofs.Reaching.{same_dying}
use Rattle.pif_history_model.proofs.Beside.{ComesBefore, GoesBeside, changed, beside_hidden, kept_behind, exchanged}

-- t's call has its result, and is told a. t isn't dying, and is among no waiters
pub record IsReady (s : PlainConfiguration) (t a : ℕ) : Type 0 where
  pub request : Request
  pub result : ℕ
  pub call : HasCome s.world t request (Has result)
  pub told : a ≡ reported_result request (thread_at s.world t).timer.expired result
  pub unqueued : is_queued s.world t ≡ false
  pub spared : is_among s.dying t ≡ false

-- A CALL THAT HAS ITS RESULT

module _ (t : ℕ) (w v : World) (q : Request) (r : ℕ) (call : HasCome w t q (Has r)) where
  -- it makes no move
  done_has_no_effect : Effect t w v → ⊥
  done_has_no_effect (lock n c x) = let other : Has r ≡ Fresh = same_progress call c in cc
  done_has_no_effect (try_lock n c x) = let other : Has r ≡ Fresh = same_progress call c in cc
  done_has_no_effect (unlock n c x) = let other : Has r ≡ Fresh = same_progress call c in cc
  done_has_no_effect (consistent n c x) = let other : Has r ≡ Fresh = same_progress call c in cc
  done_has_no_effect (set_prio u p c x) = let other : Has r ≡ Fresh = same_progress call c in cc
  done_has_no_effect (check_wait d n c x) = let other : Has r ≡ Fresh = same_progress call c in cc
  done_has_no_effect (enlist d n c x) = let other : Has r ≡ Checked = same_progress call c in cc
  done_has_no_effect (give_up d n still c x) = let other : Has r ≡ Enlisted still = same_progress call c in cc
  done_has_no_effect (lock_again d n c x) = let other : Has r ≡ Reacquiring = same_progress call c in cc
  done_has_no_effect (use_variable p c u x) = let other : Has r ≡ Fresh = same_progress call c in cc
  done_has_no_effect (choose p c x) = let other : Has r ≡ Used = same_progress call c in cc
  done_has_no_effect (leave p c x) = let other : Has r ≡ Leaving = same_progress call c in cc

  done_is_not_due : is_due w t ≡ true → ⊥
  done_is_not_due due =
      let counts : is_counting (call_of w t) ≡ false = ap is_counting call ∙ has_counts_not q r in
      let not_due : is_due w t ≡ false =
      ap (λ b. if is_reached (thread_at w t).timer.deadline w.time then b else false) counts
      ∙ by_test (λ b. (if b then false else false) ≡ false) (is_reached (thread_at w t).timer.deadline w.time)
      (λ _. refl) (λ _. refl) in
      true≢false (sym due ∙ not_due)

  done_moves_not : MovesOnce t w v → ⊥
  done_moves_not x = by_act x.acts
    where
      by_act : Acts t w v → ⊥
      by_act (effect e) = done_has_no_effect e
      by_act (expires due e) = done_is_not_due due
      by_act (notes d n c e) = let other : Has r ≡ Blocked false = same_progress call c in cc

-- it is about to use no variable
done_uses_not : (q : Request) (r d : ℕ) → will_use d (Some (record { request = q; progress = Has r })) ≡ false
done_uses_not q r d = by_test (λ b. (if b then false else false) ≡ false) (is_use q) (λ _. refl) (λ _. refl)

done_steps_not : (l : Bounds) (s n : PlainConfiguration) (x : Label) (t a : ℕ) → IsReady s t a → PlainAdvances l s x n
    → x ≢ Moves t
done_steps_not l s n x t a ready (moves u w is y e) same =
    let whose : u ≡ t = (let here : Moves u ≡ Moves t = sym is ∙ same in cc) in
    done_moves_not t s.world w ready.request ready.result ready.call (subst (λ k. MovesOnce k s.world w) whose y)
done_steps_not l s n x t a ready (ends u w is among y e) same =
    absurd (let other : Ends u ≡ Moves t = sym is ∙ same in cc)
done_steps_not l s n x t a ready (enters k e w is of spared y at) same =
    absurd (let other : Shown k ≡ Moves t = sym is ∙ same in cc)
done_steps_not l s n x t a ready (sees k is spared y at) same =
    absurd (let other : Shown k ≡ Moves t = sym is ∙ same in cc)
done_steps_not l s n x t a ready (has_ended u is among dead at) same =
    absurd (let other : Shown (line.End u) ≡ Moves t = sym is ∙ same in cc)

-- LINES

-- what a step by the line of an answer is
record IsAnswered (t a : ℕ) (s n : PlainConfiguration) : Type 0 where
  answers : Answers t a s.world n.world
  dying : n.dying ≡ s.dying

is_answered_by : (l : Bounds) (t a : ℕ) (s n : PlainConfiguration) → PlainAdvances l s (Shown (line.Answer t a)) n
    → IsAnswered t a s n
is_answered_by l t a s n (moves u w is y e) = absurd (let other : Shown (line.Answer t a) ≡ Moves u = is in cc)
is_answered_by l t a s n (ends u w is among y e) = absurd (let other : Shown (line.Answer t a) ≡ Ends u = is in cc)
is_answered_by l t a s n (enters k e w is of spared y same) =
    let same_line : k ≡ line.Answer t a = (let here : Shown (line.Answer t a) ≡ Shown k = is in cc) in
    record {
      answers = subst (λ (z : PlainConfiguration). Answers t a s.world z.world) (sym same)
          (answer-from_entry t l s.world w e a (of ∙ ap Some same_line) y);
      dying = ap (λ (z : PlainConfiguration). z.dying) same ∙ ap (λ z. dying_after z s.dying) same_line;
    }
is_answered_by l t a s n (sees k is spared y same) =
    absurd (no_look t a k s.world (let here : Shown (line.Answer t a) ≡ Shown k = is in cc) y)
is_answered_by l t a s n (has_ended u is among dead same) =
    absurd (let other : Shown (line.Answer t a) ≡ Shown (line.End u) = is in cc)

-- STEPS

-- a move that is allowed if t stays as it is was allowed before
go_refused_as_before : (t : ℕ) (w v : World) → Stays t w v → refusal_of v (event.Go t) ≡ refusal_of w (event.Go t)
go_refused_as_before t w v s = λ j.
    go_refused (if t == 0 then false else nat_lt t (s.threads j)) (stays_living t w s j) (is_some (stays_call t w s j))

module _ (l : Bounds) (all : Bool) (lines : List Line) (s v : Counted) (x : Label) (t a : ℕ)
    (ready : IsReady s.state t a) (hidden : hides x ≡ true) (step : GoesKnown (Needs l all) lines s x v) where
  abbrev w : World
  w = s.state.world

  abbrev timer : Timer
  timer = (thread_at w t).timer

  abbrev memory : Memory
  memory = (thread_at w t).memory

  uses_not : (d : ℕ) → will_use d (call_of w t) ≡ false
  uses_not d = ap (will_use d) ready.call ∙ done_uses_not ready.request ready.result d

  abbrev first : PlainConfiguration
  first =
      changed l t None timer memory refl (λ d. refl) s.state (ap is_calm ready.call) uses_not ready.unqueued
      ready.spared s.state

  beside : GoesBeside l t None timer memory refl (λ d. refl) s.state (ap is_calm ready.call) uses_not ready.unqueued
      ready.spared all x v.state
  beside =
      beside_hidden l t None timer memory refl (λ d. refl) s.state (ap is_calm ready.call) uses_not ready.unqueued
      ready.spared all x v.state hidden (done_steps_not l s.state v.state x t a ready step.step.advances)
      step.step.needed step.step.advances

  -- behind the hidden step the call has its result still
  pub ready_still : IsReady v.state t a
  ready_still = record {
    request = ready.request;
    result = ready.result;
    call = stays_call t w beside.stays ∙ ready.call;
    told = ready.told
        ∙ sym (ap (λ (z : Timer). reported_result ready.request z.expired ready.result) (stays_timer t w beside.stays));
    unqueued = beside.stays.unqueued;
    spared = ap (λ us. is_among us t) (same_dying l s.state v.state x hidden step.step.advances) ∙ ready.spared;
  }

  module _ (n : Counted) (keeps : KeepsTo (drop s.count lines) w)
      (shows : GoesKnown (Needs l all) lines v (Shown (line.Answer t a)) n) where
    its : IsAnswered t a v.state n.state
    its = is_answered_by l t a v.state n.state shows.step.advances

    allowed : IsAllowed w (event.Go t)
    allowed = sym (go_refused_as_before t w v.state.world beside.stays) ∙ its.answers.allowed

    alone : AnswersAlone l t a w (with_call_by t without_call w)
    alone =
        subst (λ b. AnswersAlone l t b w (with_call_by t without_call w)) (sym ready.told)
        (answer_from l t ready.result ready.request w ready.call ready.unqueued allowed)

    -- both orders lead to the same state
    same_end : n.state ≡ record v.state { world = put t None timer memory v.state.world }
    same_end =
        let worlds : n.state.world ≡ put t None timer memory v.state.world =
        its.answers.closes
        ∙ (λ j. put t None (stays_timer t w beside.stays j) (stays_memory t w beside.stays j) v.state.world) in
        λ j. record { world = worlds j; dying = its.dying j }

    -- the answer comes before the hidden step
    pub answer_first : ComesBefore l all lines s (line.Answer t a) x n
    answer_first =
        exchanged l all lines s v n (line.Answer t a) x first hidden step shows
        (enters (line.Answer t a) (entry.Step (event.Go t) (seen.Answered a)) first.world refl refl ready.spared
        alone.enters refl)
        (λ rest is.
        kept_behind l t None timer memory refl (λ d. refl) s.state (ap is_calm ready.call) uses_not ready.unqueued
        ready.spared (line.Answer t a) rest (λ u d. ne_eqb t u (λ e. d (sym e))) (λ o. refl)
        (subst (λ (zs : List Line). KeepsTo zs w) is keeps))
        (subst (λ (z : PlainConfiguration). Needs l all first x z) (sym same_end) beside.step)
