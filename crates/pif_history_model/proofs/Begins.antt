-- The begin of a call that uses no variable comes before a hidden step, if it comes behind it.
use Rattle.std.proofs.Common.{ℕ, ◌≡◌, ◌≢◌, ◌==◌, ◌∙◌, Bool, true, false, List, drop, nat_lt, Option, Some, None, is_some, refl, sym, ap, subst, if◌then◌else◌}
use Rattle.pif_types.specs.Bounds.{Bounds}
use Rattle.pif_types.specs.declared.requests.Request.{Request}
use Rattle.pif_types.specs.declared.requests.Request.TheVariants.{Wait}
use Rattle.pif_model.specs.declared.events.Event.TheVariants as event
use Rattle.pif_model.specs.declared.events.Seen.TheVariants as seen
use Rattle.pif_model.specs.declared.events.Entry.{Entry}
use Rattle.pif_model.specs.declared.events.Entry.TheVariants as entry
use Rattle.pif_model.specs.Deadlines.{plain, timer_of}
use Rattle.pif_model.specs.Refusals.{begin_refused, go_refused}
use Rattle.pif_model.specs.Posix.{World, Call, Memory, thread_at, begun_memory, is_use, variable_of, refusal_of, names_known, is_thread, is_living, IsAllowed}
use Rattle.pif_model.specs.World.Progress.{Fresh}
use Rattle.pif_model_simulation.proofs.runs.Worlds.{call_of, begin_allowed}
use Rattle.pif_posix_steps.specs.Once.{Enters, MovesOnce}
use Rattle.pif_posix_steps.specs.Independence.{is_queued}
use Rattle.pif_posix_steps.proofs.IndependentThreads.{is_calm, put, Stays, stays_call, stays_living}
use Rattle.pif_posix_steps.proofs.IndependentEntries.{begin_is, begin_from, still_begins}
use Rattle.pif_history_model.specs.declared.lines.Line.{Line}
use Rattle.pif_history_model.specs.declared.lines.Line.TheVariants as line
use Rattle.pif_history_model.specs.declared.labels.Label.{Label}
use Rattle.pif_history_model.specs.declared.labels.Label.TheVariants.{Shown, Moves, Ends}
use Rattle.pif_history_model.specs.Lines.{line_of, is_among, is_line_among, dying_after}
use Rattle.pif_history_model.specs.Shown.{IsSeen}
use Rattle.pif_history_model.specs.Shown.IsSeen.{rests as sees_rest, prio as sees_prio, dying as sees_dying}
use Rattle.pif_history_model.specs.Plain.{PlainConfiguration, PlainAdvances}
use Rattle.pif_history_model.specs.Searched.{hides}
use Rattle.pif_history_model.specs.Plain.PlainAdvances.{moves, ends, enters, sees, has_ended}
use Rattle.pif_history_model.specs.Notes.{will_use, Needs}
use Rattle.pif_history_model.specs.Known.{may_be_answered, KeepsTo, Counted, GoesKnown}
use Rattle.pif_history_model.specs.Tested.{is_call_kept}
use Rattle.pif_history_model.proofs.Leading.{AreWaiting}
use Rattle.pif_history_model.proofs.Reaching.{idle_is_unqueued, same_dying, idle_before}
use Rattle.pif_history_model.proofs.Beside.{ComesBefore, GoesBeside, changed, beside_hidden, kept_behind, exchanged}

-- A CALL THAT BEGINS

-- the call of a request that begins
abbrev opened : Request → Option Call
opened q = Some (record { request = plain q; progress = Fresh })

-- it may be answered in each way
fresh_may : (q : Request) (a : ℕ) → may_be_answered q Fresh false a ≡ true
fresh_may (Wait c m) a = refl
fresh_may q a = refl

fresh_kept : (q : Request) (o : Option ℕ) → is_call_kept (opened q) false o ≡ true
fresh_kept q None = refl
fresh_kept q (Some a) = fresh_may (plain q) a

-- it is about to use no variable, if it uses none
no_use_at : (q : Request) → is_use (plain q) ≡ false → (d : ℕ) → will_use d (opened q) ≡ false
no_use_at q unused d = ap (λ b. if b then variable_of (plain q) == d else false) unused

-- LINES

-- the entry that the line of a begin shows
begin_entry : (e : Entry) (t : ℕ) (q : Request) → line_of e ≡ Some (line.Begin t q)
    → e ≡ entry.Step (event.Begin t q) seen.Begun
begin_entry (entry.Step (event.Begin u r) seen.Begun) t q of =
    let here : Some (line.Begin u r) ≡ Some (line.Begin t q) = of in
    let whose : u ≡ t = cc in
    let which : r ≡ q = cc in
    λ i. entry.Step (event.Begin (whose i) (which i)) seen.Begun
begin_entry (entry.Step (event.Go u) (seen.Answered a)) t q of = absurd (cc)
begin_entry (entry.Step (event.End u) seen.Ended) t q of = absurd (cc)
begin_entry (entry.Step (event.Tick n) seen.Ticked) t q of = absurd (cc)
begin_entry _ t q of = absurd (cc)

-- no line of a begin tells of the state
no_look : (t : ℕ) (q : Request) (k : Line) (w : World) → k ≡ line.Begin t q → IsSeen k w → ⊥
no_look t q k w is (sees_rest u e lives rest) = absurd (let other : line.Rests u ≡ line.Begin t q = sym e ∙ is in cc)
no_look t q k w is (sees_prio u p e lives same) = absurd (let other : line.Prio u p ≡ line.Begin t q = sym e ∙ is in cc)
no_look t q k w is (sees_dying u e lives) = absurd (let other : line.Dying u ≡ line.Begin t q = sym e ∙ is in cc)

-- what a step by the line of a begin is
record IsBegun (l : Bounds) (t : ℕ) (q : Request) (s n : PlainConfiguration) : Type 0 where
  spared : is_among s.dying t ≡ false
  enters : Enters l s.world (entry.Step (event.Begin t q) seen.Begun) n.world
  dying : n.dying ≡ s.dying

is_begun : (l : Bounds) (t : ℕ) (q : Request) (s n : PlainConfiguration) → PlainAdvances l s (Shown (line.Begin t q)) n
    → IsBegun l t q s n
is_begun l t q s n (moves u w is y e) = absurd (let other : Shown (line.Begin t q) ≡ Moves u = is in cc)
is_begun l t q s n (ends u w is among y e) = absurd (let other : Shown (line.Begin t q) ≡ Ends u = is in cc)
is_begun l t q s n (enters k e w is of spared y same) =
    let same_line : k ≡ line.Begin t q = (let here : Shown (line.Begin t q) ≡ Shown k = is in cc) in
    let begin : e ≡ entry.Step (event.Begin t q) seen.Begun = begin_entry e t q (of ∙ ap Some same_line) in
    record {
      spared = sym (ap (is_line_among s.dying) same_line) ∙ spared;
      enters = subst (λ (z : PlainConfiguration). Enters l s.world (entry.Step (event.Begin t q) seen.Begun) z.world) (sym same)
          (subst (λ z. Enters l s.world z w) begin y);
      dying = ap (λ (z : PlainConfiguration). z.dying) same ∙ ap (λ z. dying_after z s.dying) same_line;
    }
is_begun l t q s n (sees k is spared y same) =
    absurd (no_look t q k s.world (let here : Shown (line.Begin t q) ≡ Shown k = is in cc) y)
is_begun l t q s n (has_ended u is among dead same) =
    absurd (let other : Shown (line.Begin t q) ≡ Shown (line.End u) = is in cc)

-- STEPS

-- a thread with no call open makes no move
idle_moves_not : (t : ℕ) (w v : World) → call_of w t ≡ None → MovesOnce t w v → ⊥
idle_moves_not t w v none x = by_tests (is_thread w t) (is_living w t) refused
  where
    refused : go_refused (is_thread w t) (is_living w t) false ≡ None
    refused = (λ i. go_refused (is_thread w t) (is_living w t) (is_some (sym none i))) ∙ x.allowed

    by_tests : (a b : Bool) → go_refused a b false ≡ None → ⊥
    by_tests true true e = cc
    by_tests true false e = cc
    by_tests false b e = cc

idle_steps_not : (l : Bounds) (t : ℕ) (s n : PlainConfiguration) (x : Label) → call_of s.world t ≡ None
    → PlainAdvances l s x n → x ≢ Moves t
idle_steps_not l t s n x none (moves u w is y e) same =
    let whose : u ≡ t = (let here : Moves u ≡ Moves t = sym is ∙ same in cc) in
    idle_moves_not t s.world w none (subst (λ k. MovesOnce k s.world w) whose y)
idle_steps_not l t s n x none (ends u w is among y e) same = absurd (let other : Ends u ≡ Moves t = sym is ∙ same in cc)
idle_steps_not l t s n x none (enters k e w is of spared y at) same =
    absurd (let other : Shown k ≡ Moves t = sym is ∙ same in cc)
idle_steps_not l t s n x none (sees k is spared y at) same =
    absurd (let other : Shown k ≡ Moves t = sym is ∙ same in cc)
idle_steps_not l t s n x none (has_ended u is among dead at) same =
    absurd (let other : Shown (line.End u) ≡ Moves t = sym is ∙ same in cc)

-- what is allowed if t stays as it is was allowed before
begin_refused_as_before : (t : ℕ) (q : Request) (w v : World) → Stays t w v
    → refusal_of v (event.Begin t q) ≡ refusal_of w (event.Begin t q)
begin_refused_as_before t q w v s = λ j.
    begin_refused (if t == 0 then false else nat_lt t (s.threads j)) (stays_living t w s j) (is_some (stays_call t w s j))
    (names_known (λ n. if n == 0 then false else nat_lt n (s.mutexes j))
    (λ n. if n == 0 then false else nat_lt n (s.variables j)) q)

module _ (l : Bounds) (all : Bool) (lines : List Line) (s v n : Counted) (x : Label) (t : ℕ) (q : Request)
    (unused : is_use (plain q) ≡ false) (hidden : hides x ≡ true) (ok : AreWaiting s.state.world)
    (keeps : KeepsTo (drop s.count lines) s.state.world) (step : GoesKnown (Needs l all) lines s x v)
    (shows : GoesKnown (Needs l all) lines v (Shown (line.Begin t q)) n) where
  abbrev w : World
  w = s.state.world

  begins : IsBegun l t q v.state n.state
  begins = is_begun l t q v.state n.state shows.step.advances

  its : IsAllowed v.state.world (event.Begin t q)
  its = (begin_is l t q v.state.world n.state.world begins.enters).0

  same : v.state.dying ≡ s.state.dying
  same = same_dying l s.state v.state x hidden step.step.advances

  spared : is_among s.state.dying t ≡ false
  spared = sym (ap (λ us. is_among us t) same) ∙ begins.spared

  idle : call_of w t ≡ None
  idle =
      idle_before l s.state v.state x hidden t ok spared step.step.advances
      (begin_allowed v.state.world t q its).2

  abbrev memory : Memory
  memory = begun_memory w (plain q) (thread_at w t).memory

  unqueued : is_queued w t ≡ false
  unqueued = idle_is_unqueued w t ok idle

  abbrev first : PlainConfiguration
  first =
      changed l t (opened q) (timer_of q) memory refl (no_use_at q unused) s.state (ap is_calm idle)
      (λ d. ap (will_use d) idle) unqueued spared s.state

  beside : GoesBeside l t (opened q) (timer_of q) memory refl (no_use_at q unused) s.state (ap is_calm idle)
      (λ d. ap (will_use d) idle) unqueued spared all x v.state
  beside =
      beside_hidden l t (opened q) (timer_of q) memory refl (no_use_at q unused) s.state (ap is_calm idle)
      (λ d. ap (will_use d) idle) unqueued spared all x v.state hidden
      (idle_steps_not l t s.state v.state x idle step.step.advances) step.step.needed step.step.advances

  allowed : IsAllowed w (event.Begin t q)
  allowed = sym (begin_refused_as_before t q w v.state.world beside.stays) ∙ its

  -- both orders lead to the same state
  same_end : n.state ≡ record v.state { world = put t (opened q) (timer_of q) memory v.state.world }
  same_end =
      let other = still_begins l t q w v.state.world beside.stays unused allowed in
      let worlds : n.state.world ≡ put t (opened q) (timer_of q) memory v.state.world =
      (begin_is l t q v.state.world n.state.world begins.enters).1
      ∙ sym (begin_is l t q v.state.world (put t (opened q) (timer_of q) memory v.state.world) other.enters).1 in
      λ j. record { world = worlds j; dying = begins.dying j }

  -- the begin comes before the hidden step
  pub begin_first : ComesBefore l all lines s (line.Begin t q) x n
  begin_first =
      exchanged l all lines s v n (line.Begin t q) x first hidden step shows
      (enters (line.Begin t q) (entry.Step (event.Begin t q) seen.Begun) first.world refl refl spared
      (begin_from l t q w first.world allowed refl) refl)
      (λ rest is.
      kept_behind l t (opened q) (timer_of q) memory refl (no_use_at q unused) s.state (ap is_calm idle)
      (λ d. ap (will_use d) idle) unqueued spared (line.Begin t q) rest (λ u d. refl) (fresh_kept q)
      (subst (λ (zs : List Line). KeepsTo zs w) is keeps))
      (subst (λ (z : PlainConfiguration). Needs l all first x z) (sym same_end) beside.step)
