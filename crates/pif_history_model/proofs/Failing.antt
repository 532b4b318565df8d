-- A trylock that is known to be answered EBUSY fails ahead of time. Each step of others is possible after that too, and
-- a move of its own thread is the failing itself.
use Rattle.std.proofs.Common.{ℕ, zero, suc, ◌≡◌, ◌≢◌, ◌⊎◌, ◌<◌, ◌≤◌, ◌==◌, ◌∙◌, Bool, true, false, cond, not, List, [], ◌∷◌, length, drop, Option, Some, None, refl, sym, ap, subst, inl, inr, if◌then◌else◌}
use Rattle.std.specs.List.{list_any, filter}
use Rattle.std.proofs.lemmas.Bool.{cases_eq, cases_lt, eq-eqb, or_from, or_parts, true≢false}
use Rattle.std.proofs.lemmas.List.{get_or_past}
use Rattle.pif_types.specs.Bounds.{Bounds}
use Rattle.pif_types.specs.declared.requests.Request.{Request}
use Rattle.pif_types.specs.declared.requests.Request.TheVariants.{TryLock}
use Rattle.pif_model.specs.declared.lines.Timer.{Timer}
use Rattle.pif_model.specs.declared.events.Event.TheVariants as event
use Rattle.pif_model.specs.declared.events.Seen.TheVariants as seen
use Rattle.pif_model.specs.declared.events.Entry.{Entry}
use Rattle.pif_model.specs.declared.events.Entry.TheVariants as entry
use Rattle.pif_model.specs.Deadlines.{is_reached}
use Rattle.pif_model.specs.NamedNumbers.{EAGAIN, EBUSY}
use Rattle.pif_model.specs.Posix.{World, Thread, Call, Memory, Progress, Health, nobody, thread_at, mutex_at, with_thread, with_mutex, with_progress, with_one_hold_more, at_progress, on_taking, sleeps, rests, is_use, IsCalling, HasCome, IsAllowed, LocksAgain, TriesToLock, Effect}
use Rattle.pif_model.specs.World.Health.{Fine, Inconsistent, Unusable}
use Rattle.pif_model.specs.World.Progress.{Fresh, Leaving, Has, Used}
use Rattle.pif_model.specs.Posix.LocksAgain.{rises, at_limit}
use Rattle.pif_model.specs.Posix.TriesToLock.{own_recursive, busy, free}
use Rattle.pif_model.specs.Posix.Effect.{lock, try_lock, unlock, consistent, set_prio, check_wait, enlist, give_up, lock_again, use_variable, choose, leave}
use Rattle.pif_model.specs.Posix.Expires.{lock as lock_expires, wait as wait_expires}
use Rattle.pif_model_lemmas.proofs.Waiting.{by_test}
use Rattle.pif_model_simulation.proofs.runs.Worlds.{call_of, call-with_progress, begin_allowed}
use Rattle.pif_model_simulation.proofs.runs.Holding.{same_progress, same_request}
use Rattle.pif_posix_steps.specs.Once.{MovesOnce, Acts, Enters, Answers}
use Rattle.pif_posix_steps.specs.Once.Acts.{effect, expires, notes}
use Rattle.pif_posix_steps.specs.Independence.{is_queued}
use Rattle.pif_posix_steps.proofs.IndependentThreads.{is_calm, at_place, recalled, put}
use Rattle.pif_posix_steps.proofs.IndependentMoves.{put_length, put_effective, put_living, put_other, beside_move}
use Rattle.pif_posix_steps.proofs.IndependentEntries.{begin_is, answer_is, beside_begin, beside_answer, beside_tick}
use Rattle.pif_posix_steps.proofs.IndependentOthers.{Remains, Alongside, remains_from_stays, beside_end, beside_thread, beside_mutex, beside_variable}
use Rattle.pif_history_model.specs.declared.lines.Line.{Line}
use Rattle.pif_history_model.specs.declared.lines.Line.TheVariants as line
use Rattle.pif_history_model.specs.declared.labels.Label.{Label}
use Rattle.pif_history_model.specs.declared.labels.Label.TheVariants.{Shown, Moves, Ends}
use Rattle.pif_history_model.specs.Lines.{line_of, is_among, dying_after}
use Rattle.pif_history_model.specs.Shown.{IsSeen}
use Rattle.pif_history_model.specs.Shown.IsSeen.{rests as sees_rest, prio as sees_prio, dying as sees_dying}
use Rattle.pif_history_model.specs.Plain.{PlainConfiguration, PlainAdvances}
use Rattle.pif_history_model.specs.Searched.{hides}
use Rattle.pif_history_model.specs.Plain.PlainAdvances.{moves, ends, enters, sees, has_ended}
use Rattle.pif_history_model.specs.Queues.{is_taken}
use Rattle.pif_history_model.specs.Notes.{awaits_note, will_use, variable_of_call, used_below, is_used_soon, is_asked, is_needed, Needs}
use Rattle.pif_history_model.proofs.Soundness.{lines_after}
use Rattle.pif_history_model.specs.Known.{is_over, known_answer, may_be_answered, KeepsTo, Counted, count_after, GoesKnown}
use Rattle.pif_history_model.specs.Tested.{is_call_kept, is_kept}
use Rattle.pif_history_model.proofs.Entering.{answer-from_entry}
use Rattle.pif_history_model.proofs.Answering.{known_cases, no_look}
use Rattle.pif_history_model.proofs.Testing.{one_kept}

-- t has failed ahead: n is s, but that t's trylock has come to EBUSY, which is known to be its answer
pub record HasFailed (rest : List Line) (t : ℕ) (s n : PlainConfiguration) : Type 0 where
  pub mutex : ℕ
  pub call : IsCalling s.world t (TryLock mutex)
  pub unqueued : is_queued s.world t ≡ false
  pub apart : is_among s.dying t ≡ false
  pub known : known_answer t rest ≡ Some EBUSY
  pub is : n ≡ record s { world = with_progress t (Has EBUSY) s.world }

-- a step from s to v is followed from n, if t has failed ahead of s
pub data IsFollowed (l : Bounds) (all : Bool) (lines : List Line) (t : ℕ) (n : Counted) (x : Label)
    (v : Counted) : Type 0 where
  -- it was t's own, and comes to n
  own : hides x ≡ true → v ≡ n → IsFollowed l all lines t n x v
  -- by the same step, after which t has failed ahead
  beside : (m : Counted) → GoesKnown (Needs l all) lines n x m → m.count ≡ v.count
      → HasFailed (drop v.count lines) t v.state m.state → IsFollowed l all lines t n x v

-- THE FAILING ITSELF

-- t's trylock of m may be answered EBUSY however far it has come in v
abbrev MayFail : (t m : ℕ) → World → Type 0
MayFail t m v =
    (p : Progress) → HasCome v t (TryLock m) p
    → may_be_answered (TryLock m) p (thread_at v t).timer.expired EBUSY ≡ true

module _ (t m : ℕ) (w v : World) (call : IsCalling w t (TryLock m)) (kept : MayFail t m v) where
  -- how far the trylock comes, EBUSY may be its answer
  may_come : (x : World) (p : Progress) → call_of x t ≡ call_of w t → v ≡ with_progress t p x
      → may_be_answered (TryLock m) p (thread_at v t).timer.expired EBUSY ≡ true
  may_come x p same e =
      kept p (ap (λ (z : World). call_of z t) e ∙ call-with_progress x t p ∙ ap (at_progress p) (same ∙ call))

  not_again : (n : ℕ) → LocksAgain t n w v → ⊥
  not_again n (rises may e) = true≢false (sym (may_come (with_one_hold_more n w) (Has 0) refl e))
  not_again n (at_limit most e) = true≢false (sym (may_come w (Has EAGAIN) refl e))

  not_taken : (h : Health) → may_be_answered (TryLock m) (on_taking h) (thread_at v t).timer.expired EBUSY ≡ true → ⊥
  not_taken Fine e = true≢false (sym e)
  not_taken Inconsistent e = true≢false (sym e)
  not_taken Unusable e = true≢false (sym e)

  fails_TriesToLock : (n : ℕ) → TriesToLock t n w v → v ≡ with_progress t (Has EBUSY) w
  fails_TriesToLock n (own_recursive o k x) = absurd (not_again n x)
  fails_TriesToLock n (busy o k e) = e
  fails_TriesToLock n (free o e) =
      absurd (not_taken (mutex_at w n).health
      (may_come (with_mutex n (record (mutex_at w n) { owner = t; count = 1 }) w) (on_taking (mutex_at w n).health)
      refl e))

  -- the open call is no other request
  no_other : {q : Request} {p : Progress} {A : Type 0} → HasCome w t q p → (TryLock m ≡ q → ⊥) → A
  no_other c other = absurd (other (same_request call c))

  fails_Effect : Effect t w v → v ≡ with_progress t (Has EBUSY) w
  fails_Effect (try_lock n c x) = fails_TriesToLock n x
  fails_Effect (lock n c x) = no_other c (λ e. cc)
  fails_Effect (unlock n c x) = no_other c (λ e. cc)
  fails_Effect (consistent n c x) = no_other c (λ e. cc)
  fails_Effect (set_prio u p c x) = no_other c (λ e. cc)
  fails_Effect (check_wait d n c x) = no_other c (λ e. cc)
  fails_Effect (enlist d n c x) = no_other c (λ e. cc)
  fails_Effect (give_up d n still c x) = no_other c (λ e. cc)
  fails_Effect (lock_again d n c x) = no_other c (λ e. cc)
  fails_Effect (use_variable q c u x) = absurd (true≢false (sym u ∙ ap is_use (sym (same_request call c))))
  fails_Effect (choose q c x) = absurd (let other : Fresh ≡ Used = same_progress call c in cc)
  fails_Effect (leave q c x) = absurd (let other : Fresh ≡ Leaving = same_progress call c in cc)

  fails_Acts : Acts t w v → v ≡ with_progress t (Has EBUSY) w
  fails_Acts (effect x) = fails_Effect x
  fails_Acts (expires due (lock_expires n p c e)) = no_other c (λ e. cc)
  fails_Acts (expires due (wait_expires d n p c e)) = no_other c (λ e. cc)
  fails_Acts (notes d n c e) = no_other c (λ e. cc)

-- t's own move is that it fails
pub own_move : (l : Bounds) (all : Bool) (lines : List Line) (t : ℕ) (s n v : Counted) → n.count ≡ s.count
    → HasFailed (drop s.count lines) t s.state n.state → GoesKnown (Needs l all) lines s (Moves t) v → v ≡ n
own_move l all lines t s n v count h g = by_step g.step.advances
  where
    kept : MayFail t h.mutex v.state.world
    kept p come =
        g.keeps t (TryLock h.mutex) p EBUSY come (ap (λ k. known_answer t (drop k lines)) g.count ∙ h.known)

    by_world : (w : World) → v.state ≡ record s.state { world = w } → MovesOnce t s.state.world w → v ≡ n
    by_world w e x =
        let fails : w ≡ with_progress t (Has EBUSY) s.state.world =
        fails_Acts t h.mutex s.state.world w h.call
        (subst (MayFail t h.mutex) (ap (λ (y : PlainConfiguration). y.world) e) kept) x.acts in
        let state : v.state ≡ n.state = e ∙ ap (λ (z : World). record s.state { world = z }) fails ∙ sym h.is in
        let same_count : v.count ≡ n.count = g.count ∙ sym count in
        λ j. record { state = state j; count = same_count j }

    by_step : PlainAdvances l s.state (Moves t) v.state → v ≡ n
    by_step (moves u w is x e) =
        let whose : u ≡ t = (let same : Moves t ≡ Moves u = is in cc) in
        by_world w e (subst (λ k. MovesOnce k s.state.world w) whose x)
    by_step (ends u w is among x e) = absurd (let other : Moves t ≡ Ends u = is in cc)
    by_step (enters k e w is of look x same) = absurd (let other : Moves t ≡ Shown k = is in cc)
    by_step (sees k is look x same) = absurd (let other : Moves t ≡ Shown k = is in cc)
    by_step (has_ended u is among dead same) = absurd (let other : Moves t ≡ Shown (line.End u) = is in cc)

-- STATES IN WHICH IT HAS FAILED

-- the call of a trylock of m that has failed
abbrev failed_call : ℕ → Option Call
failed_call m = Some (record { request = TryLock m; progress = Has EBUSY })

-- the state v, but that t's trylock of m has failed. The timer and the memory of t are those of w
abbrev failed_in : (t m : ℕ) (w v : World) → World
failed_in t m w v = put t (failed_call m) (thread_at w t).timer (thread_at w t).memory v

abbrev failed : (t m : ℕ) → World → PlainConfiguration → PlainConfiguration
failed t m w n = record n { world = failed_in t m w n.world }

failed_is : (t m : ℕ) (w : World) → IsCalling w t (TryLock m) → with_progress t (Has EBUSY) w ≡ failed_in t m w w
failed_is t m w e = λ j. with_thread t (record (thread_at w t) { call = at_progress (Has EBUSY) (e j) }) w

-- the timer and the memory may be taken from a later state
failed_later : (t m : ℕ) (w v : World) → Remains t w v → failed_in t m v v ≡ failed_in t m w v
failed_later t m w v r = λ j. put t (failed_call m) (r.same j).timer (r.same j).memory v

-- who is calling was added
caller_is_added : (w : World) (t : ℕ) (q : Request) (p : Progress) → HasCome w t q p → t < length w.threads
caller_is_added w t q p come = by_length (cases_lt t (length w.threads))
  where
    by_length : (t < length w.threads) ⊎ (length w.threads ≤ t) → t < length w.threads
    by_length (inl h) = h
    by_length (inr h) =
        let none : call_of w t ≡ None = ap (λ (x : Thread). x.call) (get_or_past w.threads t nobody h) in
        let some : call_of w t ≡ Some (record { request = q; progress = p }) = come in
        absurd (cc)

-- LINES

-- who isn't among some threads isn't among those that are left when u is taken out
left_out : (us : List ℕ) (u t : ℕ) → is_among us t ≡ false → is_among (filter (λ y. not (y == u)) us) t ≡ false
left_out [] u t e = refl
left_out (x ∷ us) u t e =
    let p = or_parts (x == t) (is_among us t) e in
    let ih : is_among (filter (λ y. not (y == u)) us) t ≡ false = left_out us u t p.1 in
    by_test (λ b. is_among (cond (not b) (x ∷ filter (λ y. not (y == u)) us) (filter (λ y. not (y == u)) us)) t ≡ false)
    (x == u) (λ _. ih) (λ _. or_from (x == t) (is_among (filter (λ y. not (y == u)) us) t) p.0 ih)

-- who isn't dying isn't dying after a line by which its call isn't over
still_apart : (t : ℕ) (k : Line) (us : List ℕ) → is_over t k ≡ false → is_among us t ≡ false
    → is_among (dying_after k us) t ≡ false
still_apart t (line.Dying u) us o a = or_from (u == t) (is_among us t) o a
still_apart t (line.End u) us o a = left_out us u t a
still_apart t _ us o a = a

-- the lines still to come before a step are those after it, and the line that it shows
lines_before : (Step : PlainConfiguration → Label → PlainConfiguration → Type 0) (lines : List Line) (s : Counted) (x : Label)
    (v : Counted) → GoesKnown Step lines s x v → drop s.count lines ≡ lines_after x (drop v.count lines)
lines_before Step lines s (Shown k) v g = g.next k refl
lines_before Step lines s (Moves u) v g = ap (λ k. drop k lines) (sym g.count)
lines_before Step lines s (Ends u) v g = ap (λ k. drop k lines) (sym g.count)

-- each call may be answered so if each thread passes the test
kept_each : (rest : List Line) (w : World) → ((u : ℕ) → is_kept rest w u ≡ true) → KeepsTo rest w
kept_each rest w h u q p a come known =
    (λ i. is_call_kept (sym come i) (thread_at w u).timer.expired (sym known i)) ∙ h u

-- THE STEPS OF OTHERS

-- whether a step is a move of t
is_move_of : (t : ℕ) (x : Label) → (x ≡ Moves t) ⊎ (x ≢ Moves t)
is_move_of t (Shown k) = inr (λ e. cc)
is_move_of t (Ends u) = inr (λ e. cc)
is_move_of t (Moves u) = by_thread (cases_eq u t)
  where
    by_thread : (u ≡ t) ⊎ (u ≢ t) → (Moves u ≡ Moves t) ⊎ (Moves u ≢ Moves t)
    by_thread (inl e) = inl (ap (λ k. Moves k) e)
    by_thread (inr d) = inr (λ e. d (let same : Moves u ≡ Moves t = e in cc))

-- t's trylock of m is open in s, and has had no effect yet. It isn't among the waiters, and isn't dying
module _ (l : Bounds) (t m : ℕ) (s : PlainConfiguration) (call : IsCalling s.world t (TryLock m))
    (out : is_queued s.world t ≡ false) (spared : is_among s.dying t ≡ false) where
  -- what t has there
  abbrev timer : Timer
  timer = (thread_at s.world t).timer

  abbrev memory : Memory
  memory = (thread_at s.world t).memory

  -- a state of the machine, or of the search, in which t has failed
  abbrev later : World → World
  later v = failed_in t m s.world v

  abbrev ahead : PlainConfiguration → PlainConfiguration
  ahead n = failed t m s.world n

  calm : is_calm (call_of s.world t) ≡ true
  calm = ap is_calm call

  -- another thread is the same
  other_at : (v : World) (u : ℕ) → u ≢ t → thread_at (later v) u ≡ thread_at v u
  other_at v u d = put_other t (failed_call m) timer memory refl v u d

  living_at : (u : ℕ) → (thread_at (later s.world) u).living ≡ (thread_at s.world u).living
  living_at u = put_living t (failed_call m) timer memory refl s.world u

  -- who begins a call, and whose call is answered, isn't t
  begins_not : (u : ℕ) (q : Request) → IsAllowed s.world (event.Begin u q) → u ≢ t
  begins_not u q a same =
      let none : call_of s.world u ≡ None = (begin_allowed s.world u q a).2 in
      let some : call_of s.world u ≡ Some (record { request = TryLock m; progress = Fresh }) =
      ap (call_of s.world) same ∙ call in
      cc

  answered_not : (u a : ℕ) (v : World) → Answers u a s.world v → u ≢ t
  answered_not u a v x same =
      let other : Fresh ≡ Has x.result = same_progress call (ap (call_of s.world) (sym same) ∙ x.call) in
      cc

  -- an entry that a line shows, by which t's call isn't over
  beside_entry : (e : Entry) (k : Line) → line_of e ≡ Some k → is_over t k ≡ false → {v : World}
      → Enters l s.world e v → Alongside t (failed_call m) timer memory (λ x y. Enters l x e y) s.world v
  beside_entry (entry.Thread n p) k of o x =
      beside_thread l t (failed_call m) timer memory refl s.world out n p
      (caller_is_added s.world t (TryLock m) Fresh call) x
  beside_entry (entry.Mutex n i r) k of o x =
      beside_mutex l t (failed_call m) timer memory refl s.world out n i r x
  beside_entry (entry.Cond d n) k of o x =
      beside_variable l t (failed_call m) timer memory refl s.world out d n x
  beside_entry (entry.Step (event.Begin u q) seen.Begun) k of o {v} x =
      let d : u ≢ t = begins_not u q (begin_is l u q s.world v x).0 in
      let f = beside_begin l t (failed_call m) timer memory refl s.world calm out u q d x in
      record { step = f.step; remains = remains_from_stays t s.world v f.stays }
  beside_entry (entry.Step (event.Go u) (seen.Answered a)) k of o {v} x =
      let d : u ≢ t = answered_not u a v (answer_is l u a s.world v x) in
      let f = beside_answer l t (failed_call m) timer memory refl s.world calm out u a d x in
      record { step = f.step; remains = remains_from_stays t s.world v f.stays }
  beside_entry (entry.Step (event.End u) seen.Ended) k of o {v} x =
      let is : line.End u ≡ k = (let here : Some (line.End u) ≡ Some k = of in cc) in
      let d : u ≢ t = (λ same. true≢false (sym (eq-eqb u t same) ∙ ap (is_over t) is ∙ o)) in
      let f = beside_end t (failed_call m) timer memory refl s.world out u d l x in
      record { step = f.step; remains = remains_from_stays t s.world v f.stays }
  beside_entry (entry.Step (event.Tick n) seen.Ticked) k of o {v} x =
      let f = beside_tick l t (failed_call m) timer memory refl s.world calm out n x in
      record { step = f.step; remains = remains_from_stays t s.world v f.stays }
  beside_entry _ k of o x = absurd (cc)

  -- what a line tells of the state
  not_resting : rests s.world t ≡ false
  not_resting = ap (λ (o : Option Call). if sleeps o then true else list_any (λ p. p.0 == t) s.world.waiters) call ∙ out

  beside_look : (k : Line) → IsSeen k s.world → IsSeen k (later s.world)
  beside_look k (sees_rest u is lives rest) =
      let d : u ≢ t = (λ same. true≢false (sym rest ∙ ap (rests s.world) same ∙ not_resting)) in
      sees_rest u is (living_at u ∙ lives)
      (ap (λ (y : Thread). if sleeps y.call then true else list_any (λ p. p.0 == u) s.world.waiters)
      (other_at s.world u d) ∙ rest)
  beside_look k (sees_prio u p is lives same) =
      sees_prio u p is (living_at u ∙ lives) (put_effective t (failed_call m) timer memory refl s.world u ∙ same)
  beside_look k (sees_dying u is lives) = sees_dying u is (living_at u ∙ lives)

  -- WHAT IS NEEDED

  no_use : (c : ℕ) → will_use c (call_of s.world t) ≡ false
  no_use c = ap (will_use c) call

  same_use : (c n : ℕ) → will_use c (call_of (later s.world) n) ≡ will_use c (call_of s.world n)
  same_use c n = by_thread (cases_eq n t)
    where
      by_thread : (n ≡ t) ⊎ (n ≢ t) → will_use c (call_of (later s.world) n) ≡ will_use c (call_of s.world n)
      by_thread (inl e) =
          subst (λ j. will_use c (call_of (later s.world) j) ≡ will_use c (call_of s.world j)) (sym e)
          (at_place (λ y. will_use c y.call ≡ false) s.world.threads t
          (recalled t (failed_call m) timer memory (thread_at s.world t)) refl (no_use c)
          ∙ sym (no_use c))
      by_thread (inr d) = ap (λ (y : Thread). will_use c y.call) (other_at s.world n d)

  same_uses : (c n : ℕ) → used_below (later s.world) c n ≡ used_below s.world c n
  same_uses c zero = refl
  same_uses c (suc n) =
      let ih = same_uses c n in
      λ j. if same_use c n j then true else ih j

  used_soon : (c : ℕ) → is_used_soon (later s.world) c ≡ is_used_soon s.world c
  used_soon c =
      ap (used_below (later s.world) c) (put_length t (failed_call m) timer memory refl s.world)
      ∙ same_uses c (length s.world.threads)

  same_asked : (u : ℕ) → u ≢ t → is_asked (later s.world) u ≡ is_asked s.world u
  same_asked u d =
      ap (λ (y : Thread).
      if is_reached y.timer.deadline s.world.time then true else is_used_soon (later s.world) (variable_of_call y.call))
      (other_at s.world u d)
      ∙ ap (λ (b : Bool). if is_reached (thread_at s.world u).timer.deadline s.world.time then true else b)
      (used_soon (variable_of_call (call_of s.world u)))

  same_needed : (all : Bool) (u : ℕ) → u ≢ t → (v : PlainConfiguration)
      → is_needed all (ahead s) (Moves u) (ahead v) ≡ is_needed all s (Moves u) v
  same_needed all u d v = λ j.
      if awaits_note (other_at s.world u d j).call then same_asked u d j else is_taken all (Moves u) v

  -- IF IT HAS FAILED

  still_kept : (rest : List Line) (v : World) → known_answer t rest ≡ Some EBUSY → KeepsTo rest v
      → KeepsTo rest (later v)
  still_kept rest v known k = kept_each rest (later v) (λ u. by_thread u (cases_eq u t))
    where
      by_thread : (u : ℕ) → (u ≡ t) ⊎ (u ≢ t) → is_kept rest (later v) u ≡ true
      by_thread u (inl e) =
          subst (λ j. is_kept rest (later v) j ≡ true) (sym e)
          (at_place (λ y. is_call_kept y.call y.timer.expired (known_answer t rest) ≡ true) v.threads t
          (recalled t (failed_call m) timer memory (thread_at v t))
          (ap (is_call_kept (failed_call m) timer.expired) known) (one_kept rest v k t))
      by_thread u (inr d) =
          ap (λ (y : Thread). is_call_kept y.call y.timer.expired (known_answer u rest)) (other_at v u d)
          ∙ one_kept rest v k u

  -- a step to v is possible if t has failed, and t is as before. These lines are still to come after it
  record GoesBeside (all : Bool) (x : Label) (rest : List Line) (v : PlainConfiguration) : Type 0 where
    step : Needs l all (ahead s) x (ahead v)
    remains : Remains t s.world v.world
    apart : is_among v.dying t ≡ false
    known : known_answer t rest ≡ Some EBUSY

  module _ (all : Bool) (x : Label) (before rest : List Line) (known : known_answer t before ≡ Some EBUSY)
      (split : before ≡ lines_after x rest) where
    -- what is known after a step of this label
    known_after : (y : Label) → x ≡ y → known_answer t (lines_after y rest) ≡ Some EBUSY
    known_after y is = sym (ap (known_answer t) (split ∙ ap (λ (z : Label). lines_after z rest) is)) ∙ known

    -- a line that isn't t's answer doesn't say that its call is over
    goes_on : (k : Line) → x ≡ Shown k → (k ≡ line.Answer t EBUSY → ⊥)
        → (is_over t k ≡ false) × (known_answer t rest ≡ Some EBUSY)
    goes_on k is not_its = by_case (known_cases t EBUSY k rest (known_after (Shown k) is))
      where
        by_case : (k ≡ line.Answer t EBUSY) ⊎ ((is_over t k ≡ false) × (known_answer t rest ≡ Some EBUSY))
            → (is_over t k ≡ false) × (known_answer t rest ≡ Some EBUSY)
        by_case (inl e) = absurd (not_its e)
        by_case (inr p) = p

    beside_step : (v : PlainConfiguration) → x ≢ Moves t → is_needed all s x v ≡ true → PlainAdvances l s x v
        → GoesBeside all x rest v
    beside_step v others needed (moves u w is y e) =
        let d : u ≢ t = (λ same. others (is ∙ ap (λ k. Moves k) same)) in
        let f = beside_move t (failed_call m) timer memory refl s.world calm out u d y in
        let next : PlainConfiguration = record s { world = w } in
        subst (λ (n : PlainConfiguration). is_needed all s x n ≡ true → GoesBeside all x rest n) (sym e) (λ need. record {
          step = record {
            advances = moves u (later w) is f.step refl;
            needed = subst (λ (z : Label). is_needed all (ahead s) z (ahead next) ≡ true) (sym is)
                (same_needed all u d next ∙ subst (λ (z : Label). is_needed all s z next ≡ true) is need);
          };
          remains = remains_from_stays t s.world w f.stays;
          apart = spared;
          known = known_after (Moves u) is;
        }) needed
    beside_step v others needed (ends u w is among y e) =
        let d : u ≢ t = (λ same. true≢false (sym among ∙ ap (is_among s.dying) same ∙ spared)) in
        let f = beside_end t (failed_call m) timer memory refl s.world out u d l y in
        let next : PlainConfiguration = record s { world = w } in
        subst (λ (n : PlainConfiguration). GoesBeside all x rest n) (sym e) (record {
          step = record {
            advances = ends u (later w) is among f.step refl;
            needed = ap (λ (z : Label). is_needed all (ahead s) z (ahead next)) is;
          };
          remains = remains_from_stays t s.world w f.stays;
          apart = spared;
          known = known_after (Ends u) is;
        })
    beside_step v others needed (enters k e w is of look y same) =
        let o =
        goes_on k is
        (λ it. answered_not t EBUSY w (answer-from_entry t l s.world w e EBUSY (of ∙ ap Some it) y) refl) in
        let f = beside_entry e k of o.0 y in
        let next : PlainConfiguration = record { world = w; dying = dying_after k s.dying } in
        subst (λ (n : PlainConfiguration). GoesBeside all x rest n) (sym same) (record {
          step = record {
            advances = enters k e (later w) is of look f.step refl;
            needed = ap (λ (z : Label). is_needed all (ahead s) z (ahead next)) is;
          };
          remains = f.remains;
          apart = still_apart t k s.dying o.0 spared;
          known = o.1;
        })
    beside_step v others needed (sees k is look y same) =
        let o = goes_on k is (λ it. no_look t EBUSY k s.world it y) in
        let next : PlainConfiguration = record s { dying = dying_after k s.dying } in
        subst (λ (n : PlainConfiguration). GoesBeside all x rest n) (sym same) (record {
          step = record {
            advances = sees k is look (beside_look k y) refl;
            needed = ap (λ (z : Label). is_needed all (ahead s) z (ahead next)) is;
          };
          remains = record { same = refl; unqueued = out };
          apart = still_apart t k s.dying o.0 spared;
          known = o.1;
        })
    beside_step v others needed (has_ended u is among dead same) =
        let o = goes_on (line.End u) is (λ it. (let here : line.End u ≡ line.Answer t EBUSY = it in cc)) in
        let next : PlainConfiguration = record s { dying = dying_after (line.End u) s.dying } in
        subst (λ (n : PlainConfiguration). GoesBeside all x rest n) (sym same) (record {
          step = record {
            advances = has_ended u is among (living_at u ∙ dead) refl;
            needed = ap (λ (z : Label). is_needed all (ahead s) z (ahead next)) is;
          };
          remains = record { same = refl; unqueued = out };
          apart = still_apart t (line.End u) s.dying o.0 spared;
          known = o.1;
        })

-- ALL STEPS

pub followed : (l : Bounds) (all : Bool) (lines : List Line) (t : ℕ) (s n v : Counted) (x : Label) → n.count ≡ s.count
    → HasFailed (drop s.count lines) t s.state n.state → GoesKnown (Needs l all) lines s x v
    → IsFollowed l all lines t n x v
followed l all lines t s n v x count h g = by_label (is_move_of t x)
  where
    by_label : (x ≡ Moves t) ⊎ (x ≢ Moves t) → IsFollowed l all lines t n x v
    by_label (inl is) =
        own (ap hides is)
        (own_move l all lines t s n v count h (subst (λ (y : Label). GoesKnown (Needs l all) lines s y v) is g))
    by_label (inr others) =
        let w : World = s.state.world in
        let f =
        beside_step l t h.mutex s.state h.call h.unqueued h.apart all x (drop s.count lines) (drop v.count lines)
        h.known (lines_before (Needs l all) lines s x v g) v.state others g.step.needed g.step.advances in
        let there : n.state ≡ failed t h.mutex w s.state =
        h.is ∙ ap (λ (z : World). record s.state { world = z }) (failed_is t h.mutex w h.call) in
        let call : IsCalling v.state.world t (TryLock h.mutex) =
        ap (λ (y : Thread). y.call) f.remains.same ∙ h.call in
        let same_world : with_progress t (Has EBUSY) v.state.world ≡ failed_in t h.mutex w v.state.world =
        failed_is t h.mutex v.state.world call ∙ failed_later t h.mutex w v.state.world f.remains in
        beside (record { state = failed t h.mutex w v.state; count = v.count })
        (record {
          step = subst (λ (y : PlainConfiguration). Needs l all y x (failed t h.mutex w v.state)) (sym there) f.step;
          count = g.count ∙ ap (count_after x) (sym count);
          next = λ k e. ap (λ i. drop i lines) count ∙ g.next k e;
          keeps = still_kept l t h.mutex s.state h.call h.unqueued h.apart (drop v.count lines) v.state.world f.known
              g.keeps;
        })
        refl
        (record {
          mutex = h.mutex;
          call = call;
          unqueued = f.remains.unqueued;
          apart = f.apart;
          known = f.known;
          is = ap (λ (z : World). record v.state { world = z }) (sym same_world);
        })
