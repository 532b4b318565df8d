-- A state that a run reaches beside its lines: what they tell of each other.
use Rattle.std.proofs.Common.{ℕ, ◌≡◌, ◌≢◌, ◌<◌, ◌∙◌, Bool, true, List, [], ◌∷◌, length, set, map, Option, Some, None, refl, sym, ap, subst, arith, if◌then◌else◌}
use Rattle.std.proofs.lemmas.Bool.{eq-eqb}
use Rattle.std.proofs.lemmas.List.{map-set, length-map, length-set}
use Rattle.pif_types.specs.Bounds.{Bounds}
use Rattle.pif_types.specs.declared.requests.Request.{Request}
use Rattle.pif_types.specs.declared.requests.Request.TheVariants.{SetPrio}
use Rattle.pif_model.specs.declared.events.Event.TheVariants.{Go}
use Rattle.pif_model.specs.declared.events.Seen.{Seen}
use Rattle.pif_model.specs.declared.events.Seen.TheVariants.{Went, Waits}
use Rattle.pif_model.specs.declared.events.Entry.{Entry}
use Rattle.pif_model.specs.declared.events.Entry.TheVariants.{Step as Happened}
use Rattle.pif_model.specs.History.{open_call, hold_count}
use Rattle.pif_model.specs.Posix.{World, Thread, Mutex, Call, Progress, nobody, thread_at, mutex_at, is_living, with_thread, with_progress, with_base, at_progress, is_use, variable_of, is_newly_blocked, after_unblocking, after_use, used, HasCome, Lives, IsRun}
use Rattle.pif_model.specs.Posix.IsRun.{next}
use Rattle.pif_model.specs.World.Progress.{Fresh, Has, Used}
use Rattle.pif_model_lemmas.proofs.Numbers.{within}
use Rattle.pif_model_lemmas.proofs.Places.{mapped_at, kept_at}
use Rattle.pif_model_lemmas.proofs.Waiting.{by_test}
use Rattle.pif_model_simulation.proofs.runs.Worlds.{call_of, owner_of}
use Rattle.pif_model_simulation.proofs.runs.Holding.{request_of}
use Rattle.pif_model_simulation.proofs.runs.AllHolding.{IsHeld, times_held, living_is_thread, caller_lives}
use Rattle.pif_model_simulation.proofs.runs.Holders.{IsHeld-IsRun}
use Rattle.pif_posix_steps.specs.Once as once
use Rattle.pif_posix_steps.specs.Once.{MovesOnce}
use Rattle.pif_posix_steps.proofs.Singles.{step-from_move}
use Rattle.pif_history_model.specs.declared.lines.Line.{Line}
use Rattle.pif_history_model.specs.Lines.{is_among, dying_by}
use Rattle.pif_history_model.specs.Plain.{PlainConfiguration}
use Rattle.pif_history_model.proofs.Completeness.{at}
use Rattle.pif_history_model.proofs.Leading.{call_used}
use Rattle.pif_parts_model.specs.Quiet.{call_by, holds_by, changed_by, IsIdle}
use Rattle.pif_parts_model.specs.Resting.{world_by}
use Rattle.pif_parts_model.proofs.Ledgers.{Mark, Tag, Ledger, call_mark, tag_of, ledger_of}
use Rattle.pif_parts_model.proofs.Ledgers.Mark.{NoMark, HasSet, HasUsed}
use Rattle.pif_parts_model.proofs.Sound.{IsSound, unblocked_mark}
use Rattle.pif_parts_model.proofs.Moving.{Changes, Moved, moved}
use Rattle.pif_parts_model.proofs.Moving.Changes.{keeps, sets, uses}
use Rattle.pif_parts_model.proofs.Agreeing.{Agrees, tag_at, with_mark, with_base_tag, with_one_use, agrees_set, agrees_use}
use Rattle.pif_parts_model.proofs.Reading.{IsAlone, set_changes, used_mark, fresh_mark, no_mark_set}

-- the state of a run that has shown these lines, which are orderly
pub record Accounted (l : Bounds) (lines : List Line) (s : PlainConfiguration) : Type 0 where
  -- the run, which has opened and closed the calls that the lines tell of
  pub history : List Entry
  pub states : List World
  pub run : IsRun l history states s.world
  pub calls : (t : ℕ) → open_call t history ≡ call_by lines t
  pub holds : (t m : ℕ) → hold_count t m history ≡ holds_by lines t m
  -- who is dying, and is idle
  pub dying : s.dying ≡ dying_by lines
  pub ending : (t : ℕ) → is_among s.dying t ≡ true → IsIdle lines t
  -- mutexes are in order
  pub sound : IsSound s.world
  -- and the rest agrees with where the lines rest
  pub agrees : Agrees (ledger_of s.world) s.dying (world_by l lines)
  pub known : (t : ℕ) (q : Request) → call_by lines t ≡ Some q → is_use q ≡ true → variable_of q < length s.world.variables

-- LEDGERS AFTER CHANGES

-- a thread is written that has another mark
pub ledger_marked : (w : World) (t : ℕ) (y : Thread) (m : Mark) → y.base ≡ (thread_at w t).base → y.living ≡ is_living w t
    → call_mark y.call ≡ m → ledger_of (with_thread t y w) ≡ with_mark t m (ledger_of w)
ledger_marked w t y m base living mark =
    let before : tag_at (ledger_of w) t ≡ tag_of (thread_at w t) = mapped_at tag_of w.threads t nobody in
    let tag : ◌≡◌ {A = Tag} (tag_of y) (record (tag_at (ledger_of w) t) { mark = m }) =
    (λ j. record {
      base = (base ∙ sym (ap (λ (z : Tag). z.base) before)) j;
      living = (living ∙ sym (ap (λ (z : Tag). z.living) before)) j;
      mark = mark j;
    }) in
    ap (λ (xs : List Tag). record (ledger_of w) { threads = xs })
    (map-set tag_of w.threads t y ∙ ap (λ (z : Tag). set (map tag_of w.threads) t z) tag)

ledger_based : (w : World) (u p : ℕ) → ledger_of (with_base u p w) ≡ with_base_tag u p (ledger_of w)
ledger_based w u p =
    let before : tag_at (ledger_of w) u ≡ tag_of (thread_at w u) = mapped_at tag_of w.threads u nobody in
    let y : Thread = record (thread_at w u) { base = p } in
    let tag : ◌≡◌ {A = Tag} (tag_of y) (record (tag_at (ledger_of w) u) { base = p }) =
    (λ j. record {
      base = p;
      living = sym (ap (λ (z : Tag). z.living) before) j;
      mark = sym (ap (λ (z : Tag). z.mark) before) j;
    }) in
    ap (λ (xs : List Tag). record (ledger_of w) { threads = xs })
    (map-set tag_of w.threads u y ∙ ap (λ (z : Tag). set (map tag_of w.threads) u z) tag)

used_tag : (c : ℕ) (y : Thread) → tag_of (after_use c y) ≡ tag_of y
used_tag c y =
    by_test (λ b. tag_of (if b then record y { call = after_unblocking y.call } else y) ≡ tag_of y) (is_newly_blocked c y.call)
    (λ _. ap (λ (m : Mark). record (tag_of y) { mark = m }) (unblocked_mark y.call)) (λ _. refl)

used_tags : (c : ℕ) (xs : List Thread) → map tag_of (map (after_use c) xs) ≡ map tag_of xs
used_tags c [] = refl
used_tags c (y ∷ ys) = λ j. used_tag c y j ∷ used_tags c ys j

ledger_used : (c : ℕ) (w : World) → ledger_of (used c w) ≡ with_one_use c (ledger_of w)
ledger_used c w =
    ap (λ (xs : List Tag). record (with_one_use c (ledger_of w)) { threads = xs }) (used_tags c w.threads)

-- HIDDEN STEPS

hidden_open : (t : ℕ) (k : Seen) → once.is_hidden (Happened (Go t) k) ≡ true → (u : ℕ) (h : List Entry)
    → open_call u (Happened (Go t) k ∷ h) ≡ open_call u h
hidden_open t Went e u h = refl
hidden_open t Waits e u h = refl
hidden_open t _ e u h = absurd (cc)

hidden_held : (t : ℕ) (k : Seen) → once.is_hidden (Happened (Go t) k) ≡ true → (u m : ℕ) (h : List Entry)
    → hold_count u m (Happened (Go t) k ∷ h) ≡ hold_count u m h
hidden_held t Went e u m h = refl
hidden_held t Waits e u m h = refl
hidden_held t _ e u m h = absurd (cc)

none_open : (o : Option Call) → request_of o ≡ None → o ≡ None
none_open None e = refl
none_open (Some c) e = absurd (cc)

times_own : (t : ℕ) (y : Mutex) → y.owner ≡ t → times_held true t y ≡ y.count
times_own t y e = rw (eq-eqb y.owner t e) refl

module _ (l : Bounds) (lines : List Line) (w : World) (us : List ℕ) (x : Accounted l lines (at w us)) where
  -- THREADS

  pub held : IsHeld (λ t. open_call t x.history) (λ t m. hold_count t m x.history) w
  held = IsHeld-IsRun l x.run

  call_lined : (t : ℕ) → call_by lines t ≡ request_of (call_of w t)
  call_lined t = sym (x.calls t) ∙ (held.each t).request

  pub called : (t : ℕ) (q : Request) (p : Progress) → HasCome w t q p → call_by lines t ≡ Some q
  called t q p c = call_lined t ∙ ap request_of c

  pub idle_call : (t : ℕ) → IsIdle lines t → call_of w t ≡ None
  idle_call t i = none_open (call_of w t) (sym (call_lined t) ∙ i.closed)

  -- who is idle, and lives, owns nothing
  pub owns_none : (t : ℕ) → IsIdle lines t → is_living w t ≡ true → (m : ℕ) → owner_of w m ≢ t
  owns_none t i lives m own =
      let no : call_of w t ≡ None = idle_call t i in
      let count : hold_count t m x.history ≡ times_held (is_living w t) t (mutex_at w m) =
      (held.each t).elsewhere m (λ c e. absurd (cc)) in
      let zero : (mutex_at w m).count ≡ 0 =
      sym (times_own t (mutex_at w m) own) ∙ ap (λ (b : Bool). times_held b t (mutex_at w m)) (sym lives) ∙ sym count
      ∙ x.holds t m ∙ i.free m in
      omega (arith, (x.sound.whole m).held, zero)

  -- LEDGERS

  pub room : (t : ℕ) → is_living w t ≡ true → t < length (ledger_of w).threads
  room t lives =
      omega (arith, (within t (length w.threads) (living_is_thread w t held.orderly lives)).1, length-map w.threads tag_of)

  pub mark_is : (t : ℕ) → (tag_at (ledger_of w) t).mark ≡ call_mark (call_of w t)
  mark_is t = ap (λ (z : Tag). z.mark) (mapped_at tag_of w.threads t nobody)

  -- who has set a priority has a call open that does
  pub setter : (t u n : ℕ) → (tag_at (ledger_of w) t).mark ≡ HasSet u n → changed_by (call_by lines t) ≡ Some u
  setter t u n e = by_call (call_of w t) refl
    where
      by_call : (o : Option Call) → call_of w t ≡ o → changed_by (call_by lines t) ≡ Some u
      by_call None k = absurd (no_mark_set u n (sym (mark_is t ∙ ap call_mark k) ∙ e))
      by_call (Some c) k =
          ap changed_by (called t c.request c.progress k)
          ∙ set_changes c.request c.progress u n (sym (mark_is t ∙ ap call_mark k) ∙ e)

  -- MOVES

  module _ (alone : IsAlone lines) (t : ℕ) where
    after_set : (u p : ℕ) → HasCome w t (SetPrio u p) Fresh → Lives w u
        → Agrees (ledger_of (with_progress t (Has 0) (with_base u p w))) us (world_by l lines)
    after_set u p come alive =
        subst (λ (g : Ledger). Agrees g us (world_by l lines)) (sym same)
        (agrees_set (ledger_of w) us (world_by l lines) x.agrees t u p
        (room t (caller_lives held t (record { request = SetPrio u p; progress = Fresh }) come)) (room u alive)
        unmarked others)
      where
        unmarked : (tag_at (ledger_of w) t).mark ≡ NoMark
        unmarked = mark_is t ∙ ap call_mark come

        others : (v n : ℕ) → (tag_at (ledger_of w) v).mark ≡ HasSet u n → ⊥
        others v n e =
            let is : t ≡ v = alone t v u (ap changed_by (called t (SetPrio u p) Fresh come)) (setter v u n e) in
            no_mark_set u n (sym (ap (λ i. (tag_at (ledger_of w) i).mark) (sym is) ∙ unmarked) ∙ e)

        based : Thread
        based = record (thread_at w u) { base = p }

        same : ledger_of (with_progress t (Has 0) (with_base u p w)) ≡ with_mark t (HasSet u p) (with_base_tag u p (ledger_of w))
        same =
            ledger_marked (with_base u p w) t _ (HasSet u p) refl refl
            (ap (λ (o : Option Call). call_mark (at_progress (Has 0) o))
            (kept_at (λ (z : Thread). z.call) w.threads u based nobody refl t ∙ come))
            ∙ ap (λ (g : Ledger). with_mark t (HasSet u p) g) (ledger_based w u p)

    after_used : (q : Request) → HasCome w t q Fresh → is_use q ≡ true
        → Agrees (ledger_of (with_progress t Used (used (variable_of q) w))) us (world_by l lines)
    after_used q come is =
        subst (λ (g : Ledger). Agrees g us (world_by l lines)) (sym same)
        (agrees_use (ledger_of w) us (world_by l lines) x.agrees t (variable_of q)
        (room t (caller_lives held t (record { request = q; progress = Fresh }) come))
        (x.known t q (called t q Fresh come) is) (mark_is t ∙ ap call_mark come ∙ fresh_mark q))
      where
        same : ledger_of (with_progress t Used (used (variable_of q) w))
            ≡ with_mark t (HasUsed (variable_of q)) (with_one_use (variable_of q) (ledger_of w))
        same =
            ledger_marked (used (variable_of q) w) t _ (HasUsed (variable_of q)) refl refl
            (ap (λ (o : Option Call). call_mark (at_progress Used o))
            (call_used (variable_of q) w t (ap (is_newly_blocked (variable_of q)) come) ∙ come) ∙ used_mark q is)
            ∙ ap (λ (g : Ledger). with_mark t (HasUsed (variable_of q)) g) (ledger_used (variable_of q) w)

    after_changes : {v : World} → Changes t w v → Agrees (ledger_of v) us (world_by l lines)
    after_changes (keeps e) = subst (λ (g : Ledger). Agrees g us (world_by l lines)) (sym e) x.agrees
    after_changes (sets u p come alive e) = rw e (after_set u p come alive)
    after_changes (uses q come is e) = rw e (after_used q come is)

    same_variables : {v : World} → Changes t w v → length v.variables ≡ length w.variables
    same_variables (keeps e) = ap (λ (g : Ledger). length g.variables) e
    same_variables (sets u p come alive e) = ap (λ (z : World). length z.variables) e
    same_variables (uses q come is e) = ap (λ (z : World). length z.variables) e ∙ length-set w.variables (variable_of q) _

    -- a move
    pub moves_on : (v : World) → MovesOnce t w v → Accounted l lines (at v us)
    moves_on v m =
        let go = step-from_move l x.history x.states w x.run t v m in
        let done : Moved t w v = moved held x.sound t m in
        record {
          history = Happened (Go t) go.seen ∷ x.history;
          states = w ∷ x.states;
          run = next x.run go.step;
          calls = λ u. hidden_open t go.seen go.hidden u x.history ∙ x.calls u;
          holds = λ u i. hidden_held t go.seen go.hidden u i x.history ∙ x.holds u i;
          dying = x.dying;
          ending = x.ending;
          sound = done.sound;
          agrees = after_changes done.changes;
          known = λ u q e is. omega (arith, same_variables done.changes, x.known u q e is);
        }
