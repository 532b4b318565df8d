-- A signal or a broadcast chooses whom it wakes, by the kernel call cmp_requeue_pi: the step is an entry of the POSIX
-- machine and keeps the invariant.
use Rattle.std.proofs.Common.{◌≡◌, ◌≢◌, ◌⊎◌, inl, inr, ℕ, suc, ◌+◌, ◌<◌, ◌≤◌, Bool, true, false, ◌==◌, ◌||◌, min, List, [], ◌∷◌, length, Result, Ok, Err, refl, sym, ap, ◌∙◌, subst, arith, if◌then◌else◌, eq-eqb, ne_eqb}
use Rattle.std.specs.List.{list_any}
use Rattle.std.proofs.lemmas.Bool.{cases_Bool, true≢false}
use Rattle.pif_types.specs.Bounds.{Bounds}
use Rattle.pif_types.specs.declared.errors.Errno.{Errno}
use Rattle.pif_types.specs.declared.errors.Errno.TheVariants.{Again}
use Rattle.pif_types.specs.declared.requests.Request.{Request}
use Rattle.pif_types.specs.declared.requests.Request.TheVariants.{Signal, Broadcast}
use Rattle.pif_model.specs.declared.lines.Line.TheVariants.{Idle}
use Rattle.pif_model.specs.declared.lines.Place.TheVariants.{Wake}
use Rattle.pif_model.specs.declared.lines.WakeStep.TheVariants.{Requeue, ReadAgain}
use Rattle.pif_model.specs.declared.lines.Status.TheVariants.{Parked}
use Rattle.pif_model.specs.Graph.{has_waiter}
use Rattle.pif_model.specs.Word.{word_at, has_word, has_cond_word}
use Rattle.pif_model.specs.Posix.{World, Effects, Chooses, is_blocked_on, is_call_blocked, is_still_blocked, at_progress, with_progress, all_unblocked, is_use, variable_of}
use Rattle.pif_model.specs.World.Progress.{Has}
use Rattle.pif_model.specs.Posix.Chooses.{one, no_one, all}
use Rattle.pif_model.specs.Posix.Effect.{choose}
use Rattle.pif_model.specs.Posix.Effects.{none, then as first}
use Rattle.pif_model.specs.Posix.Step.{answered}
use Rattle.pif_model.specs.PiKernel.{Parking, System, is_ready, is_parked, is_living, state_at, has_parked, parked_count, fits_state, top_parked, after_taking, after_takings, requeue_answer, after_requeue}
use Rattle.pif_model.specs.Table.{Table, cell_at, has_thread, has_mutex, has_cond, bound_to, uses_of, status_at, line_at, with_line, with_kernel}
use Rattle.pif_model.specs.Lines.{Outcome, answers, more_in, use_by, use_requeue}
use Rattle.pif_model.specs.Projection.{HistoryVariables, Agrees, chooses_on, world_of}
use Rattle.pif_model.specs.Soundness.{CellIsSound, IsSound}
use Rattle.pif_model.specs.declared.events.Event.TheVariants.{Go}
use Rattle.pif_model.specs.declared.events.Seen.TheVariants.{Answered}
use Rattle.pif_model.specs.declared.events.Entry.TheVariants.{Step as Happened}
use Rattle.pif_model.specs.Posix.Moves.{acts}
use Rattle.pif_model_lemmas.proofs.Numbers.{above_0, below, from_within}
use Rattle.pif_model_lemmas.proofs.Waiting.{by_test}
use Rattle.pif_model_lemmas.proofs.kernel.Statuses.{ready-unparked}
use Rattle.pif_model_lemmas.proofs.kernel.Taken.{takings-none, takings-more, fits-from_test}
use Rattle.pif_model_lemmas.proofs.kernel.AllTaken.{parked-few, takings-all}
use Rattle.pif_model_simulation.proofs.Shown.{call_progressed}
use Rattle.pif_model_simulation.proofs.Agreement.{Frames, framed}
use Rattle.pif_model_simulation.proofs.Steps.{GoKeeps, Going, rests_ready, going_allowed, going_called, going_below, going_undue, going_told, going_ready}
use Rattle.pif_model_simulation.proofs.conditions.UseLines.{use_known, use_goes, closed_sound, closed_frames, closed_shown}
use Rattle.pif_model_simulation.proofs.conditions.Unblocking.{Owed, one_of, recalled-all_unblocked, owed_effects, owed_past}
use Rattle.pif_model_simulation.proofs.conditions.Takings.{system_of, table_with, TakesAll, takes_none, takes_more, takings, takings-zero}
use Rattle.pif_model_simulation.proofs.conditions.Taking.{takes_one}
use Rattle.pif_model_simulation.proofs.conditions.Choosing.{found_parked, parked_blocked, some_parked, top_greatest}

-- if all that are parked on c are to get m, none is to get another
no_other : (ps : List Parking) (c m : ℕ)
    → ((j : ℕ) → list_any (λ (p : Parking). if p.cond == c then p.target == j else false) ps ≡ true → m ≡ j)
    → list_any (λ (p : Parking). if p.cond == c then (if p.target == m then false else true) else false) ps ≡ false
no_other [] c m h = refl
no_other (p ∷ ps) c m h = ap (λ b. b || list_any (λ (p : Parking).
    if p.cond == c then (if p.target == m then false else true) else false) ps) here
    ∙ no_other ps c m (λ j e. h j (by_test (λ b. (b || list_any (λ (p : Parking).
    if p.cond == c then p.target == j else false) ps) ≡ true) (if p.cond == c then p.target == j else false)
    (λ _. refl) (λ _. e)))
  where
    here : (if p.cond == c then (if p.target == m then false else true) else false) ≡ false
    here = by_test (λ b. (p.cond == c) ≡ b → (if b then (if p.target == m then false else true) else false) ≡ false)
        (p.cond == c)
        (λ e _. ap (λ b. if b then false else true) (eq-eqb p.target m (sym (h p.target
        (rw (e, eq-eqb p.target p.target refl) refl)))))
        (λ _ _. refl) refl

-- an owner state that names the number of a word fits
fits_named : (i n : ℕ) (l : Bool) → i ≡ n → n ≢ 0
    → (if i == 0 then true else (if n == 0 then false else (if l then i == n else true))) ≡ true
fits_named i n l e z = rw (ne_eqb n 0 z, eq-eqb i n e) (either (i == 0) l)
  where
    either : (a b : Bool) → (if a then true else (if b then true else true)) ≡ true
    either true b = refl
    either false true = refl
    either false false = refl

-- word and owner state of a sound mutex fit together
sound_fits : (s : Table) (m : ℕ) → CellIsSound (has_thread s) (has_waiter s.kernel.waiters m) (cell_at s m)
    → fits_state (word_at s.words m).number (state_at s.kernel m) s.kernel ≡ true
sound_fits s m d = by_test (λ b. has_waiter s.kernel.waiters m ≡ b
    → state_at s.kernel m ≡ (if b then (word_at s.words m).number else 0)
    → fits_state (word_at s.words m).number (state_at s.kernel m) s.kernel ≡ true) (has_waiter s.kernel.waiters m)
    (λ w _ e. fits_named (state_at s.kernel m) (word_at s.words m).number
    (is_living s.kernel (word_at s.words m).number) e (λ z. true≢false (sym w ∙ d.free z)))
    (λ _ _ e. ap (λ b. if b then true else (if (word_at s.words m).number == 0 then false
    else (if is_living s.kernel (word_at s.words m).number then state_at s.kernel m == (word_at s.words m).number
    else true))) (eq-eqb (state_at s.kernel m) 0 e)) refl d.state

module _ (s : Table) (t : ℕ) (q : Request) (n : ℕ) (g : Going s t q (Wake (Requeue n))) (u : is_use q ≡ true) where
  abbrev c : ℕ
  c = variable_of q

  abbrev m : ℕ
  m = bound_to s c

  ready : is_ready (status_at s t) ≡ true
  ready = going_ready g

  known : has_cond s c ≡ true
  known = use_known s t q (Wake (Requeue n)) g u refl

  c0 : c ≢ 0
  c0 = above_0 c (length s.conds) known

  -- the mutex to which the variable is bound
  named : has_mutex s m ≡ true
  named = (g.sound.all.conds c known).bound

  -- t has used the variable
  chosen : chooses_on (line_at s t) ≡ c
  chosen = ap chooses_on g.line

  -- WAKING THESE

  module _ (us : List ℕ) (x : System) (a : TakesAll s c us x)
      (rule : (y : HistoryVariables) → Agrees s y
      → Chooses t q (world_of s y) (all_unblocked us (with_progress t (Has 0) (world_of s y)))) where
    abbrev v : Table
    v = table_with x s

    -- t is none of them
    not_one : one_of us t ≡ false
    not_one = by_test (λ b. one_of us t ≡ b → b ≡ false) (one_of us t)
        (λ e f. absurd (true≢false (sym (ap is_parked (a.parked t e)) ∙ ready-unparked (status_at s t) ready)))
        (λ _ _. refl) refl

    -- it goes on as it did
    going : Going v t q (Wake (Requeue n))
    going = record { sound = a.sound; known = a.living t ∙ g.known; line = g.line }

    ready_then : is_ready (status_at v t) ≡ true
    ready_then = ap is_ready (a.others t not_one) ∙ ready

    abbrev last : Table
    last = with_line t Idle v

    last_sound : IsSound last
    last_sound = closed_sound v t q (Wake (Requeue n)) going u refl ready_then

    last_frames : Frames v last
    last_frames = closed_frames v t q (Wake (Requeue n)) going u refl ready_then

    module _ (y : HistoryVariables) (fits : Agrees s y) where
      abbrev w : World
      w = world_of s y

      -- t is not blocked
      awake : (i : ℕ) → is_blocked_on w i t ≡ false
      awake i = ap (is_call_blocked i) (going_called g y)

      -- the choice, and then the locks that are owed
      effects : Effects t w w (with_progress t (Has 0) (world_of v y))
      effects = first (choose q (going_called g y) (rule y fits))
          (owed_effects t (subst (λ z. Owed w z (with_progress t (Has 0) (world_of v y)))
          (recalled-all_unblocked us w t (at_progress (Has 0)) not_one)
          (owed_past t (at_progress (Has 0)) awake
          (a.owes y w (λ b e. parked_blocked g.sound y b c (a.parked b e)))))
          (none refl))

    -- these are woken
    pub wakes : GoKeeps s t (answers t 0 v)
    wakes undue = record {
      sound = last_sound;
      limits = refl;
      shows = λ y f. (
        y,
        framed last_frames y (a.agrees y f),
        answered t 0 q (with_progress t (Has 0) (world_of v y)) (ap (λ i. Happened (Go t) (Answered i)) (going_told g y 0))
            (record { allowed = going_allowed g y; moves = acts (going_undue g undue y) (effects y f) })
            (call_progressed (world_of v y) t (Has 0) _ (going_below going y) (going_called going y))
            (closed_shown v t q (Wake (Requeue n)) going u refl ready_then 0 y)
            (rests_ready last_sound y t (a.living t ∙ g.known) ready_then),
      );
    }

  -- who was found blocked, and still is, is parked
  found : (y : HistoryVariables) → Agrees s y → (b : ℕ) → is_still_blocked (world_of s y) t c b ≡ true → status_at s b ≡ Parked c
  found y f b e = found_parked g.sound y f t b c chosen c0 e

  -- A SIGNAL

  signals : (i : ℕ) → q ≡ Signal i → i ≡ c
      → (has_parked s.kernel c ≡ true) ⊎ (has_parked s.kernel c ≡ false)
      → GoKeeps s t (answers t 0 (table_with (after_takings 1 c m (system_of s)) s))
  unfolding all_unblocked
  signals i e j (inl some) =
      let u = top_parked s.kernel c in
      subst (λ x. GoKeeps s t (answers t 0 (table_with x s)))
      (sym (takings-more 0 c m (system_of s) some ∙ takings-zero c m (after_taking u m (system_of s))))
      (wakes (u ∷ []) (after_taking u m (system_of s))
      (takes_more s c g.sound some [] (after_taking u m (system_of s))
      (takes_none (table_with (after_taking u m (system_of s)) s) c (takes_one s g.sound c some).sound))
      (λ y f. one c u (e ∙ ap Signal j) (parked_blocked g.sound y u c
      ((takes_more s c g.sound some [] (after_taking u m (system_of s))
      (takes_none (table_with (after_taking u m (system_of s)) s) c (takes_one s g.sound c some).sound)).parked u
      (ap (λ b. b || false) (eq-eqb u u refl))))
      (λ b k. top_greatest g.sound y b c (found y f b k)) refl))
  signals i e j (inr nobody) =
      subst (λ x. GoKeeps s t (answers t 0 (table_with x s))) (sym (takings-none 1 c m (system_of s) nobody))
      (wakes [] (system_of s) (takes_none s c g.sound)
      (λ y f. no_one c (e ∙ ap Signal j) (λ b. false_or (is_still_blocked (world_of s y) t c b)
      (λ k. true≢false (sym (some_parked g.sound b c (found y f b k)) ∙ nobody))) refl))
    where
      false_or : (b : Bool) → (b ≡ true → ⊥) → b ≡ false
      false_or true f = absurd (f refl)
      false_or false f = refl

  -- A BROADCAST

  broadcasts : (i : ℕ) → q ≡ Broadcast i → i ≡ c
      → GoKeeps s t (answers t 0 (table_with (after_takings (suc 1024) c m (system_of s)) s))
  broadcasts i e j =
      let a = takings (suc 1024) s c g.sound in
      wakes a.0 (after_takings (suc 1024) c m (system_of s)) a.1
      (λ y f. all c a.0 (e ∙ ap Broadcast j) (λ b k. parked_blocked g.sound y b c (a.1.parked b k))
      (λ b k. true_or (one_of a.0 b)
      (λ none_of. true≢false (sym (some_parked a.1.sound b c (a.1.others b none_of ∙ found y f b k)) ∙ nobody_left)))
      (refl))
    where
      true_or : (b : Bool) → (b ≡ false → ⊥) → b ≡ true
      true_or true f = refl
      true_or false f = absurd (f refl)

      nobody_left : has_parked (after_takings (suc 1024) c m (system_of s)).kernel c ≡ false
      nobody_left = takings-all (suc 1024) c m (system_of s) (above_0 m (length s.mutexes) named) few_mutexes
          g.sound.kernel
          (λ e. fits-from_test m (system_of s) (sound_fits s m (g.sound.all.mutexes m named))) few_parked
        where
          few_mutexes : m < 1025
          few_mutexes = omega (
            arith,
            below m (length s.mutexes) named,
            g.sound.all.shape.few_mutexes,
            g.sound.all.shape.within.mutexes,
          )

          few_parked : length s.kernel.parked ≤ suc 1024
          few_parked = omega (
            arith,
            parked-few s.kernel g.sound.kernel,
            g.sound.kernel.shape.few,
            g.sound.all.shape.within.threads,
            ap (λ (b : Bounds). b.threads) g.sound.all.shape.limits,
          )

  -- either
  chooses : (r : Request) → q ≡ r → is_use r ≡ true
      → GoKeeps s t (answers t 0 (table_with (after_takings (suc (more_in r)) c m (system_of s)) s))
  chooses (Signal i) e k = signals i e (ap variable_of (sym e)) (cases_Bool (has_parked s.kernel c))
  chooses (Broadcast i) e k = broadcasts i e (ap variable_of (sym e))
  chooses _ e k = absurd (true≢false (sym k))

  -- THE KERNEL CALL

  -- what it answers
  answer_is : requeue_answer c m 1 (more_in q) n s.words s.kernel ≡ (if uses_of s c == n
      then (if has_parked s.kernel c then Ok (min (parked_count s.kernel c) (more_in q + 1)) else Ok 0) else Err Again)
  unfolding requeue_answer
  answer_is = rw (
    cond_there,
    word_there,
    no_other s.kernel.parked c m (λ j e. g.sound.all.targets c j e),
    sound_fits s m (g.sound.all.mutexes m named),
  ) refl
    where
      cond_there : has_cond_word s.words c ≡ true
      cond_there = let e = use_known s t q (Wake (Requeue n)) g u refl in
          from_within c (length s.words.conds) (above_0 c (length s.conds) e)
          (omega (arith, below c (length s.conds) e, g.sound.all.shape.cond_words, g.sound.all.shape.few_conds))

      word_there : has_word s.words m ≡ true
      word_there = let e = (g.sound.all.conds c (use_known s t q (Wake (Requeue n)) g u refl)).bound in
          from_within m (length s.words.mutexes) (above_0 m (length s.mutexes) e)
          (omega (arith, below m (length s.mutexes) e, g.sound.all.shape.words, g.sound.all.shape.few_mutexes))

  -- the line, by its answer
  abbrev by_call : Result ℕ Errno → Outcome
  by_call r = use_by r q t (with_kernel (after_requeue c m (more_in q) r s.words s.kernel).words
      (after_requeue c m (more_in q) r s.words s.kernel).kernel s)

  -- it went through
  goes_through : (i : ℕ) → GoKeeps s t (by_call (Ok i))
  unfolding use_by after_requeue
  goes_through i = chooses q refl u

  -- the variable was used since
  goes_again : GoKeeps s t (by_call (Err Again))
  unfolding use_by after_requeue
  goes_again = use_goes s t q (Wake (Requeue n)) g u refl ready (Wake ReadAgain) refl (ready, tt)
      (record { joins = λ e. e; chooses = λ i z e. e }) refl refl

  -- the kernel call cmp_requeue_pi
  requeues : GoKeeps s t (use_requeue q n c t s)
  unfolding use_requeue
  requeues = subst (λ r. GoKeeps s t (by_call r)) (sym answer_is)
      (by_test (λ b. GoKeeps s t (by_call (if b
      then (if has_parked s.kernel c then Ok (min (parked_count s.kernel c) (more_in q + 1)) else Ok 0) else Err Again)))
      (uses_of s c == n)
      (λ _. by_test (λ b. GoKeeps s t (by_call (if b then Ok (min (parked_count s.kernel c) (more_in q + 1)) else Ok 0)))
      (has_parked s.kernel c) (λ _. goes_through (min (parked_count s.kernel c) (more_in q + 1))) (λ _. goes_through 0))
      (λ _. goes_again))

-- the kernel call cmp_requeue_pi
pub use_requeue_kept : (s : Table) (t : ℕ) (q : Request) (n : ℕ) → is_use q ≡ true → Going s t q (Wake (Requeue n))
    → GoKeeps s t (use_requeue q n (variable_of q) t s)
use_requeue_kept s t q n u g = requeues s t q n g u
