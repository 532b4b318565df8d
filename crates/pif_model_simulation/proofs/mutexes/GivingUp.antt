-- A thread gives up a mutex that it holds once, by the kernel call unlock_pi: nobody has it then, or its next waiter.
use Rattle.std.proofs.Common.{set, ◌≡◌, ◌≢◌, ℕ, ◌<◌, true, false, ◌==◌, length, Some, None, Option, Ok, refl, sym, ap, ◌∙◌, subst, arith, if◌then◌else◌, eq-eqb, eqb-true}
use Rattle.std.proofs.lemmas.Bool.{eqb-false, true≢false}
use Rattle.std.proofs.lemmas.List.{length-set, get_or-set_same, get_or-set_other, set-get_or}
use Rattle.pif_types.specs.declared.requests.Request.{Request}
use Rattle.pif_model.specs.declared.events.Seen.TheVariants.{Went, Answered}
use Rattle.pif_model.specs.declared.lines.Line.{Line}
use Rattle.pif_model.specs.declared.lines.Line.TheVariants.{Idle, At}
use Rattle.pif_model.specs.declared.lines.Place.{Place}
use Rattle.pif_model.specs.Graph.{has_waiter, without}
use Rattle.pif_model.specs.Word.{free_word, hand_word, word_at, health_word_at, has_word, set_word}
use Rattle.pif_model.specs.Posix.{Progress, is_blocked, is_call_blocked, Call, Thread, Mutex, World, Effect, Passes, nobody, no_mutex, variable_of, named_by, thread_at, mutex_at, with_thread, with_progress, at_progress, taken, on_taking}
use Rattle.pif_model.specs.World.Progress.{Has}
use Rattle.pif_model.specs.Posix.Effects.{none, then as first}
use Rattle.pif_model.specs.Posix.Passes.{to_next}
use Rattle.pif_model.specs.PiKernel.{is_ready, is_living, state_at, next_in, unlock_answer, words_after_unlock, kernel_after_unlock, kernel_after_hand_over}
use Rattle.pif_model.specs.RobustList.{robust_at}
use Rattle.pif_model.specs.Table.{Table, Cell, has_thread, has_mutex, uses_of, status_at, line_at, library_at, cell_at, with_kernel, with_word, with_line}
use Rattle.pif_model.specs.Lines.{Outcome, given_up_by, gives_up}
use Rattle.pif_model.specs.Projection.{HistoryVariables, no_history_variables, may_enlist, call_shown as shown_call, call_at, health_of, health_at, thread_shown, world_of}
use Rattle.pif_model.specs.Soundness.{use_at, MeetsAll, needs, mutex_by, is_pending, is_half_linked, is_unlinked, is_unsettled, LineIsSound, CellIsSound, ListIsSound, ThreadIsSound, IsSound}
use Rattle.pif_model_lemmas.proofs.Waiting.{by_test}
use Rattle.pif_model_lemmas.proofs.Numbers.{above_0, below, from_within}
use Rattle.pif_model_lemmas.proofs.kernel.Facts.{next-some, next-added}
use Rattle.pif_model_simulation.proofs.WeakenedInvariant.{exempt_one, admit_last}
use Rattle.pif_model_simulation.proofs.Shown.{threads_shown, mutexes_shown, thread_seen, mutex_seen}
use Rattle.pif_model_simulation.proofs.Written.{written_is, same_health, same_list, same_library}
use Rattle.pif_model_simulation.proofs.Steps.{KeepsGo, Going, progress_of, going_named, going_called, going_lined, going_below, goes_with, answers_with}
use Rattle.pif_model_simulation.proofs.Agreement.{Frames, Follows, WasBlockedIn}
use Rattle.pif_model_lemmas.proofs.kernel.Statuses.{ready-unparked}
use Rattle.pif_model_simulation.proofs.Effective.{next_seen}
use Rattle.pif_model_simulation.proofs.Progressed.{next-with_progress}
use Rattle.pif_model_simulation.proofs.Local.{blocked_before, KnowsAfter, ListsAfter, NamesOnly, known_still, lists_after, settled_after, ready-not_queued, ready-not_parked, going_cell, going_added, going_row, going_list, going_settled}
use Rattle.pif_model_simulation.proofs.LocalLines.{at_line, lists_by, row_given}
use Rattle.pif_model_simulation.proofs.Owning.{none_from_state, state_agrees}
use Rattle.pif_model_simulation.proofs.mutexes.HandOver.{HandsOver, handed, left, other, line_t, cell_m, handed_sound, handed_kernel, handed_mutexes, handed_robust, handed_cells, handed_shown, handed_frames, status_t, living_kept}

-- t, in its call q, gives up the mutex of that call, which it holds once and which is not on its list
pub record GivesUp (s : Table) (t : ℕ) (q : Request) (p : Place) : Type 0 where
  pub going : Going s t q p
  pub named : has_mutex s (named_by q) ≡ true
  pub ready : is_ready (status_at s t) ≡ true
  pub own : (word_at s.words (named_by q)).number ≡ t
  pub once : (library_at s (named_by q)).count ≡ 1
  pub order : health_word_at s.words (named_by q) ≢ 1
  -- OWNER_DIED, which goes, says nothing of its health
  pub health : health_of (health_word_at s.words (named_by q)) false ≡ health_at s (named_by q)
  pub unlinked : (library_at s (named_by q)).robust ≡ true → is_unlinked p ≡ true

-- the line to which t goes has the same of its list but for the mutex, and t knows there what it has to
pub record GivesUpTo (s : Table) (t : ℕ) (q : Request) (p : Place) (l : Line) : Type 0 where
  pub names : NamesOnly (named_by q) l
  pub pending : (library_at s (named_by q)).robust ≡ true → at_line is_pending l ≡ is_pending p
  pub half_linked : (library_at s (named_by q)).robust ≡ true → at_line is_half_linked l ≡ is_half_linked p
  pub knows : (c : Cell) → c.word.number ≢ t → c.robust ≡ (library_at s (named_by q)).robust
      → KnowsAfter s t q c l
  pub follows : Follows (At q p) l

module _ {s : Table} {t : ℕ} {q : Request} {p : Place} (h : GivesUp s t q p) where
  abbrev m : ℕ
  m = named_by q

  t0 : t ≢ 0
  t0 = above_0 t (length s.kernel.seats) (going_added h.going h.named)

  c : CellIsSound (has_thread s) (has_waiter s.kernel.waiters m) (cell_at s m)
  c = going_cell h.going h.named

  -- THE KERNEL HANDS IT ON

  module _ (l : Line) (to : GivesUpTo s t q p l) (state : state_at s.kernel m ≢ 0) where
    abbrev u : ℕ
    u = next_in s.kernel m

    pub hands : HandsOver s t m l (robust_at s.lists t) (hand_word u)
    hands = record {
      sound = exempt_one h.going.sound t;
      kernel = h.going.sound.kernel;
      somebody = t0;
      lined = going_lined h.going;
      row = going_row h.going h.named;
      named = h.named;
      own = h.own;
      unqueued = ready-not_queued (status_at s t) m h.ready;
      state = state;
      living = λ r. h.going.known;
      number = refl;
      waiters = refl;
      stalled = λ r. (refl, (c.stalled r).1);
      disorder = λ e. absurd (h.order e);
    }

    abbrev v : Table
    v = handed hands

    -- what t knows then
    knows : (b : Line) → KnowsAfter s t q (left hands) b → LineIsSound v t b
    knows Idle e = ap is_ready (status_t hands) ∙ e
    knows (At r b) e = subst (λ j. LineIsSound v t (At j b)) (sym e.0) (record {
      named = known_still (handed_mutexes hands) (λ i. refl) q (going_named h.going);
      belongs = e.1;
      needs = subst (λ d. MeetsAll (is_living v.kernel) t (status_at v t) d (use_at s q) (needs b)) (sym (cell_m hands))
          (subst (λ f. MeetsAll f t (status_at v t) (left hands) (use_at s q) (needs b)) (sym living)
          (subst (λ x. MeetsAll (is_living s.kernel) t x (left hands) (use_at s q) (needs b)) (sym (status_t hands))
          e.2));
    })
      where
        living : is_living v.kernel ≡ is_living s.kernel
        living = λ i j. living_kept hands j i

    not_own : (left hands).word.number ≢ t
    not_own = other hands

    -- its robust list
    lists : ListsAfter s t m (left hands) l (robust_at s.lists t)
    lists = lists_by h.going h.named to.names refl
        (subst (CellIsSound (has_thread v) (has_waiter v.kernel.waiters m)) (cell_m hands)
        ((handed_sound hands).mutexes m (handed_mutexes hands m ∙ h.named)))
        (λ e. row_given h.going h.named e (to.pending e) (to.half_linked e) (h.unlinked e) h.own not_own)

    row_t : robust_at v.lists t ≡ robust_at s.lists t
    row_t = ap (λ ls. robust_at (record s.lists { threads = ls }) t) (same_list s t)

    giver_sound : ThreadIsSound v t
    giver_sound = record {
      line = subst (LineIsSound v t) (sym (line_t hands)) (knows l (to.knows (left hands) not_own refl));
      queue = λ j z. absurd (ready-not_queued (status_at s t) j h.ready (sym (status_t hands) ∙ z));
      parked = λ j z. absurd (ready-not_parked (status_at s t) j h.ready (sym (status_t hands) ∙ z));
      list = subst (ListIsSound v t) (sym (line_t hands))
          (lists_after s v t m (At q p) l refl to.names h.named (handed_mutexes hands) (handed_robust hands)
          (handed_cells hands) (going_list h.going h.named)
          (subst (λ d. ListsAfter s t m d l (robust_at v.lists t)) (sym (cell_m hands))
          (subst (ListsAfter s t m (left hands) l) (sym row_t) lists)));
      settled = subst (λ b. (j : ℕ) → has_mutex v j ≡ true → (word_at v.words j).number ≡ t
          → j ≢ mutex_by is_unsettled b → ((word_at v.words j).died ≡ false) × (health_word_at v.words j ≢ 2))
          (sym (line_t hands))
          (settled_after s v t m (At q p) l refl (handed_mutexes hands) (handed_cells hands)
          (going_settled h.going h.named)
          (λ o. absurd (not_own (sym (ap (λ (d : Cell). d.word.number) (cell_m hands)) ∙ o))));
    }

    sound : IsSound v
    sound = record {
      all = admit_last (handed_sound hands) (living_kept hands t ∙ h.going.known) giver_sound;
      kernel = handed_kernel hands;
    }

    -- IN THE POSIX MACHINE

    module _ (a : Progress) (y : HistoryVariables) where
      abbrev w : World
      w = world_of s y

      -- t, when it has its result, and the next waiter, when it owns m
      abbrev given : Thread
      given = record (thread_at w t) { call = at_progress a (thread_at w t).call }

      abbrev taker : Thread
      taker = record (thread_at (with_progress t a w) u)
          { call = at_progress (on_taking (mutex_at w m).health) (thread_at (with_progress t a w) u).call }

      -- the world after t's call has its result, and m passed on
      abbrev passed : World
      passed = taken u m (record (with_progress t a w) { waiters = without s.kernel.waiters u })

      tw : t < length w.threads
      tw = going_below h.going y

      uw : u < length (with_progress t a w).threads
      uw = subst (λ j. u < j) (sym (length-set w.threads t given ∙ threads_shown h.going.sound.all.shape y
          ∙ h.going.sound.all.shape.lines))
          (below u (length s.kernel.seats) (next-added s.kernel h.going.sound.kernel m state))

      -- t in that world
      giver_passed : thread_at passed t ≡ given
      giver_passed = get_or-set_other (with_progress t a w).threads u t taker nobody (λ z. other hands (sym z))
          ∙ get_or-set_same w.threads t given nobody tw

      -- its call
      pub call_passed : (thread_at passed t).call ≡ Some (record { request = q; progress = a })
      call_passed = ap (λ (x : Thread). x.call) giver_passed ∙ ap (at_progress a) (going_called h.going y)

      -- the world that the table shows, with t's call as its line has it
      pub passed_shown : (b : Option Call) → call_at (health_at v) (uses_of s) l (status_at s t) ≡ b
          → world_of v y ≡ with_thread t (record (thread_at passed t) { call = b }) passed
      passed_shown b e =
          let r : Thread = record (thread_at passed t) { call = b } in
          let z : Mutex = record (mutex_at w m) { owner = u; count = 1 } in
          let lw = length-set (with_progress t a w).threads u taker ∙ length-set w.threads t given in
          handed_shown hands y (with_thread t r passed)
          (length-set passed.threads t r ∙ lw ∙ threads_shown h.going.sound.all.shape y)
          (length-set w.mutexes m z ∙ mutexes_shown h.going.sound.all.shape y) refl
          (get_or-set_same passed.threads t r nobody (subst (λ j. t < j) (sym lw) tw)
          ∙ (λ i. record (giver_passed i) { call = sym e i })
          ∙ (λ i. record (thread_seen h.going.sound.all.shape y t (going_lined h.going) i)
          { call = call_at (health_at v) (uses_of s) l (status_at s t) }))
          (get_or-set_other passed.threads t u r nobody (other hands)
          ∙ get_or-set_same (with_progress t a w).threads u taker nobody uw
          ∙ (λ i. record (taker_before i) { call = at_progress (on_taking (health_m i)) (taker_before i).call }))
          (λ j i d f. get_or-set_other passed.threads t j r nobody d
          ∙ get_or-set_other (with_progress t a w).threads u j taker nobody f
          ∙ get_or-set_other w.threads t j given nobody d ∙ thread_seen h.going.sound.all.shape y j i)
          (get_or-set_same w.mutexes m z no_mutex (subst (λ j. m < j) (sym (mutexes_shown h.going.sound.all.shape y))
          (below m (length s.mutexes) h.named))
          ∙ (λ i. record (mutex_seen h.going.sound.all.shape y m i) { owner = u; count = 1; health = health_m i }))
          (λ j d. get_or-set_other w.mutexes m j z no_mutex d ∙ mutex_seen h.going.sound.all.shape y j) refl refl refl
        where
          taker_before : thread_at (with_progress t a w) u ≡ thread_shown s y u
          taker_before = get_or-set_other w.threads t u given nobody (other hands)
              ∙ thread_seen h.going.sound.all.shape y u (subst (λ j. u < j) (sym h.going.sound.all.shape.lines)
              (below u (length s.kernel.seats) (next-added s.kernel h.going.sound.kernel m state)))

          health_m : (mutex_at w m).health ≡ health_of (health_word_at s.words m) false
          health_m = ap (λ (x : Mutex). x.health) (mutex_seen h.going.sound.all.shape y m) ∙ sym h.health

      -- and with t's call as it is there
      pub passed_open : call_at (health_at v) (uses_of s) l (status_at s t) ≡ Some (record { request = q; progress = a })
          → world_of v y ≡ passed
      passed_open e = passed_shown (thread_at passed t).call (e ∙ sym call_passed)
          ∙ (λ i. record passed { threads = set-get_or passed.threads t nobody i })

      -- it passes on to its next waiter
      pub passes_next : Passes m (with_progress t a w) passed
      passes_next = to_next u (next-with_progress w t a m ∙ next_seen h.going.sound y m)
          (next-some s.kernel h.going.sound.kernel m state) refl

    -- the table that is left, in the words of the line
    abbrev pub hands_on : Table
    hands_on = with_line t l (with_kernel (set_word s.words m (hand_word u)) (kernel_after_hand_over u m s.kernel) s)

    is_handed : v ≡ hands_on
    is_handed = written_is t m l (robust_at s.lists t) (hand_word u) (health_word_at s.words m) 1
        (kernel_after_hand_over u m s.kernel) s
        refl (same_health s m) (same_list s t)
        (subst (λ n. set s.mutexes m (record (library_at s m) { count = n }) ≡ s.mutexes) h.once (same_library s m))

    limits : v.limits ≡ s.limits
    limits = refl

    -- t is blocked then only if it was
    was : (a : Progress) → (may_enlist (At q p) ≡ false → is_blocked a ≡ true → is_blocked (progress_of s t q p) ≡ true)
        → ((c : ℕ) → is_call_blocked c (shown_call v t) ≡ true
        → is_call_blocked c (Some (record { request = q; progress = a })) ≡ true)
        → may_enlist (line_at s t) ≡ false → WasBlockedIn s v t
    was a blocked call j c b unparked = (
      ap (is_call_blocked c) (ap (λ k. call_at (health_at s) (uses_of s) k (status_at s t)) h.going.line)
          ∙ blocked_before (is_blocked a) (is_blocked (progress_of s t q p)) (variable_of q == c) (call c b)
          (blocked (sym (ap may_enlist h.going.line) ∙ j)),
      ready-unparked (status_at s t) h.ready,
    )

    -- t's call then
    call_then : shown_call v t ≡ call_at (health_at v) (uses_of s) l (status_at s t)
    call_then = λ i. call_at (health_at v) (uses_of s) (line_t hands i) (status_t hands i)

    -- who was found blocked stays so
    frames : (a : Progress) → (may_enlist (At q p) ≡ false → is_blocked a ≡ true → is_blocked (progress_of s t q p) ≡ true)
        → ((c : ℕ) → is_call_blocked c (shown_call v t) ≡ true
        → is_call_blocked c (Some (record { request = q; progress = a })) ≡ true) → Frames s v
    frames a blocked call = handed_frames hands (subst (λ k. Follows k l) (sym h.going.line) to.follows)
        (was a blocked call)

    -- m is handed on, and the call goes on
    pub handed_goes : (a : Progress)
        → (may_enlist (At q p) ≡ false → is_blocked a ≡ true → is_blocked (progress_of s t q p) ≡ true)
        → ((y : HistoryVariables) → call_at (health_at v) (uses_of s) l (status_at s t) ≡ Some
        (record { request = q; progress = a }))
        → ((y : HistoryVariables) (w' : World) → Passes m (with_progress t a (world_of s y)) w'
        → Effect t (world_of s y) w')
        → KeepsGo s t Went hands_on
    handed_goes a blocked call effect = subst (KeepsGo s t Went) is_handed
        (goes_with h.going v sound limits (living_kept hands t ∙ h.going.known) (ap is_ready (status_t hands) ∙ h.ready)
        (frames a blocked (λ c b. sym (ap (is_call_blocked c) (call_then ∙ call no_history_variables)) ∙ b))
        (λ y. first (effect y (passed a y) (passes_next a y)) (none (passed_open a y (call y)))))

    -- m is handed on, and the call is answered
    pub handed_answers : (n : ℕ) → l ≡ Idle
        → ((y : HistoryVariables) (w' : World) → Passes m (with_progress t (Has n) (world_of s y)) w'
        → Effect t (world_of s y) w')
        → KeepsGo s t (Answered n) hands_on
    handed_answers n e effect = subst (KeepsGo s t (Answered n)) is_handed
        (answers_with h.going v n (λ y. passed (Has n) y) sound limits (living_kept hands t ∙ h.going.known)
        (ap is_ready (status_t hands) ∙ h.ready)
        (frames (Has n) (λ j f. absurd (true≢false (sym f))) (λ c b. absurd (true≢false (sym b
        ∙ ap (is_call_blocked c) (call_then ∙ ap (λ k. call_at (health_at v) (uses_of s) k (status_at s t)) e)))))
        (λ y. first (effect y (passed (Has n) y) (passes_next (Has n) y)) (none refl))
        (λ y. call_passed (Has n) y)
        (λ y. passed_shown (Has n) y None (ap (λ b. call_at (health_at v) (uses_of s) b (status_at s t)) e)))

  -- THE KERNEL CALL

  -- what unlock_pi answers to the owner
  answer_owner : unlock_answer t m s.words s.kernel ≡ Ok (record {})
  unfolding unlock_answer
  answer_owner = rw (
    word_there,
    eq-eqb (cell_at s m).word.number t h.own,
    subst
        (λ n. (if (cell_at s m).state_owner == 0 then true else (cell_at s m).state_owner == n) ≡ true) h.own
        (state_agrees c),
  ) refl
    where
      word_there : has_word s.words m ≡ true
      word_there = from_within m (length s.words.mutexes) (above_0 m (length s.mutexes) h.named)
          (omega (
            arith,
            below m (length s.mutexes) h.named,
            h.going.sound.all.shape.words,
            h.going.sound.all.shape.few_mutexes,
          ))

  -- a fact on what unlock_pi leads to holds if it does with the mutex free, and with the mutex handed on
  pub gives_up_cases : (P : Outcome → Type 0) (done : Table → Outcome)
      → (has_waiter s.kernel.waiters m ≡ false → P (done (with_word m free_word s)))
      → (state_at s.kernel m ≢ 0 → P (done (with_kernel (set_word s.words m (hand_word (next_in s.kernel m)))
      (kernel_after_hand_over (next_in s.kernel m) m s.kernel) s)))
      → P (gives_up t m done s)
  unfolding gives_up given_up_by words_after_unlock kernel_after_unlock
  gives_up_cases P done free next =
      subst (λ r. P (given_up_by r t done (with_kernel (words_after_unlock m r s.kernel s.words)
      (kernel_after_unlock m r s.kernel) s))) (sym answer_owner)
      (by_test (λ b. P (done (with_kernel (set_word s.words m
      (if b then free_word else hand_word (next_in s.kernel m)))
      (if b then s.kernel else kernel_after_hand_over (next_in s.kernel m) m s.kernel) s)))
      (state_at s.kernel m == 0)
      (λ e. free (none_from_state c (λ z. t0 (sym h.own ∙ z)) (eqb-true (cell_at s m).state_owner 0 e)))
      (λ e. next (eqb-false (cell_at s m).state_owner 0 e)))
