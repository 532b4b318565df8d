-- A robust mutex of a thread that has ended passes on, to nobody or to its next waiter: the table stays sound, save for
-- that thread, and the POSIX machine's mutex passes on.
use Rattle.std.proofs.Common.{◌≡◌, ◌≢◌, inr, ℕ, ◌<◌, Bool, true, false, length, set, None, refl, sym, ap, ◌∙◌, subst, if◌then◌else◌}
use Rattle.std.proofs.Math.Path.{fun_ext}
use Rattle.std.proofs.lemmas.Bool.{true≢false}
use Rattle.std.proofs.lemmas.List.{length-set, get_or-set_same, get_or-set_other, set-get_or}
use Rattle.pif_model.specs.declared.lines.Line.TheVariants.{Idle}
use Rattle.pif_model.specs.declared.lines.Status.TheVariants.{Queued, Ended}
use Rattle.pif_model.specs.Graph.{has_waiter, without, next_waiter}
use Rattle.pif_model.specs.Word.{Word, orphan_word, inherit_word, word_at, health_word_at, set_word}
use Rattle.pif_model.specs.Posix.{Thread, Mutex, is_call_blocked, World, Passes, nobody, no_mutex, thread_at, mutex_at, with_mutex, with_health, taken, on_taking, on_death, at_progress, effective_of, next_of}
use Rattle.pif_model.specs.Posix.Passes.{to_nobody, to_next}
use Rattle.pif_model.specs.PiKernel.{Kernel, IsKernel, seat_at, state_at, is_living, next_in, kernel_after_hand_over}
use Rattle.pif_model.specs.RobustList.{no_robust_row, robust_at}
use Rattle.pif_model.specs.Table.{Table, Cell, has_thread, has_mutex, bound_to, uses_of, status_at, line_at, library_at, cell_at, timer_at}
use Rattle.pif_model.specs.Projection.{HistoryVariables, memory_at, call_shown, call_at, health_of, health_at, thread_shown, mutex_shown, world_of}
use Rattle.pif_model.specs.Soundness.{CellIsSound, SoundExcept}
use Rattle.pif_model_lemmas.proofs.Greatest.{effective_same}
use Rattle.pif_model_lemmas.proofs.kernel.Facts.{next-some, next-added}
use Rattle.pif_model_lemmas.proofs.Numbers.{above_0, below}
use Rattle.pif_model_lemmas.proofs.Places.{kept_at}
use Rattle.pif_model_lemmas.proofs.Waiting.{by_test}
use Rattle.pif_model_simulation.proofs.Kept.{held_once}
use Rattle.pif_model_simulation.proofs.WeakenedInvariant.{Changes, change_kept}
use Rattle.pif_model_simulation.proofs.Healths.{health-cases, health-unusable, health-inconsistent, health-behind}
use Rattle.pif_model_simulation.proofs.Shown.{threads_shown, mutexes_shown, thread_seen, mutex_seen}
use Rattle.pif_model_simulation.proofs.Written.{written, cell_written, no_call, changes, cell_here, line_here, list_here, call_there, thread_here, thread_there, shows, frames_written, same_health, same_list}
use Rattle.pif_model_simulation.proofs.Effective.{next_seen_but}
use Rattle.pif_model_simulation.proofs.Owning.{next_none}
use Rattle.pif_model_simulation.proofs.Agreement.{Frames, quiet, was_not}
use Rattle.pif_model_simulation.proofs.mutexes.HandOver.{HandsOver, other, line_t, cell_m, handed_sound, handed_kernel, handed_mutexes, handed_robust, handed_cells, handed_shown, handed_frames, status_t, living_kept}

-- the health that a mutex has once its owner has ended
death-health : (h : ℕ) (d : Bool) → health_of h true ≡ on_death (health_of h d)
death-health h d = health-cases (λ x. health_of h true ≡ on_death x) h d
    (λ e. health-unusable h true e) (λ e. health-inconsistent h true e)
    (λ n e f. health-behind h true n refl) (λ n e f. health-behind h true n refl)

-- t has ended, and has no call and no robust list; all else is sound
pub record IsDead (s : Table) (t : ℕ) : Type 0 where
  pub sound : SoundExcept (λ u. u ≡ t) s
  pub kernel : IsKernel s.kernel
  pub somebody : t ≢ 0
  pub lined : t < length s.lines
  pub row : t < length s.lists.threads
  pub line : line_at s t ≡ Idle
  pub list : robust_at s.lists t ≡ no_robust_row
  pub status : status_at s t ≡ Ended
  pub gone : is_living s.kernel t ≡ false

-- m, which t owned, has passed on, and nothing else has changed
pub record HasPassed (s v : Table) (t m : ℕ) : Type 0 where
  pub dead : IsDead v t
  pub mutexes : (j : ℕ) → has_mutex v j ≡ has_mutex s j
  pub robust : (j : ℕ) → (library_at v j).robust ≡ (library_at s j).robust
  pub cells : (j : ℕ) → j ≢ m → cell_at v j ≡ cell_at s j
  pub number : (word_at v.words m).number ≢ t
  pub count : (library_at v m).count ≡ 1
  -- who was found blocked stays so
  pub frames : Frames s v
  pub passes : (y : HistoryVariables) → Passes m (with_health m (on_death (mutex_at (world_of s y) m).health) (world_of s y))
      (world_of v y)

module _ (s : Table) (t m : ℕ) (h : IsDead s t) (named : has_mutex s m ≡ true) (robust : (library_at s m).robust ≡ true)
    (own : (word_at s.words m).number ≡ t) where
  abbrev a : ℕ
  a = health_word_at s.words m

  c : CellIsSound (has_thread s) (has_waiter s.kernel.waiters m) (cell_at s m)
  c = h.sound.mutexes m named

  ml : m < length s.mutexes
  ml = below m (length s.mutexes) named

  -- the table in which m has this word, and is held once
  abbrev pub passed_table : Word → Kernel → Table
  passed_table x k = record s {
    words = set_word s.words m x;
    kernel = k;
    mutexes = set s.mutexes m (record (library_at s m) { count = 1 });
  }

  -- as one in which t's line and robust list are written as they were
  is_passed : (x : Word) (k : Kernel) → written t m Idle no_robust_row x a 1 k s ≡ passed_table x k
  is_passed x k = λ i. record s {
    words = record s.words { mutexes = set s.words.mutexes m x; healths = same_health s m i };
    kernel = k;
    lists = record s.lists { threads = rows i };
    lines = lines i;
    mutexes = set s.mutexes m (record (library_at s m) { count = 1 });
  }
    where
      rows : set s.lists.threads t no_robust_row ≡ s.lists.threads
      rows = subst (λ r. set s.lists.threads t r ≡ s.lists.threads) h.list (same_list s t)

      lines : set s.lines t Idle ≡ s.lines
      lines = subst (λ l. set s.lines t l ≡ s.lines) h.line (set-get_or s.lines t Idle)

  -- IN THE POSIX MACHINE

  -- the world in which m is as the end of its owner makes it, before it passes on
  module _ (y : HistoryVariables) where
    abbrev w : World
    w = world_of s y

    -- the mutex once its owner has ended
    abbrev behind : Mutex
    behind = record (mutex_at w m) { health = on_death (mutex_at w m).health }

    abbrev w1 : World
    w1 = with_health m (on_death (mutex_at w m).health) w

    mw : m < length w.mutexes
    mw = subst (λ j. m < j) (sym (mutexes_shown h.sound.shape y)) ml

    mw1 : m < length w1.mutexes
    mw1 = subst (λ j. m < j) (sym (length-set w.mutexes m behind)) mw

    behind_seen : mutex_at w1 m ≡ record (mutex_shown s m) { health = health_of a true }
    behind_seen =
        get_or-set_same w.mutexes m behind no_mutex mw
        ∙ (λ i. record (mutex_seen h.sound.shape y m i) { health = on_death (mutex_seen h.sound.shape y m i).health })
        ∙ (λ i. record (mutex_shown s m) { health = sym (death-health a (word_at s.words m).died) i })

    -- nobody's effective priority has changed
    next_same : next_of w1 m ≡ next_of w m
    next_same = ap (λ f. next_waiter f w.waiters m) (fun_ext (λ u. effective_same _ _ _ _ _ _ u refl
        (λ x. kept_at (λ (z : Mutex). z.owner) w.mutexes m behind no_mutex refl _) (λ x. refl)))

  -- t in the world
  none_called : (y : HistoryVariables) → thread_at (world_of s y) t ≡ record (thread_shown s y t) { call = None }
  none_called y = thread_seen h.sound.shape y t h.lined ∙ (λ i.
      record (thread_shown s y t) { call = call_at (health_at s) (uses_of s) (h.line i) (status_at s t) })

  -- if t has no call then, it is not blocked
  not_blocked : (z : Table) → line_at z t ≡ Idle → (c : ℕ) → is_call_blocked c (call_shown z t) ≡ false
  not_blocked z e c = ap (λ l. is_call_blocked c (call_at (health_at z) (uses_of z) l (status_at z t))) e

  -- TO NOBODY

  module _ (alone : has_waiter s.kernel.waiters m ≡ false) where
    abbrev x : Word
    x = orphan_word (word_at s.words m)

    abbrev v : Table
    v = written t m Idle no_robust_row x a 1 s.kernel s

    change : Changes (λ u. u ≡ t) s v m
    change = changes s t m Idle no_robust_row x a 1 s.kernel h.somebody h.lined h.row ml h.sound.shape refl
        (no_call (λ u. u ≡ t) (bound_to s) s.kernel m)
        (λ e. absurd (above_0 m (length s.mutexes) named e))
        (λ e. record {
          count = held_once (cell_at s m).kind 0 1 refl;
          stalled = λ r. absurd (true≢false (sym robust ∙ r));
          owner = λ n. absurd (n refl);
          free = λ z. alone;
          clean = λ z d. absurd (true≢false d);
          state = c.state ∙ ap (λ b. if b then (word_at s.words m).number else 0) alone
              ∙ sym (ap (λ b. if b then 0 else 0) alone);
          contended = λ e. absurd (true≢false (sym e ∙ alone));
        })
        (λ e r z. absurd (z refl))
        (λ u z d. record {
          kind = refl;
          robust = refl;
          owner = λ o. absurd (d (sym o ∙ own));
          other = λ o e. z (sym e);
          same = λ o. absurd (d (sym o ∙ own));
          ended = λ r. absurd (true≢false (sym robust ∙ r));
        })

    sound : SoundExcept (λ u. u ≡ t) v
    sound = change_kept h.sound change

    cell : cell_at v m ≡ cell_written m x a 1 s.kernel s
    cell = cell_here s t m Idle no_robust_row x a 1 s.kernel h.somebody h.lined h.row ml h.sound.shape

    -- the calls of others have come as far as before
    calls : (u : ℕ) → u ≢ t → call_at (health_at v) (uses_of s) (line_at s u) (status_at s u) ≡ call_shown s u
    calls u d = by_test (λ b. is_living s.kernel u ≡ b → call_at (health_at v) (uses_of s) (line_at s u)
        (status_at s u) ≡ call_shown s u) (is_living s.kernel u)
        (λ e _. call_there s t m Idle no_robust_row x a 1 s.kernel h.somebody h.lined h.row ml h.sound.shape u
        (inr (λ o. d (sym o ∙ own))) (h.sound.threads u e d))
        (λ e _. subst (λ l. call_at (health_at v) (uses_of s) l (status_at s u)
        ≡ call_at (health_at s) (uses_of s) l (status_at s u)) (sym (h.sound.absent u e d).line) refl) refl

    line_v : line_at v t ≡ Idle
    line_v = line_here s t m Idle no_robust_row x a 1 s.kernel h.somebody h.lined h.row ml h.sound.shape

    orphan_frames : Frames s v
    orphan_frames = frames_written s t m Idle no_robust_row x a 1 s.kernel h.somebody h.lined h.row ml h.sound.shape
        (λ u d. refl) calls (quiet refl refl) (λ e. was_not s v t (not_blocked v line_v))

    orphan_shown : (y : HistoryVariables) → world_of v y ≡ with_mutex m (record (mutex_at (w1 y) m) { owner = 0; count = 1 })
        (w1 y)
    orphan_shown y =
        let z : Mutex = record (mutex_at (w1 y) m) { owner = 0; count = 1 } in
        shows s t m Idle no_robust_row x a 1 s.kernel h.somebody h.lined h.row ml h.sound.shape y
        (with_mutex m z (w1 y)) sound.shape
        (threads_shown h.sound.shape y)
        (length-set (w1 y).mutexes m z ∙ length-set (world_of s y).mutexes m (behind y)
        ∙ mutexes_shown h.sound.shape y) refl
        (thread_here s t m Idle no_robust_row x a 1 s.kernel h.somebody h.lined h.row ml h.sound.shape y
        ∙ sym (none_called y))
        (λ u f d. thread_there s t m Idle no_robust_row x a 1 s.kernel h.somebody h.lined h.row ml h.sound.shape y u d
        ∙ (λ i. record {
          base = (seat_at s.kernel u).base;
          living = is_living s.kernel u;
          call = calls u d i;
          timer = timer_at s u;
          memory = memory_at y u;
        })
        ∙ sym (thread_seen h.sound.shape y u f))
        (sym (get_or-set_same (w1 y).mutexes m z no_mutex (mw1 y)
        ∙ (λ i. record (behind_seen y i) { owner = 0; count = 1 })))
        (λ j d. sym (get_or-set_other (w1 y).mutexes m j z no_mutex d
        ∙ get_or-set_other (world_of s y).mutexes m j (behind y) no_mutex d ∙ mutex_seen h.sound.shape y j)) refl refl refl

    -- it passes on to nobody
    pub passes_to_nobody : HasPassed s (passed_table x s.kernel) t m
    passes_to_nobody = subst (λ z. HasPassed s z t m) (is_passed x s.kernel) (record {
      dead = record {
        sound = sound;
        kernel = h.kernel;
        somebody = h.somebody;
        lined = subst (λ n. t < n) (sym (length-set s.lines t Idle)) h.lined;
        row = subst (λ n. t < n) (sym (length-set s.lists.threads t no_robust_row)) h.row;
        line = line_here s t m Idle no_robust_row x a 1 s.kernel h.somebody h.lined h.row ml h.sound.shape;
        list = list_here s t m Idle no_robust_row x a 1 s.kernel h.somebody h.lined h.row ml h.sound.shape;
        status = h.status;
        gone = h.gone;
      };
      mutexes = change.mutexes;
      robust = change.robust;
      cells = change.cells;
      number = λ e. h.somebody (sym (sym (ap (λ (d : Cell). d.word.number) cell) ∙ e));
      count = ap (λ (d : Cell). d.count) cell;
      frames = orphan_frames;
      passes = λ y. to_nobody (next_none (effective_of (w1 y)) s.kernel.waiters m alone) (orphan_shown y);
    })

  -- TO THE NEXT WAITER

  module _ (state : state_at s.kernel m ≢ 0) where
    abbrev u : ℕ
    u = next_in s.kernel m

    abbrev k : Kernel
    k = kernel_after_hand_over u m s.kernel

    hands : HandsOver s t m Idle no_robust_row (inherit_word u)
    hands = record {
      sound = h.sound;
      kernel = h.kernel;
      somebody = h.somebody;
      lined = h.lined;
      row = h.row;
      named = named;
      own = own;
      unqueued = λ e. not_queued (sym h.status ∙ e);
      state = state;
      living = λ r. absurd (true≢false (sym robust ∙ r));
      number = refl;
      waiters = refl;
      stalled = λ r. absurd (true≢false (sym robust ∙ r));
      disorder = λ e. refl;
    }
      where
        not_queued : Ended ≡ Queued m → ⊥
        not_queued z = cc

    abbrev next_table : Table
    next_table = written t m Idle no_robust_row (inherit_word u) a 1 k s

    inherit_shown : (y : HistoryVariables) → world_of next_table y ≡ taken u m
        (record (w1 y) { waiters = without s.kernel.waiters u })
    inherit_shown y =
        let o : Mutex = record (mutex_at (w1 y) m) { owner = u; count = 1 } in
        let z : Thread = record (thread_at (world_of s y) u)
        { call = at_progress (on_taking (mutex_at (w1 y) m).health) (thread_at (world_of s y) u).call } in
        handed_shown hands y (taken u m (record (w1 y) { waiters = without s.kernel.waiters u }))
        (length-set (world_of s y).threads u z ∙ threads_shown h.sound.shape y)
        (length-set (w1 y).mutexes m o ∙ length-set (world_of s y).mutexes m (behind y)
        ∙ mutexes_shown h.sound.shape y) refl
        (get_or-set_other (world_of s y).threads u t z nobody (λ e. other hands (sym e)) ∙ none_called y)
        (get_or-set_same (world_of s y).threads u z nobody (uw y)
        ∙ (λ i. record (thread_seen h.sound.shape y u ul i)
        { call = at_progress (on_taking (behind_seen y i).health) (thread_seen h.sound.shape y u ul i).call }))
        (λ j f d e. get_or-set_other (world_of s y).threads u j z nobody e ∙ thread_seen h.sound.shape y j f)
        (get_or-set_same (w1 y).mutexes m o no_mutex (mw1 y) ∙ (λ i. record (behind_seen y i) { owner = u; count = 1 }))
        (λ j d. get_or-set_other (w1 y).mutexes m j o no_mutex d
        ∙ get_or-set_other (world_of s y).mutexes m j (behind y) no_mutex d ∙ mutex_seen h.sound.shape y j) refl refl refl
      where
        ul : u < length s.lines
        ul = subst (λ j. u < j) (sym h.sound.shape.lines)
            (below u (length s.kernel.seats) (next-added s.kernel h.kernel m state))

        uw : (y : HistoryVariables) → u < length (world_of s y).threads
        uw y = subst (λ j. u < j) (sym (threads_shown h.sound.shape y ∙ h.sound.shape.lines))
            (below u (length s.kernel.seats) (next-added s.kernel h.kernel m state))

    -- it passes on to its next waiter
    pub passes_to_next : HasPassed s (passed_table (inherit_word u) k) t m
    passes_to_next = subst (λ z. HasPassed s z t m) (is_passed (inherit_word u) k) (record {
      dead = record {
        sound = handed_sound hands;
        kernel = handed_kernel hands;
        somebody = h.somebody;
        lined = subst (λ n. t < n) (sym (length-set s.lines t Idle)) h.lined;
        row = subst (λ n. t < n) (sym (length-set s.lists.threads t no_robust_row)) h.row;
        line = line_t hands;
        list = list_here s t m Idle no_robust_row (inherit_word u) a 1 k h.somebody h.lined h.row ml h.sound.shape;
        status = status_t hands ∙ h.status;
        gone = living_kept hands t ∙ h.gone;
      };
      mutexes = handed_mutexes hands;
      robust = handed_robust hands;
      cells = handed_cells hands;
      number = λ e. other hands (sym (ap (λ (d : Cell). d.word.number) (cell_m hands)) ∙ e);
      count = ap (λ (d : Cell). d.count) (cell_m hands);
      frames = handed_frames hands (quiet refl refl) (λ e. was_not s next_table t (not_blocked next_table (line_t hands)));
      passes = λ y. to_next u (next_same y ∙ next_seen_but h.sound h.kernel y m) (next-some s.kernel h.kernel m state)
          (inherit_shown y);
    })
