-- The kernel hands a mutex on to its next waiter, when the thread that owned it gives it up or has ended: the table
-- stays sound, save for that thread, and the POSIX machine's mutex passes on.
use Rattle.std.proofs.Common.{◌≡◌, ◌≢◌, ℕ, ◌<◌, Bool, true, false, ◌==◌, ◌⊎◌, inl, inr, length, Some, refl, sym, ap, ap₂, ◌∙◌, subst, arith, if◌then◌else◌, eq-eqb}
use Rattle.std.proofs.lemmas.Bool.{cases_eq, true≢false}
use Rattle.std.proofs.lemmas.List.{length-set}
use Rattle.pif_types.specs.declared.requests.Request.{Request}
use Rattle.pif_types.specs.declared.requests.Request.TheVariants.{Lock, Wait}
use Rattle.pif_model.specs.declared.lines.Line.{Line}
use Rattle.pif_model.specs.declared.lines.Line.TheVariants.{At}
use Rattle.pif_model.specs.declared.lines.Place.{Place}
use Rattle.pif_model.specs.declared.lines.Place.TheVariants.{StayQueued, StayParked}
use Rattle.pif_model.specs.declared.lines.Status.TheVariants.{Ready, Queued}
use Rattle.pif_model.specs.declared.lines.Woken.TheVariants.{Owns as WokenOwns}
use Rattle.pif_model.specs.Graph.{has_waiter, without}
use Rattle.pif_model.specs.Word.{Word, word_at, health_word_at}
use Rattle.pif_model.specs.Posix.{World, Health, is_call_blocked, named_by, variable_of, thread_at, mutex_at, at_progress, on_taking}
use Rattle.pif_model.specs.PiKernel.{Kernel, IsKernel, Seat, seat_at, state_at, is_living, has_ended, next_in, kernel_after_hand_over}
use Rattle.pif_model.specs.RobustList.{RobustRow, robust_at}
use Rattle.pif_model.specs.Table.{Table, Cell, has_thread, has_mutex, bound_to, uses_of, status_at, line_at, timer_at, library_at, cell_at}
use Rattle.pif_model.specs.Projection.{HistoryVariables, may_enlist, call_shown as shown_call, memory_at, progress_at, call_at, health_of, health_at, thread_shown, mutex_shown, world_of}
use Rattle.pif_model.specs.Soundness.{Use, use_at, is_queued_place, is_unlinked, MeetsAll, needs, waited_in, CallIsSound, mutex_by, is_unsettled, LineIsSound, IsQueuedLine, CellIsSound, ListIsSound, ThreadIsSound, SoundExcept}
use Rattle.pif_model_lemmas.proofs.Waiting.{by_test, has_waiter-without_other}
use Rattle.pif_model_lemmas.proofs.Numbers.{above_0, below}
use Rattle.pif_model_lemmas.proofs.kernel.Facts.{next-queued, next-added, next-waited, next-some}
use Rattle.pif_model_lemmas.proofs.kernel.Kept.{hand_over_kept}
use Rattle.pif_model_lemmas.proofs.kernel.Places.{handed_limits, handed_length, handed_has, handed_seat_same, handed_seat_other, handed_state_other, handed_state_same, handed_waiters, handed_parked}
use Rattle.pif_model_simulation.proofs.Kept.{held_once}
use Rattle.pif_model_simulation.proofs.Facts.{fact, is_bound_need}
use Rattle.pif_model_simulation.proofs.WeakenedInvariant.{Changes, change_kept, exempt_all, admit}
use Rattle.pif_model_simulation.proofs.WeakenedInvariant.MayBeAdmitted.{lives}
use Rattle.pif_model_simulation.proofs.Written.{written, cell_written, IsCallOn, same_targets, changes, cell_here, line_here, line_there, list_there, call_there, thread_here, thread_there, shows}
use Rattle.pif_model_simulation.proofs.Local.{ListsAfter, lists_after, settled_after, known_still, ready-not_queued, ready-not_parked}
use Rattle.pif_model_simulation.proofs.Agreement.{Frames, Follows, WasBlockedIn, frames_by, was_same, was_not, call_unblocked, taking_unblocked}

-- a call that waits for a mutex names it
waits-named : (q : Request) (m : ℕ) → m ≢ 0 → waited_in q ≡ m → named_by q ≡ m
waits-named (Lock j) m n e = e
waits-named (Wait c j) m n e = e
waits-named _ m n e = absurd (n (sym e))

-- who is handed its mutex, at a place where it was queued, knows there what it has to
handed_needs : (living living' : ℕ → Bool) (u m : ℕ) (c d : Cell) (z : Use) (b : Place) → is_queued_place b ≡ true
    → MeetsAll living u (Queued m) c z (needs b) → d.word.number ≡ u → d.count ≡ 1
    → (d.health ≡ 1 → d.word.died ≡ true) → MeetsAll living' u (Ready WokenOwns) d z (needs b)
handed_needs living living' u m c d z StayQueued e k own once behind =
    (((λ x. cc), λ x. cc), ((λ x. own), ((λ x. once), ((λ x. behind), tt))))
handed_needs living living' u m c d z StayParked e k own once behind =
    let bound = fact is_bound_need living u (Queued m) c z (needs StayParked) k in
    (((λ x. cc), λ x. cc), (((λ x. own), λ x. absurd (true≢false x)), ((λ x. once), ((λ x. behind), (bound, tt)))))
handed_needs living living' u m c d z _ e k own once behind = absurd (true≢false (sym e))

-- its mutex is unlinked and unsettled there
queued_unlinked : (b : Place) → is_queued_place b ≡ true → is_unlinked b ≡ true
queued_unlinked StayQueued e = refl
queued_unlinked StayParked e = refl
queued_unlinked _ e = absurd (true≢false (sym e))

queued_unsettled : (b : Place) → is_queued_place b ≡ true → is_unsettled b ≡ true
queued_unsettled StayQueued e = refl
queued_unsettled StayParked e = refl
queued_unsettled _ e = absurd (true≢false (sym e))

-- its call takes the mutex
queued_takes : (q : Request) (b : Place) (h : Health) (n : ℕ) → is_queued_place b ≡ true
    → progress_at q b (Ready WokenOwns) h n ≡ on_taking h
queued_takes q StayQueued h n e = refl
queued_takes q StayParked h n e = refl
queued_takes q _ h n e = absurd (true≢false (sym e))

-- t, which alone is exempt, owns m, for which threads wait, and m is handed on: it gets this word and is held once,
-- and t goes to this line and robust list
pub record HandsOver (s : Table) (t m : ℕ) (l : Line) (r : RobustRow) (x : Word) : Type 0 where
  pub sound : SoundExcept (λ j. j ≡ t) s
  pub kernel : IsKernel s.kernel
  pub somebody : t ≢ 0
  pub lined : t < length s.lines
  pub row : t < length s.lists.threads
  pub named : has_mutex s m ≡ true
  pub own : (word_at s.words m).number ≡ t
  pub unqueued : status_at s t ≢ Queued m
  pub state : state_at s.kernel m ≢ 0
  -- who ended had a robust mutex
  pub living : (library_at s m).robust ≡ false → is_living s.kernel t ≡ true
  pub number : x.number ≡ next_in s.kernel m
  pub waiters : x.waiters ≡ true
  pub stalled : (library_at s m).robust ≡ false → (x.died ≡ false) × (health_word_at s.words m ≡ 0)
  pub disorder : health_word_at s.words m ≡ 1 → x.died ≡ true

module _ {s : Table} {t m : ℕ} {l : Line} {r : RobustRow} {x : Word} (h : HandsOver s t m l r x) where
  -- who gets it
  abbrev pub u : ℕ
  u = next_in s.kernel m

  -- the kernel that is left
  abbrev pub k : Kernel
  k = kernel_after_hand_over u m s.kernel

  abbrev a : ℕ
  a = health_word_at s.words m

  -- the table that is left
  abbrev pub handed : Table
  handed = written t m l r x a 1 k s

  m0 : m ≢ 0
  m0 = above_0 m (length s.mutexes) h.named

  ml : m < length s.mutexes
  ml = below m (length s.mutexes) h.named

  -- the next waiter is another thread, which lives
  added : has_thread s u ≡ true
  added = next-added s.kernel h.kernel m h.state

  was_queued : status_at s u ≡ Queued m
  was_queued = next-queued s.kernel h.kernel m h.state

  pub other : u ≢ t
  other e = h.unqueued (sym (ap (status_at s) e) ∙ was_queued)

  u0 : u ≢ 0
  u0 = next-some s.kernel h.kernel m h.state

  living_u : is_living s.kernel u ≡ true
  living_u = rw (added, was_queued) refl

  -- it is sound
  sound_u : ThreadIsSound s u
  sound_u = h.sound.threads u living_u other

  -- it is at the place where it was queued
  queued_line : IsQueuedLine m (line_at s u)
  queued_line = sound_u.queue m was_queued

  -- the call in which it waits names the mutex
  waiter_named : named_by queued_line.request ≡ m
  waiter_named = waits-named queued_line.request m m0 queued_line.waits

  -- what the kernel knows of it then, and of the others
  seat_woken : seat_at k u ≡ record (seat_at s.kernel u) { status = Ready WokenOwns }
  seat_woken = handed_seat_same u m s.kernel added

  pub seat_kept : (j : ℕ) → j ≢ u → seat_at k j ≡ seat_at s.kernel j
  seat_kept j d = handed_seat_other u m s.kernel j d

  -- each lives that lived
  ended_kept : (j : ℕ) → has_ended (seat_at k j).status ≡ has_ended (seat_at s.kernel j).status
  ended_kept j = go (cases_eq j u)
    where
      go : (j ≡ u) ⊎ (j ≢ u) → has_ended (seat_at k j).status ≡ has_ended (seat_at s.kernel j).status
      go (inl e) = subst (λ i. has_ended (seat_at k i).status ≡ has_ended (seat_at s.kernel i).status) (sym e)
          (ap (λ (y : Seat). has_ended y.status) seat_woken ∙ sym (ap has_ended was_queued))
      go (inr d) = ap (λ (y : Seat). has_ended y.status) (seat_kept j d)

  pub living_kept : (j : ℕ) → is_living k j ≡ is_living s.kernel j
  living_kept j = λ i. if handed_has u m s.kernel j i then (if ended_kept j i then false else true) else false

  -- the two threads that change
  abbrev Two : ℕ → Type 0
  Two j = (j ≡ t) ⊎ (j ≡ u)

  -- it is a call on m by which the two change
  call : IsCallOn Two (bound_to s) s.kernel k m
  call = record {
    limits = handed_limits u m s.kernel;
    seats = handed_length u m s.kernel;
    status = λ j d. ap (λ (y : Seat). y.status) (seat_kept j (λ e. d (inr e)));
    living = living_kept;
    states = λ j d. handed_state_other u m s.kernel j d;
    waited = λ j d. ap (λ ws. has_waiter ws j) (handed_waiters u m s.kernel)
        ∙ has_waiter-without_other s.kernel.waiters u m j h.kernel.once (next-waited s.kernel h.kernel m h.state) d;
    targets = same_targets (bound_to s) s.kernel k (handed_parked u m s.kernel);
  }

  -- the owner state of m
  state_left : state_at k m ≡ (if has_waiter k.waiters m then u else 0)
  state_left =
      handed_state_same u m s.kernel h.kernel (omega (
        arith,
        ml,
        h.sound.shape.few_mutexes,
        h.sound.shape.within.mutexes,
      ))
      ∙ ap (λ ws. if has_waiter ws m then u else 0) (sym (handed_waiters u m s.kernel))

  -- m then
  abbrev pub left : Cell
  left = cell_written m x a 1 k s

  -- the mutex is sound then
  cell_handed : CellIsSound (has_thread s) (has_waiter k.waiters m) left
  cell_handed = record {
    count = held_once (cell_at s m).kind x.number 1 refl;
    stalled = h.stalled;
    owner = λ z. ap (has_thread s) h.number ∙ added;
    free = λ z. absurd (u0 (sym h.number ∙ z));
    clean = λ z. absurd (u0 (sym h.number ∙ z));
    state = state_left ∙ ap (λ n. if has_waiter k.waiters m then n else 0) (sym h.number);
    contended = λ z. h.waiters;
  }

  -- the change
  change : Changes Two s handed m
  change = changes s t m l r x a 1 k h.somebody h.lined h.row ml h.sound.shape (inl refl) call (λ e. absurd (m0 e))
      (λ e. cell_handed)
      (λ e b z d. absurd (d (inr h.number)))
      (λ j z d. record {
        kind = refl;
        robust = refl;
        owner = λ o. absurd (d (inl (sym o ∙ h.own)));
        other = λ o y. d (inr (sym y ∙ h.number));
        same = λ o. absurd (d (inl (sym o ∙ h.own)));
        ended = λ b z e. absurd (true≢false (sym (h.living b) ∙ ap (is_living s.kernel) (sym h.own) ∙ e));
      })

  -- t's line, and u's
  pub line_t : line_at handed t ≡ l
  line_t = line_here s t m l r x a 1 k h.somebody h.lined h.row ml h.sound.shape

  line_u : line_at handed u ≡ At queued_line.request queued_line.place
  line_u = line_there s t m l r x a 1 k h.somebody h.lined h.row ml h.sound.shape u other ∙ queued_line.line

  list_u : robust_at handed.lists u ≡ robust_at s.lists u
  list_u = list_there s t m l r x a 1 k h.somebody h.lined h.row ml h.sound.shape u other

  -- m then
  pub cell_m : cell_at handed m ≡ left
  cell_m = cell_here s t m l r x a 1 k h.somebody h.lined h.row ml h.sound.shape

  -- u's robust list: m, which is at an unlinked place, is not on it
  row_u : ListIsSound s u (At queued_line.request queued_line.place)
  row_u = subst (ListIsSound s u) queued_line.line sound_u.list

  unlinked_line : mutex_by is_unlinked (At queued_line.request queued_line.place) ≡ m
  unlinked_line = ap (λ b. if b then named_by queued_line.request else 0)
      (queued_unlinked queued_line.place queued_line.queued) ∙ waiter_named

  unsettled_line : mutex_by is_unsettled (At queued_line.request queued_line.place) ≡ m
  unsettled_line = ap (λ b. if b then named_by queued_line.request else 0)
      (queued_unsettled queued_line.place queued_line.queued) ∙ waiter_named

  m_of_line : (if m == mutex_by is_unlinked (At queued_line.request queued_line.place) then false else true) ≡ false
  m_of_line = ap (λ b. if b then false else true)
      (eq-eqb m (mutex_by is_unlinked (At queued_line.request queued_line.place)) (sym unlinked_line))

  lists_u : ListsAfter s u m left (At queued_line.request queued_line.place) (robust_at s.lists u)
  lists_u = record {
    pending = row_u.pending;
    half_linked = row_u.half_linked;
    others = λ j d. refl;
    own = row_u.listed m ∙ never (if has_mutex s m then (if
        (library_at s m).robust then (word_at s.words m).number == u else false) else false)
        ∙ sym (never (if (library_at s m).robust then x.number == u else false));
    settled = λ o d. absurd (d (sym unsettled_line));
  }
    where
      never : (b : Bool) → (if b then (if m == mutex_by is_unlinked (At queued_line.request queued_line.place)
          then false else true) else false) ≡ false
      never b = ap (λ y. if b then y else false) m_of_line ∙ either b
        where
          either : (b : Bool) → (if b then false else false) ≡ false
          either true = refl
          either false = refl

  -- u is sound then
  taker_sound : ThreadIsSound handed u
  taker_sound = record {
    line = subst (LineIsSound handed u) (sym line_u) (record {
      named = known_still change.mutexes (λ i. refl) queued_line.request call_u.named;
      belongs = call_u.belongs;
      needs = subst (λ x. MeetsAll (is_living k) u x (cell_at handed (named_by queued_line.request))
          (use_at s queued_line.request) (needs queued_line.place)) (sym (ap (λ (y : Seat). y.status) seat_woken))
          (subst (λ d. MeetsAll (is_living k) u (Ready WokenOwns) d (use_at s queued_line.request)
          (needs queued_line.place)) (sym (ap (cell_at handed) waiter_named ∙ cell_m))
          (handed_needs (is_living s.kernel) (is_living k) u m (cell_at s (named_by queued_line.request)) left
          (use_at s queued_line.request) queued_line.place queued_line.queued
          (subst (λ x. MeetsAll (is_living s.kernel) u x (cell_at s (named_by queued_line.request))
          (use_at s queued_line.request) (needs queued_line.place)) was_queued call_u.needs)
          h.number refl h.disorder));
    });
    queue = λ j z. absurd (ready-not_queued (Ready WokenOwns) j refl (sym (ap (λ (y : Seat). y.status) seat_woken) ∙ z));
    parked = λ j z. absurd (ready-not_parked (Ready WokenOwns) j refl (sym (ap (λ (y : Seat). y.status) seat_woken) ∙ z));
    list = subst (ListIsSound handed u) (sym line_u)
        (lists_after s handed u m (At queued_line.request queued_line.place)
        (At queued_line.request queued_line.place) waiter_named waiter_named h.named
        change.mutexes change.robust change.cells row_u
        (subst (λ d. ListsAfter s u m d (At queued_line.request queued_line.place) (robust_at handed.lists u)) (sym cell_m)
        (subst (ListsAfter s u m left (At queued_line.request queued_line.place)) (sym list_u) lists_u)));
    settled = subst (λ b. (j : ℕ) → has_mutex handed j ≡ true → (word_at handed.words j).number ≡ u
        → j ≢ mutex_by is_unsettled b → ((word_at handed.words j).died ≡ false) × (health_word_at handed.words j ≢ 2))
        (sym line_u)
        (settled_after s handed u m (At queued_line.request queued_line.place)
        (At queued_line.request queued_line.place) waiter_named change.mutexes change.cells
        (subst (λ b. (j : ℕ) → has_mutex s j ≡ true → (word_at s.words j).number ≡ u → j ≢ mutex_by is_unsettled b
        → ((word_at s.words j).died ≡ false) × (health_word_at s.words j ≢ 2)) queued_line.line sound_u.settled)
        (λ o d. absurd (d (sym unsettled_line))));
  }
    where
      call_u : CallIsSound s u queued_line.request queued_line.place
      call_u = subst (LineIsSound s u) queued_line.line sound_u.line

  -- the table is sound, save for t
  pub handed_sound : SoundExcept (λ j. j ≡ t) handed
  handed_sound = admit (λ j. j ≡ t) u by_two (lives (living_kept u ∙ living_u) taker_sound)
      (change_kept (exempt_all Two (λ j e. inl e) h.sound) change)
    where
      by_two : (j : ℕ) → Two j → (j ≡ u) ⊎ (j ≡ t)
      by_two j (inl e) = inr e
      by_two j (inr e) = inl e

  -- and its kernel is one
  pub handed_kernel : IsKernel k
  handed_kernel = hand_over_kept m s.kernel h.kernel h.state

  -- the same mutexes are there, of which another is as it was
  pub handed_mutexes : (j : ℕ) → has_mutex handed j ≡ has_mutex s j
  handed_mutexes = change.mutexes

  pub handed_robust : (j : ℕ) → (library_at handed j).robust ≡ (library_at s j).robust
  handed_robust = change.robust

  pub handed_cells : (j : ℕ) → j ≢ m → cell_at handed j ≡ cell_at s j
  handed_cells = change.cells

  -- t's status is as it was
  pub status_t : status_at handed t ≡ status_at s t
  status_t = ap (λ (y : Seat). y.status) (seat_kept t (λ e. other (sym e)))

  -- IN THE POSIX MACHINE

  -- the call of a third thread has come as far as before
  calls : (j : ℕ) → j ≢ t → j ≢ u
      → call_at (health_at handed) (uses_of s) (line_at s j) (status_at s j) ≡ shown_call s j
  calls j d e = by_test (λ b. is_living s.kernel j ≡ b → call_at (health_at handed) (uses_of s) (line_at s j)
      (status_at s j) ≡ shown_call s j) (is_living s.kernel j)
      (λ i _. call_there s t m l r x a 1 k h.somebody h.lined h.row ml h.sound.shape j
      (inr (λ o. d (sym o ∙ h.own))) (h.sound.threads j i d))
      (λ i _. subst (λ b. call_at (health_at handed) (uses_of s) b (status_at s j)
      ≡ call_at (health_at s) (uses_of s) b (status_at s j)) (sym (h.sound.absent j i d).line) refl) refl

  -- how often the variable of u's call was used
  abbrev uses_u : ℕ
  uses_u = uses_of s (variable_of queued_line.request)

  -- u's call takes m
  takes : call_at (health_at handed) (uses_of s) (line_at s u) (seat_at k u).status
      ≡ Some (record { request = queued_line.request; progress = on_taking (health_of a x.died) })
  takes =
      ap₂ (λ (b : Line) (y : Seat). call_at (health_at handed) (uses_of s) b y.status) queued_line.line seat_woken
      ∙ ap (λ p. Some (record { request = queued_line.request; progress = p }))
      (queued_takes queued_line.request queued_line.place (health_at handed (named_by queued_line.request)) uses_u
      queued_line.queued
      ∙ ap (λ j. on_taking (health_at handed j)) waiter_named
      ∙ ap (λ (d : Cell). on_taking (health_of d.health d.word.died)) cell_m)

  -- u's call has taken m
  taken_call : call_at (health_at handed) (uses_of s) (line_at s u) (seat_at k u).status ≡ at_progress
      (on_taking (health_of a x.died)) (shown_call s u)
  taken_call = takes
      ∙ ap (λ (b : Line). at_progress (on_taking (health_of a x.died))
      (call_at (health_at s) (uses_of s) b (status_at s u))) (sym queued_line.line)

  -- if t goes on to no wait or use, who was found blocked stays so
  pub handed_frames : Follows (line_at s t) l → (may_enlist (line_at s t) ≡ false → WasBlockedIn s handed t)
      → Frames s handed
  handed_frames follows here = frames_by s handed t (length-set s.lines t l)
      (λ j d. line_there s t m l r x a 1 k h.somebody h.lined h.row ml h.sound.shape j d)
      (λ j d. by_thread j d (cases_eq j u))
      (subst (Follows (line_at s t)) (sym line_t) follows) here
    where
      line_j : (j : ℕ) → j ≢ t → line_at handed j ≡ line_at s j
      line_j j d = line_there s t m l r x a 1 k h.somebody h.lined h.row ml h.sound.shape j d

      by_thread : (j : ℕ) → j ≢ t → (j ≡ u) ⊎ (j ≢ u) → WasBlockedIn s handed j
      by_thread j d (inl e) = was_not s handed j (λ c. ap (is_call_blocked c)
          (ap (λ b. call_at (health_at handed) (uses_of s) b (seat_at k j).status) (line_j j d)
          ∙ ap (λ i. call_at (health_at handed) (uses_of s) (line_at s i) (seat_at k i).status) e ∙ takes)
          ∙ call_unblocked queued_line.request (on_taking (health_of a x.died))
          (taking_unblocked (health_of a x.died)) c)
      by_thread j d (inr e) = was_same s handed j
          ((λ i. call_at (health_at handed) (uses_of s) (line_j j d i) (seat_kept j e i).status) ∙ calls j d e)
          (ap (λ (y : Seat). y.status) (seat_kept j e))

  -- the world that the table shows is w, if w has these threads, mutexes and waiters
  pub handed_shown : (y : HistoryVariables) (w : World) → length w.threads ≡ length s.lines → length w.mutexes ≡ length s.mutexes
      → w.waiters ≡ without s.kernel.waiters u
      → thread_at w t ≡ record (thread_shown s y t) { call = call_at (health_at handed) (uses_of s) l (status_at s t) }
      → thread_at w u ≡ record (thread_shown s y u) { call = at_progress (on_taking (health_of a x.died)) (shown_call s u) }
      → ((j : ℕ) → j < length s.lines → j ≢ t → j ≢ u → thread_at w j ≡ thread_shown s y j)
      → mutex_at w m ≡ record (mutex_shown s m) { owner = u; count = 1; health = health_of a x.died }
      → ((j : ℕ) → j ≢ m → mutex_at w j ≡ mutex_shown s j)
      → (world_of s y).variables ≡ w.variables → s.limits.signals ≡ w.signals → s.time ≡ w.time
      → world_of handed y ≡ w
  handed_shown y w b d waiters giver taker others it rest variables signals time =
      shows s t m l r x a 1 k h.somebody h.lined h.row ml h.sound.shape y w handed_sound.shape b d
      (handed_waiters u m s.kernel ∙ sym waiters)
      (thread_here s t m l r x a 1 k h.somebody h.lined h.row ml h.sound.shape y
      ∙ (λ i. record {
        base = (seat_kept t (λ e. other (sym e)) i).base;
        living = living_kept t i;
        call = call_at (health_at handed) (uses_of s) l (seat_kept t (λ e. other (sym e)) i).status;
        timer = timer_at s t;
        memory = memory_at y t;
      })
      ∙ sym giver)
      (λ j f z. thread_there s t m l r x a 1 k h.somebody h.lined h.row ml h.sound.shape y j z
      ∙ another j f z (cases_eq j u))
      ((λ i. record (mutex_shown s m) { owner = h.number i; count = 1; health = health_of a x.died }) ∙ sym it)
      (λ j z. sym (rest j z)) variables signals time
    where
      another : (j : ℕ) → j < length s.lines → j ≢ t → (j ≡ u) ⊎ (j ≢ u) → record {
        base = (seat_at k j).base;
        living = is_living k j;
        call = call_at (health_at handed) (uses_of s) (line_at s j) (seat_at k j).status;
        timer = timer_at s j;
        memory = memory_at y j;
      } ≡ thread_at w j
      another j f z (inl e) = subst (λ i. record {
        base = (seat_at k i).base;
        living = is_living k i;
        call = call_at (health_at handed) (uses_of s) (line_at s i) (seat_at k i).status;
        timer = timer_at s i;
        memory = memory_at y i;
      } ≡ thread_at w i) (sym e)
          ((λ i. record {
            base = (seat_woken i).base;
            living = living_kept u i;
            call = taken_call i;
            timer = timer_at s u;
            memory = memory_at y u;
          }) ∙ sym taker)
      another j f z (inr e) = (λ i. record {
        base = (seat_kept j e i).base;
        living = living_kept j i;
        call = (ap (λ (q : Seat). call_at (health_at handed) (uses_of s) (line_at s j) q.status) (seat_kept j e)
            ∙ calls j z e) i;
        timer = timer_at s j;
        memory = memory_at y j;
      }) ∙ sym (others j f z e)
