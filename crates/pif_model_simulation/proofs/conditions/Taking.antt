-- One thread is taken from a variable, for the mutex to which that is bound: the table stays sound, and in the POSIX
-- machine the thread is unblocked, and may lock the mutex.
use Rattle.std.proofs.Common.{◌≡◌, ◌≢◌, ◌⊎◌, inl, inr, ℕ, ◌<◌, Bool, true, false, ◌==◌, length, set, Some, refl, sym, ap, ◌∙◌, subst, arith, if◌then◌else◌, eq-eqb, ne_eqb, eqb-true}
use Rattle.std.proofs.lemmas.Bool.{cases_eq, true≢false}
use Rattle.std.proofs.lemmas.List.{set-get_or, set-set, get_or-set_same}
use Rattle.pif_types.specs.declared.requests.Request.TheVariants.{Wait}
use Rattle.pif_model.specs.declared.lines.Line.TheVariants.{Idle, At}
use Rattle.pif_model.specs.declared.lines.Place.TheVariants.{StayParked}
use Rattle.pif_model.specs.declared.lines.Status.TheVariants.{Ready, Queued, Parked}
use Rattle.pif_model.specs.declared.lines.Woken.{Woken}
use Rattle.pif_model.specs.declared.lines.Woken.TheVariants.{Owns as WokenOwns, Again as WokenAgain}
use Rattle.pif_model.specs.Graph.{has_waiter, reaches_within}
use Rattle.pif_model.specs.Word.{Word, taken_word, mark_word, word_at, health_word_at, set_word}
use Rattle.pif_model.specs.Posix.{Progress, Call, Mutex, World, Locks, nobody, thread_at, mutex_at, with_thread, with_mutex, is_blocked, with_progress, at_progress, with_call_by, after_unblocking, is_orphaned, leads_to, on_taking}
use Rattle.pif_model.specs.World.Progress.{Waiting, Reacquiring, Blocked}
use Rattle.pif_model.specs.Posix.Locks.{free, joins}
use Rattle.pif_model.specs.PiKernel.{Kernel, System, Seat, seat_at, has_seat, state_at, has_ended, is_parked, is_ready, is_woken_again, is_living, waits_for, has_parked, top_parked, without_parking, kernel_after_waking, kernel_after_queueing, after_taking}
use Rattle.pif_model.specs.RobustList.{robust_at}
use Rattle.pif_model.specs.Table.{Table, Cell, cell_at, has_thread, has_mutex, bound_to, library_at, status_at, line_at, with_kernel}
use Rattle.pif_model.specs.Projection.{HistoryVariables, progress_parked, health_at, world_of}
use Rattle.pif_model.specs.Soundness.{use_at, CallIsSound, CellIsSound, LineIsSound, IsParkedLine, MeetsAll, needs, IsSound}
use Rattle.pif_model_lemmas.proofs.Waiting.{by_test, has_waiter-push, or_true, or_false}
use Rattle.pif_model_lemmas.proofs.Numbers.{above_0, below}
use Rattle.pif_model_lemmas.proofs.kernel.Facts.{living-from_added, living-added}
use Rattle.pif_model_lemmas.proofs.kernel.Places.{queued_limits, queued_length, queued_has, queued_seat_same, queued_seat_other, queued_base, queued_state_other, queued_waiters}
use Rattle.pif_model_lemmas.proofs.kernel.Woken.{top-parked, top-added, woken_limits, woken_length, woken_seat_other, woken_seat_same, woken_base, woken_state, woken_waiters, woken_parked, kernel-woken, requeued_state_same, requeued_parked, kernel-requeued}
use Rattle.pif_model_lemmas.proofs.kernel.Taken.{taking-cases, may_queue-facts, woken_living}
use Rattle.pif_model_simulation.proofs.Facts.{call_bound}
use Rattle.pif_model_simulation.proofs.WeakenedInvariant.{aims, each_thread}
use Rattle.pif_model_simulation.proofs.Shown.{mutex_seen, living_seen}
use Rattle.pif_model_simulation.proofs.Agreement.{Frames, quiet, taking_unblocked}
use Rattle.pif_model_simulation.proofs.Written.{IsCallOn, written, written_is, same_word, same_health, same_list, same_library}
use Rattle.pif_model_simulation.proofs.Steps.{Going, going_named, going_called, going_below, going_bound, going_own_handed, going_once, going_behind}
use Rattle.pif_model_simulation.proofs.Local.{going_cell, ready-not_queued, ready-not_parked}
use Rattle.pif_model_simulation.proofs.LocalLines.{lists_by, row_other, row_pending, row_half_linked, row_unowned}
use Rattle.pif_model_simulation.proofs.Owning.{reworded}
use Rattle.pif_model_simulation.proofs.conditions.WaitLines.{wait_mutex}
use Rattle.pif_model_simulation.proofs.Effective.{leads_seen}
use Rattle.pif_model_simulation.proofs.conditions.Aims.{aims-unparked}
use Rattle.pif_model_simulation.proofs.conditions.Unblocking.{orphaned_same, chain_same}
use Rattle.pif_model_simulation.proofs.Called.HasTaken.{kept, taken}
use Rattle.pif_model_simulation.proofs.Called.{IsOneCall, called_sound, called_frames, called_shown, called_taken}

-- who lives lives, if one thread that has not ended is another, and has not either
lives_same : (k k' : Kernel) (u : ℕ) → ((v : ℕ) → has_seat k' v ≡ has_seat k v)
    → ((v : ℕ) → v ≢ u → seat_at k' v ≡ seat_at k v) → has_ended (seat_at k u).status ≡ false
    → has_ended (seat_at k' u).status ≡ false → (v : ℕ) → is_living k' v ≡ is_living k v
lives_same k k' u has other was is v =
    λ i. if has v i then (if ended (cases_eq v u) i then false else true) else false
  where
    ended : (v ≡ u) ⊎ (v ≢ u) → has_ended (seat_at k' v).status ≡ has_ended (seat_at k v).status
    ended (inl e) = subst (λ j. has_ended (seat_at k' j).status ≡ has_ended (seat_at k j).status) (sym e) (is ∙ sym was)
    ended (inr d) = ap (λ (x : Seat). has_ended x.status) (other v d)

-- how far a call has come after it was unblocked does not tell that
progress_unblocked : (w : World) (u : ℕ) (p : Progress) (k : Call) → u < length w.threads
    → (thread_at w u).call ≡ Some k → with_progress u p w ≡ with_progress u p (with_call_by u after_unblocking w)
progress_unblocked w u p k l e = λ i. record w { threads = sym threads i }
  where
    threads : (with_progress u p (with_call_by u after_unblocking w)).threads ≡ (with_progress u p w).threads
    threads = ap (λ x. set (with_call_by u after_unblocking w).threads u (record x { call = at_progress p x.call }))
        (get_or-set_same w.threads u (record (thread_at w u) { call = after_unblocking (thread_at w u).call }) nobody l)
        ∙ set-set w.threads u (record (thread_at w u) { call = after_unblocking (thread_at w u).call })
        (record (thread_at w u) { call = at_progress p (after_unblocking (thread_at w u).call) })
        ∙ ap (λ c. set w.threads u (record (thread_at w u) { call = c }))
        (ap (λ c. at_progress p (after_unblocking c)) e ∙ sym (ap (at_progress p) e))

-- these words and this kernel, in which u was taken from a variable for m: the table is sound, who was found blocked
-- stays so, and in the POSIX machine u was unblocked, and has locked m if anything
pub record TakesOne (s : Table) (u m : ℕ) (x : System) : Type 0 where
  pub sound : IsSound (with_kernel x.words x.kernel s)
  pub frames : Frames s (with_kernel x.words x.kernel s)
  pub living : (v : ℕ) → is_living x.kernel v ≡ is_living s.kernel v
  pub unparked : is_parked (seat_at x.kernel u).status ≡ false
  pub world : (y : HistoryVariables) → (world_of (with_kernel x.words x.kernel s) y ≡ with_call_by u after_unblocking (world_of s y))
      ⊎ Locks u m (with_call_by u after_unblocking (world_of s y)) (world_of (with_kernel x.words x.kernel s) y)

module _ (s : Table) (h : IsSound s) (c : ℕ) (some : has_parked s.kernel c ≡ true) where
  -- who is taken next, and the mutex
  abbrev pub u : ℕ
  u = top_parked s.kernel c

  abbrev pub m : ℕ
  m = bound_to s c

  pub was : status_at s u ≡ Parked c
  was = top-parked s.kernel h.kernel c some

  added : has_thread s u ≡ true
  added = top-added s.kernel h.kernel c some

  lives : is_living s.kernel u ≡ true
  lives = living-from_added s.kernel u added (ap has_ended was)

  at_line : IsParkedLine c (line_at s u)
  at_line = (each_thread h u lives).parked c was

  first_knows : CallIsSound s u (Wait c at_line.mutex) StayParked
  first_knows = subst (LineIsSound s u) at_line.line (each_thread h u lives).line

  -- its wait is on that mutex
  waits_on : at_line.mutex ≡ m
  waits_on = sym (eqb-true (bound_to s c) at_line.mutex (call_bound first_knows))

  pub line_u : line_at s u ≡ At (Wait c m) StayParked
  line_u = at_line.line ∙ ap (λ i. At (Wait c i) StayParked) waits_on

  -- its call, at the place where it is parked
  pub parked_going : Going s u (Wait c m) StayParked
  parked_going = record { sound = h; known = lives; line = line_u }

  named : has_mutex s m ≡ true
  named = wait_mutex s u c m (going_named parked_going)

  bound : (bound_to s c == m) ≡ true
  bound = going_bound parked_going

  -- it doesn't own it
  other : (word_at s.words m).number ≢ u
  other = (going_own_handed parked_going).1 (ap (λ x. if is_woken_again x then false else is_ready x) was)

  sound_m : CellIsSound (has_thread s) (has_waiter s.kernel.waiters m) (cell_at s m)
  sound_m = going_cell parked_going named

  u0 : u ≢ 0
  u0 = above_0 u (length s.kernel.seats) added

  few : m < 1025
  few = omega (arith, below m (length s.mutexes) named, h.all.shape.few_mutexes, h.all.shape.within.mutexes)

  -- its call is blocked, and was noted
  pub called_u : (y : HistoryVariables) → (thread_at (world_of s y) u).call
      ≡ Some (record { request = Wait c m; progress = Blocked true })
  called_u y = going_called parked_going y
      ∙ ap (λ x. Some (record { request = Wait c m; progress = progress_parked x (health_at s m) })) was

  -- a word, a kernel and u's line as it was
  as_written : (x : Word) (k : Kernel)
      → written u m (At (Wait c m) StayParked) (robust_at s.lists u) x (health_word_at s.words m)
      (library_at s m).count k s ≡ with_kernel (set_word s.words m x) k s
  as_written x k = written_is u m (At (Wait c m) StayParked) (robust_at s.lists u) x (health_word_at s.words m)
      (library_at s m).count k s refl (same_health s m) (same_list s u) (same_library s m)
      ∙ (λ i. record (with_kernel (set_word s.words m x) k s) { lines = lines i })
    where
      lines : set s.lines u (At (Wait c m) StayParked) ≡ s.lines
      lines = subst (λ l. set s.lines u l ≡ s.lines) line_u (set-get_or s.lines u Idle)

  -- WOKEN

  module _ (w : Woken) where
    abbrev woken : Kernel
    woken = kernel_after_waking u w s.kernel

    woken_here : seat_at woken u ≡ record (seat_at s.kernel u) { status = Ready w }
    woken_here = woken_seat_same u w s.kernel added

    woken_call : IsCallOn (λ i. i ≡ u) (bound_to s) s.kernel woken m
    woken_call = record {
      limits = woken_limits u w s.kernel;
      seats = woken_length u w s.kernel;
      status = λ i d. ap (λ (y : Seat). y.status) (woken_seat_other u w s.kernel i d);
      living = woken_living u m c (record { words = s.words; kernel = s.kernel }) h.kernel was w;
      states = λ i d. woken_state u w s.kernel i;
      waited = λ i d. ap (λ ws. has_waiter ws i) (woken_waiters u w s.kernel);
      targets = λ i n e. inl (aims-unparked s.kernel.parked u i n
          (sym (ap (λ ps. aims (record woken { parked = ps }) i n) (woken_parked u w s.kernel)) ∙ e));
    }

    -- a sound mutex is so with that kernel
    woken_cell : (d : Cell) → CellIsSound (has_thread s) (has_waiter s.kernel.waiters m)
        (record d { state_owner = state_at s.kernel m })
        → CellIsSound (has_thread s) (has_waiter woken.waiters m) (record d { state_owner = state_at woken m })
    woken_cell d e = subst (λ n. CellIsSound (has_thread s) (has_waiter woken.waiters m) (record d { state_owner = n }))
        (sym (woken_state u w s.kernel m))
        (subst (λ ws. CellIsSound (has_thread s) (has_waiter ws m) (record d { state_owner = state_at s.kernel m }))
        (sym (woken_waiters u w s.kernel)) e)

  -- neither way
  either : (b : Bool) → (if b then false else false) ≡ false
  either true = refl
  either false = refl

  -- U OWNS THE MUTEX

  module _ (zero : (word_at s.words m).number ≡ 0) where
    abbrev mine : Word
    mine = taken_word u (word_at s.words m)

    mine_sound : CellIsSound (has_thread s) (has_waiter s.kernel.waiters m) (record (cell_at s m) { word = mine })
    mine_sound = reworded sound_m mine (health_word_at s.words m) (sound_m.count.unowned zero) (sound_m.free zero)
        sound_m.stalled (λ n. added) (λ e. absurd (u0 e))

    -- a free mutex that is behind has OWNER_DIED
    behind : health_word_at s.words m ≡ 1 → (word_at s.words m).died ≡ true
    behind e = go (word_at s.words m).died refl
      where
        go : (b : Bool) → (word_at s.words m).died ≡ b → (word_at s.words m).died ≡ true
        go true d = d
        go false d = absurd ((sound_m.clean zero d).1 e)

    owns : IsOneCall s u (Wait c m) StayParked StayParked mine (woken WokenOwns)
    owns = record {
      kernel = kernel-woken u WokenOwns s.kernel h.kernel c was;
      call = woken_call WokenOwns;
      others = λ i d. woken_seat_other u WokenOwns s.kernel i d;
      base = woken_base u WokenOwns s.kernel u;
      number = taken zero refl;
      died = refl;
      cell = woken_cell WokenOwns (record (cell_at s m) { word = mine }) mine_sound;
      belongs = refl;
      needs = subst (λ x. MeetsAll (is_living s.kernel) u x
          (record (cell_at s m) { word = mine; state_owner = state_at (woken WokenOwns) m }) (use_at s (Wait c m))
          (needs StayParked)) (sym status) (
            ((λ z. cc), λ z. cc),
            (((λ z. refl), λ z. absurd (true≢false z)), ((λ o. sound_m.count.unowned zero), ((λ o. behind), (bound, tt)))),
          );
      queue = λ j e. absurd (ready-not_queued (Ready WokenOwns) j refl (sym status ∙ e));
      parked = λ j e. absurd (ready-not_parked (Ready WokenOwns) j refl (sym status ∙ e));
      follows = quiet refl refl;
      blocked = λ j f e. absurd (true≢false (sym e ∙ ap (λ x. is_blocked (progress_parked x (health_at s m))) status
          ∙ taking_unblocked (health_at s m)));
      lists = lists_by parked_going named refl refl
          (woken_cell WokenOwns (record (cell_at s m) { word = mine }) mine_sound) (λ r. record {
            pending = row_pending parked_going named r;
            half_linked = row_half_linked parked_going named r;
            others = λ j d. refl;
            own = row_unowned parked_going named r other ∙ sym (either (u == u));
            settled = λ o e. absurd (true≢false e);
          });
    }
      where
        status : (seat_at (kernel_after_waking u WokenOwns s.kernel) u).status ≡ Ready WokenOwns
        status = ap (λ (y : Seat). y.status) (woken_seat_same u WokenOwns s.kernel (top-added s.kernel h.kernel c some))

    takes_owning : TakesOne s u m (record { words = set_word s.words m mine; kernel = woken WokenOwns })
    takes_owning = record {
      sound = subst IsSound (as_written mine (woken WokenOwns))
          (called_sound parked_going named StayParked mine (woken WokenOwns) owns);
      frames = subst (Frames s) (as_written mine (woken WokenOwns))
          (called_frames parked_going named StayParked mine (woken WokenOwns) owns);
      living = owns.call.living;
      unparked = ap (λ (y : Seat). is_parked y.status) (woken_here WokenOwns);
      world = λ y. inr (free
          (λ e. other (sym (ap (λ (x : Mutex). x.owner) (mutex_seen h.all.shape y m)) ∙ e))
          (ap (λ (x : Mutex). x.owner) (mutex_seen h.all.shape y m) ∙ zero)
          (ap (λ v. world_of v y) (sym (as_written mine (woken WokenOwns)))
          ∙ called_taken parked_going named StayParked mine (woken WokenOwns) owns y
          (on_taking (mutex_at (world_of s y) m).health) refl (sound_m.count.unowned zero)
          (ap (λ (x : Seat). progress_parked x.status (health_at s m)) (woken_here WokenOwns)
          ∙ ap on_taking (sym (ap (λ (x : Mutex). x.health) (mutex_seen h.all.shape y m))))
          ∙ (λ i. record (with_progress u (on_taking (mutex_at (world_of s y) m).health)
          (with_mutex m (record (mutex_at (world_of s y) m) { owner = u; count = 1 }) (world_of s y)))
          { waiters = woken_waiters u WokenOwns s.kernel i })
          ∙ progress_unblocked (with_mutex m (record (mutex_at (world_of s y) m) { owner = u; count = 1 }) (world_of s y))
          u (on_taking (mutex_at (world_of s y) m).health) (record { request = Wait c m; progress = Blocked true })
          (going_below parked_going y) (called_u y)));
    }

  -- U IS WOKEN TO LOCK IT

  again : IsOneCall s u (Wait c m) StayParked StayParked (word_at s.words m) (woken WokenAgain)
  again = record {
    kernel = kernel-woken u WokenAgain s.kernel h.kernel c was;
    call = woken_call WokenAgain;
    others = λ i d. woken_seat_other u WokenAgain s.kernel i d;
    base = woken_base u WokenAgain s.kernel u;
    number = kept refl;
    died = refl;
    cell = woken_cell WokenAgain (cell_at s m) sound_m;
    belongs = refl;
    needs = subst (λ x. MeetsAll (is_living s.kernel) u x
        (record (cell_at s m) { state_owner = state_at (woken WokenAgain) m }) (use_at s (Wait c m))
        (needs StayParked)) (sym status) (
          ((λ z. cc), λ z. cc),
          (((λ z. absurd (true≢false (sym z))), λ z. other), (going_once parked_going, (going_behind parked_going, (bound, tt)))),
        );
    queue = λ j e. absurd (ready-not_queued (Ready WokenAgain) j refl (sym status ∙ e));
    parked = λ j e. absurd (ready-not_parked (Ready WokenAgain) j refl (sym status ∙ e));
    follows = quiet refl refl;
    blocked = λ j f e. absurd (true≢false (sym e ∙ ap (λ x. is_blocked (progress_parked x (health_at s m))) status));
    lists = lists_by parked_going named refl refl (woken_cell WokenAgain (cell_at s m) sound_m)
        (λ r. row_other parked_going named r refl refl other other);
  }
    where
      status : (seat_at (kernel_after_waking u WokenAgain s.kernel) u).status ≡ Ready WokenAgain
      status = ap (λ (y : Seat). y.status) (woken_seat_same u WokenAgain s.kernel (top-added s.kernel h.kernel c some))

  -- the words are what they were
  as_woken : written u m (At (Wait c m) StayParked) (robust_at s.lists u) (word_at s.words m) (health_word_at s.words m)
      (library_at s m).count (woken WokenAgain) s ≡ with_kernel s.words (woken WokenAgain) s
  as_woken = as_written (word_at s.words m) (woken WokenAgain)
      ∙ (λ i. with_kernel (record s.words { mutexes = same_word s m i }) (woken WokenAgain) s)

  takes_waking : TakesOne s u m (record { words = s.words; kernel = woken WokenAgain })
  takes_waking = record {
    sound = subst IsSound as_woken
        (called_sound parked_going named StayParked (word_at s.words m) (woken WokenAgain) again);
    frames = subst (Frames s) as_woken
        (called_frames parked_going named StayParked (word_at s.words m) (woken WokenAgain) again);
    living = again.call.living;
    unparked = ap (λ (y : Seat). is_parked y.status) (woken_here WokenAgain);
    world = λ y. inl (ap (λ v. world_of v y) (sym as_woken)
        ∙ called_shown parked_going named StayParked (word_at s.words m) (woken WokenAgain) again y Reacquiring refl
        (ap (λ (x : Seat). progress_parked x.status (health_at s m)) (woken_here WokenAgain))
        ∙ (λ i. record (with_progress u Reacquiring (world_of s y)) { waiters = woken_waiters u WokenAgain s.kernel i })
        ∙ ap (λ k. with_thread u (record (thread_at (world_of s y) u) { call = k }) (world_of s y))
        (ap (at_progress Reacquiring) (called_u y) ∙ sym (ap after_unblocking (called_u y))));
  }

  -- U IS QUEUED

  module _ (owned : (word_at s.words m).number ≢ 0) (alive : is_living s.kernel (word_at s.words m).number ≡ true)
      (open_end : reaches_within (length s.kernel.seats) (waits_for s.kernel) (word_at s.words m).number u ≡ false) where
    -- the kernel from which it has left its variable, and the one in which it is queued
    abbrev left : Kernel
    left = without_parking u s.kernel

    abbrev queued : Kernel
    queued = kernel_after_queueing u m (word_at s.words m).number left

    queued_here : seat_at queued u ≡ record (seat_at s.kernel u) { status = Queued m }
    queued_here = queued_seat_same u m (word_at s.words m).number left added

    agrees : state_at s.kernel m ≢ 0 → state_at s.kernel m ≡ (word_at s.words m).number
    agrees n = by_test (λ b. state_at s.kernel m ≡ (if b then (word_at s.words m).number else 0)
        → state_at s.kernel m ≡ (word_at s.words m).number) (has_waiter s.kernel.waiters m)
        (λ _ z. z) (λ _ z. absurd (n z)) sound_m.state

    waited : has_waiter queued.waiters m ≡ true
    waited = ap (λ ws. has_waiter ws m) (queued_waiters u m (word_at s.words m).number left)
        ∙ has_waiter-push s.kernel.waiters u m m ∙ rw (eq-eqb m m refl) (or_true (has_waiter s.kernel.waiters m))

    queued_cell : CellIsSound (has_thread s) (has_waiter queued.waiters m)
        (record (cell_at s m) { word = mark_word (word_at s.words m); state_owner = state_at queued m })
    queued_cell = record {
      count = sound_m.count;
      stalled = sound_m.stalled;
      owner = sound_m.owner;
      free = λ z. absurd (owned z);
      clean = λ z. absurd (owned z);
      state = requeued_state_same u m (word_at s.words m).number s.kernel h.kernel few
          ∙ ap (λ b. if b then (word_at s.words m).number else 0) (sym waited);
      contended = λ z. refl;
    }

    queues : IsOneCall s u (Wait c m) StayParked StayParked (mark_word (word_at s.words m)) queued
    queues = record {
      kernel = kernel-requeued u m (word_at s.words m).number s.kernel h.kernel c was
          (above_0 m (length s.mutexes) named) few (living-added s.kernel (word_at s.words m).number alive) agrees
          open_end;
      call = record {
        limits = queued_limits u m (word_at s.words m).number left;
        seats = queued_length u m (word_at s.words m).number left;
        status = λ i d. ap (λ (y : Seat). y.status) (queued_seat_other u m (word_at s.words m).number left i d);
        living = lives_same s.kernel queued u (queued_has u m (word_at s.words m).number left)
            (queued_seat_other u m (word_at s.words m).number left) (ap has_ended was)
            (ap (λ (y : Seat). has_ended y.status) queued_here);
        states = λ i d. queued_state_other u m (word_at s.words m).number left i d;
        waited = λ i d. ap (λ ws. has_waiter ws i) (queued_waiters u m (word_at s.words m).number left)
            ∙ has_waiter-push s.kernel.waiters u m i ∙ rw (ne_eqb m i (λ e. d (sym e)))
            (or_false (has_waiter s.kernel.waiters i));
        targets = λ i n e. inl (aims-unparked s.kernel.parked u i n
            (sym (ap (λ ps. aims (record queued { parked = ps }) i n)
            (requeued_parked u m (word_at s.words m).number s.kernel)) ∙ e));
      };
      others = λ i d. queued_seat_other u m (word_at s.words m).number left i d;
      base = queued_base u m (word_at s.words m).number left u;
      number = kept refl;
      died = refl;
      cell = queued_cell;
      belongs = refl;
      needs = subst (λ x. MeetsAll (is_living s.kernel) u x
          (record (cell_at s m) { word = mark_word (word_at s.words m); state_owner = state_at queued m })
          (use_at s (Wait c m)) (needs StayParked)) (sym status) (
            ((λ z. cc), λ z. cc),
            (
              ((λ z. absurd (true≢false (sym z))), λ z. other),
              ((λ o. absurd (other o)), ((λ o. absurd (other o)), (bound, tt))),
            ),
          );
      queue = λ j e. record {
        request = Wait c m;
        place = StayParked;
        line = refl;
        queued = refl;
        waits = same j (sym status ∙ e);
      };
      parked = λ j e. absurd (not_parked j (sym status ∙ e));
      follows = quiet refl refl;
      blocked = λ j f e. absurd (true≢false (sym e ∙ ap (λ x. is_blocked (progress_parked x (health_at s m))) status));
      lists = lists_by parked_going named refl refl queued_cell
          (λ r. row_other parked_going named r refl refl other other);
    }
      where
        status : (seat_at queued u).status ≡ Queued m
        status = ap (λ (y : Seat). y.status) (queued_seat_same u m (word_at s.words m).number (without_parking u s.kernel)
            (top-added s.kernel h.kernel c some))

        same : (j : ℕ) → Queued m ≡ Queued j → m ≡ j
        same j e = cc

        not_parked : (j : ℕ) → Queued m ≡ Parked j → ⊥
        not_parked j e = cc

    -- the owner that the POSIX machine sees, which lives, and from which no chain leads to u
    owner_seen : (y : HistoryVariables) → (mutex_at (world_of s y) m).owner ≡ (word_at s.words m).number
    owner_seen y = ap (λ (x : Mutex). x.owner) (mutex_seen h.all.shape y m)

    not_orphaned : (y : HistoryVariables) → is_orphaned (world_of s y) m ≡ false
    not_orphaned y = rw (
      mutex_seen h.all.shape y m,
      ne_eqb (cell_at s m).word.number 0 owned,
      living_seen s y (cell_at s m).word.number h.all.shape ∙ alive,
    ) (either (cell_at s m).robust)

    no_chain : (y : HistoryVariables) → leads_to (world_of s y) (mutex_at (world_of s y) m).owner u ≡ false
    no_chain y = ap (λ n. leads_to (world_of s y) n u) (owner_seen y)
        ∙ leads_seen h y (word_at s.words m).number u ∙ open_end

    takes_queueing : TakesOne s u m (record { words = set_word s.words m (mark_word (word_at s.words m)); kernel = queued })
    takes_queueing = record {
      sound = subst IsSound (as_written (mark_word (word_at s.words m)) queued)
          (called_sound parked_going named StayParked (mark_word (word_at s.words m)) queued queues);
      frames = subst (Frames s) (as_written (mark_word (word_at s.words m)) queued)
          (called_frames parked_going named StayParked (mark_word (word_at s.words m)) queued queues);
      living = queues.call.living;
      unparked = ap (λ (y : Seat). is_parked y.status) queued_here;
      world = λ y. inr (joins (
        (λ e. other (sym (owner_seen y) ∙ e)),
        (λ e. owned (sym (owner_seen y) ∙ e)),
        orphaned_same (world_of s y) u after_unblocking m ∙ not_orphaned y,
      )
          (chain_same (world_of s y) u after_unblocking (mutex_at (world_of s y) m).owner u ∙ no_chain y)
          (ap (λ v. world_of v y) (sym (as_written (mark_word (word_at s.words m)) queued))
          ∙ called_shown parked_going named StayParked (mark_word (word_at s.words m)) queued queues y Waiting refl
          (ap (λ (x : Seat). progress_parked x.status (health_at s m)) queued_here)
          ∙ (λ i. record (progress_unblocked (world_of s y) u Waiting
          (record { request = Wait c m; progress = Blocked true }) (going_below parked_going y) (called_u y) i)
          { waiters = queued_waiters u m (word_at s.words m).number left i })));
    }

  -- u is taken
  pub takes_one : TakesOne s u m (after_taking u m (record { words = s.words; kernel = s.kernel }))
  takes_one = taking-cases u m (record { words = s.words; kernel = s.kernel }) (TakesOne s u m)
      (λ e. takes_owning e)
      (λ d e. let r = may_queue-facts u (word_at s.words m).number s.kernel e in takes_queueing d r.0 r.1)
      (λ d e. takes_waking)
