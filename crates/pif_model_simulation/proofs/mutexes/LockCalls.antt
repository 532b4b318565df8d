-- The lines of pthread_mutex_lock that make a kernel call: lock_pi, and stop.
use Rattle.std.proofs.Common.{List, set, get_or, nat_lt, ◌==◌, ◌≡◌, ◌≢◌, ◌⊎◌, inl, inr, ℕ, ◌<◌, Bool, true, false, [], ◌∷◌, ◌++◌, length, Result, Ok, Err, refl, sym, ap, ◌∙◌, subst, arith, if◌then◌else◌, eq-eqb, ne_eqb}
use Rattle.std.proofs.lemmas.Bool.{cases_eq, true≢false}
use Rattle.std.proofs.lemmas.List.{length-set, get_or-set_same, get_or-set_other}
use Rattle.pif_types.specs.declared.errors.Errno.{Errno}
use Rattle.pif_types.specs.declared.errors.Errno.TheVariants.{NoSuchThread, Deadlock}
use Rattle.pif_types.specs.declared.requests.Request.{Request}
use Rattle.pif_model.specs.declared.events.Seen.TheVariants.{Waits}
use Rattle.pif_model.specs.declared.lines.Line.TheVariants.{At}
use Rattle.pif_model.specs.declared.lines.Place.TheVariants.{CallKernel, StayQueued, Stop, StayStopped, Take, Clear}
use Rattle.pif_model.specs.declared.lines.TakeStep.TheVariants.{LoadWord}
use Rattle.pif_model.specs.declared.lines.Footing.TheVariants.{Unowned}
use Rattle.pif_model.specs.declared.lines.Status.TheVariants.{Queued, Parked, Stopped, Ended}
use Rattle.pif_model.specs.declared.lines.Took.{Took}
use Rattle.pif_model.specs.declared.lines.Took.TheVariants.{Owns as TookOwns, Queued as TookQueued}
use Rattle.pif_model.specs.Graph.{has_waiter, reaches_within}
use Rattle.pif_model.specs.Kinds.{relock_of}
use Rattle.pif_model.specs.Word.{mark_word, taken_word, word_at, health_word_at, has_word, set_word}
use Rattle.pif_model.specs.Posix.{named_by, variable_of, is_blocked, Mutex, Effect, Locks, mutex_at, is_orphaned, leads_to, with_progress}
use Rattle.pif_model.specs.World.Progress.{Waiting, Stuck, Has}
use Rattle.pif_model.specs.Posix.Effects.{none, then as first}
use Rattle.pif_model.specs.Posix.Locks.{own_normal, orphaned, cycle, joins}
use Rattle.pif_model.specs.PiKernel.{Kernel, Seat, has_seat, has_ended, no_seat, seat_at, state_at, is_ready, is_living, waits_for, lock_answer, words_after_lock, kernel_after_lock, kernel_after_queueing, kernel_after_stop}
use Rattle.pif_model.specs.Table.{Table, cell_at, has_thread, has_mutex, bound_to, uses_of, library_at, with_kernel, with_line, with_word}
use Rattle.pif_model.specs.Lines.{Outcome, ends_by, lock_by, lock_kernel, lock_stop}
use Rattle.pif_model.specs.RobustList.{robust_at}
use Rattle.pif_model.specs.Projection.{HistoryVariables, progress_at, health_at, world_of}
use Rattle.pif_model.specs.Soundness.{waited_in, CellIsSound, MayStopFor}
use Rattle.pif_model.specs.Soundness.MayStopFor.{own_normal as stops_own, orphaned as stops_orphaned}
use Rattle.pif_model_lemmas.proofs.Waiting.{by_test, has_waiter-push, or_true}
use Rattle.pif_model_lemmas.proofs.Numbers.{above_0, below, from_within}
use Rattle.pif_model_lemmas.proofs.kernel.Facts.{ready-not_ended}
use Rattle.pif_model_lemmas.proofs.kernel.Kept.{stop_kept, queueing_kept}
use Rattle.pif_model_lemmas.proofs.kernel.LineCases.{ends_by_cases}
use Rattle.pif_model_simulation.proofs.Shown.{mutex_seen, living_seen}
use Rattle.pif_model_simulation.proofs.Written.{written, written_is, same_word, same_health, same_list, same_library}
use Rattle.pif_model_simulation.proofs.Steps.{KeepsGo, GoKeeps, Going, waits_with, going_other, going_ready, going_stop}
use Rattle.pif_model_simulation.proofs.Agreement.{quiet}
use Rattle.pif_model_simulation.proofs.Does.{MayQueue, locking}
use Rattle.pif_model_simulation.proofs.Does.MayQueue.{in_lock, in_wait}
use Rattle.pif_model_simulation.proofs.Local.{going_cell, going_added}
use Rattle.pif_model_simulation.proofs.LocalLines.{goes, goes_alone, answers_alone, lists_by, row_same, row_other, settled_so_far}
use Rattle.pif_model_simulation.proofs.Owning.{state_from_none, state_agrees}
use Rattle.pif_model_simulation.proofs.mutexes.TakingLines.{takes_stalled, takes_to_load}
use Rattle.pif_model_simulation.proofs.Effective.{leads_seen}
use Rattle.pif_model_simulation.proofs.Called.HasTaken.{kept}
use Rattle.pif_model_simulation.proofs.Called.{IsOneCall, queueing_on, stop_on, called_sound, called_known, called_frames, called_shown}
use Rattle.pif_model_simulation.proofs.mutexes.LockLines.{locks, owner_seen, locking_belongs}

-- who lives is the same if the kernel knows something else of one thread, which may run and has not ended then
living_same : (k k' : Kernel) (t : ℕ) (x : Seat) → has_seat k t ≡ true → is_ready (seat_at k t).status ≡ true
    → has_ended x.status ≡ false
    → k'.seats ≡ set k.seats t x → (u : ℕ) → is_living k' u ≡ is_living k u
living_same k k' t x known ready alive e u =
    ap (λ (ss : List Seat). if (if u == 0 then false else nat_lt u (length ss))
    then (if has_ended (get_or ss u no_seat).status then false else true) else false) e
    ∙ (λ i. if (if u == 0 then false else nat_lt u (length-set k.seats t x i))
    then (if ended (cases_eq u t) i then false else true) else false)
  where
    ended : (u ≡ t) ⊎ (u ≢ t) → has_ended (get_or (set k.seats t x) u no_seat).status ≡ has_ended (seat_at k u).status
    ended (inl q) = subst (λ j. has_ended (get_or (set k.seats t x) j no_seat).status ≡ has_ended
        (seat_at k j).status) (sym q)
        (ap (λ (y : Seat). has_ended y.status) (get_or-set_same k.seats t x no_seat (below t (length k.seats) known))
        ∙ alive ∙ sym (ready-not_ended (seat_at k t).status ready))
    ended (inr d) = ap (λ (y : Seat). has_ended y.status) (get_or-set_other k.seats t u x no_seat d)

-- such a request waits for its mutex
waits : {m : ℕ} {q : Request} → MayQueue m q → waited_in q ≡ m
waits (in_lock e) = ap waited_in e
waits (in_wait c e) = ap waited_in e

module _ (s : Table) (t : ℕ) (q : Request) (named : has_mutex s (named_by q) ≡ true) (may : MayQueue (named_by q) q) where
  abbrev m : ℕ
  m = named_by q

  -- STOP

  -- to stop is a call in which t goes to where it has stopped
  stop_one : (g : Going s t q Stop) → IsOneCall s t q Stop StayStopped (word_at s.words m)
      (kernel_after_stop t s.kernel)
  unfolding kernel_after_stop
  stop_one g = record {
    kernel = stop_kept t s.kernel g.sound.kernel (going_added g named) (going_ready g);
    call = stop_on (bound_to s) t m s.kernel living;
    others = λ u d. get_or-set_other s.kernel.seats t u (record (seat_at s.kernel t) { status = Stopped }) no_seat d;
    base = ap (λ x. x.base) here;
    number = kept refl;
    died = refl;
    cell = going_cell g named;
    belongs = locking_belongs may StayStopped refl;
    needs = (ap (λ x. x.status) here, tt);
    queue = λ j e. absurd (not_queued j (sym (ap (λ x. x.status) here) ∙ e));
    parked = λ j e. absurd (not_parked j (sym (ap (λ x. x.status) here) ∙ e));
    follows = quiet refl refl;
    blocked = λ j u e. absurd (true≢false (sym e));
    lists = lists_by g named refl refl (going_cell g named)
        (λ r. row_same g named r refl refl refl (λ o u. settled_so_far g named refl o));
  }
    where
      known : has_thread s t ≡ true
      known = going_added g named

      living : (u : ℕ) → is_living (kernel_after_stop t s.kernel) u ≡ is_living s.kernel u
      living u = living_same s.kernel (kernel_after_stop t s.kernel) t
          (record (seat_at s.kernel t) { status = Stopped }) known (going_ready g) refl refl u

      here : seat_at (kernel_after_stop t s.kernel) t ≡ record (seat_at s.kernel t) { status = Stopped }
      here = get_or-set_same s.kernel.seats t (record (seat_at s.kernel t) { status = Stopped }) no_seat
          (below t (length s.kernel.seats) (going_added g named))

      not_parked : (j : ℕ) → Stopped ≡ Parked j → ⊥
      not_parked j e = cc

      not_queued : (j : ℕ) → Stopped ≡ Queued j → ⊥
      not_queued j e = cc

  -- the owner, as the POSIX machine sees it, has ended
  orphaned_seen : (g : Going s t q Stop) (y : HistoryVariables) → (cell_at s m).robust ≡ false
      → (cell_at s m).word.number ≢ 0 → is_living s.kernel (cell_at s m).word.number ≡ false
      → is_orphaned (world_of s y) m ≡ true
  orphaned_seen g y r n e = rw (mutex_seen g.sound.all.shape y m, r, ne_eqb (cell_at s m).word.number 0 n)
      (ap (λ b. if b then false else true) (living_seen s y (cell_at s m).word.number g.sound.all.shape ∙ e))

  -- why it may stop is a rule of locking
  stops : (g : Going s t q Stop) (y : HistoryVariables) → MayStopFor (is_living s.kernel) t (cell_at s m)
      → Locks t m (world_of s y) (with_progress t Stuck (world_of s y))
  stops g y (stops_own own normal) = own_normal (owner_seen s t q named may g y ∙ own)
      (ap (λ (x : Mutex). relock_of x.kind) (mutex_seen g.sound.all.shape y m) ∙ normal) refl
  stops g y (stops_orphaned r n e) = orphaned (
    (λ z. true≢false (sym g.known ∙ ap (is_living s.kernel) (sym (sym (owner_seen s t q named may g y) ∙ z)) ∙ e)),
    (λ z. n (sym (owner_seen s t q named may g y) ∙ z)),
    orphaned_seen g y r n e,
  ) refl

  -- lock: stop for good
  pub lock_stop_kept : Going s t q Stop → GoKeeps s t (lock_stop q t s)
  unfolding lock_stop kernel_after_stop
  lock_stop_kept g =
      let c = stop_one g in
      let k = kernel_after_stop t s.kernel in
      subst (KeepsGo s t Waits)
      (written_is t m (At q StayStopped) (robust_at s.lists t) (word_at s.words m) (health_word_at s.words m)
      (library_at s m).count k s (same_word s m) (same_health s m) (same_list s t) (same_library s m))
      (waits_with g (written t m (At q StayStopped) (robust_at s.lists t) (word_at s.words m)
      (health_word_at s.words m) (library_at s m).count k s)
      (called_sound g named StayStopped (word_at s.words m) k c) refl
      (called_known g named StayStopped (word_at s.words m) k c) (ap is_ready c.needs.0)
      (called_frames g named StayStopped (word_at s.words m) k c)
      (λ y. first (locks s t q named may g refl y (with_progress t Stuck (world_of s y)) (stops g y (going_stop g)))
      (none (called_shown g named StayStopped (word_at s.words m) k c y Stuck refl refl))))

  -- LOCK_PI

  -- m is there, and has a word
  word_there : (g : Going s t q CallKernel) → has_word s.words m ≡ true
  word_there g = from_within m (length s.words.mutexes) (above_0 m (length s.mutexes) named)
      (omega (
        arith,
        below m (length s.mutexes) named,
        g.sound.all.shape.words,
        g.sound.all.shape.few_mutexes,
      ))

  -- what lock_pi answers if nobody owns m
  answer_free : (g : Going s t q CallKernel) → (cell_at s m).word.number ≡ 0
      → lock_answer t m s.words s.kernel ≡ Ok TookOwns
  unfolding lock_answer
  answer_free g zero = rw (
    word_there g,
    ne_eqb (cell_at s m).word.number t (going_other g),
    eq-eqb (cell_at s m).word.number 0 zero,
    eq-eqb (cell_at s m).state_owner 0 (state_from_none c (c.free zero)),
  ) refl
    where
      c : CellIsSound (has_thread s) (has_waiter s.kernel.waiters m) (cell_at s m)
      c = going_cell g named

  -- whether its owner lives, and whether a chain leads from the owner to t
  abbrev lives_owner : Bool
  lives_owner = is_living s.kernel (cell_at s m).word.number

  abbrev closes : Bool
  closes = reaches_within (length s.kernel.seats) (waits_for s.kernel) (cell_at s m).word.number t

  -- what it answers if somebody owns m
  answer_owned : (g : Going s t q CallKernel) → (cell_at s m).word.number ≢ 0
      → lock_answer t m s.words s.kernel ≡ (if lives_owner then (if closes then Err Deadlock else Ok TookQueued)
      else Err NoSuchThread)
  unfolding lock_answer
  answer_owned g owned = rw (
    word_there g,
    ne_eqb (cell_at s m).word.number t (going_other g),
    ne_eqb
        (cell_at s m).word.number 0 owned,
    state_agrees (going_cell g named),
  ) refl

  module _ (g : Going s t q CallKernel) (owned : (cell_at s m).word.number ≢ 0) where
    -- the owner is another, and there is one, as the POSIX machine sees it
    other_seen : (y : HistoryVariables) → (mutex_at (world_of s y) m).owner ≢ t
    other_seen y z = going_other g (sym (owner_seen s t q named may g y) ∙ z)

    owned_seen : (y : HistoryVariables) → (mutex_at (world_of s y) m).owner ≢ 0
    owned_seen y z = owned (sym (owner_seen s t q named may g y) ∙ z)

    -- a mutex whose owner lives is not orphaned
    not_orphaned : (y : HistoryVariables) → lives_owner ≡ true → is_orphaned (world_of s y) m ≡ false
    not_orphaned y l = rw (
      mutex_seen g.sound.all.shape y m,
      ne_eqb (cell_at s m).word.number 0 owned,
      living_seen s y
          (cell_at s m).word.number g.sound.all.shape ∙ l,
    ) (either (cell_at s m).robust)
      where
        either : (b : Bool) → (if b then false else false) ≡ false
        either true = refl
        either false = refl

    -- chains from the owner, as the POSIX machine sees them
    chain_seen : (y : HistoryVariables) → leads_to (world_of s y) (mutex_at (world_of s y) m).owner t ≡ closes
    chain_seen y = ap (λ n. leads_to (world_of s y) n t) (owner_seen s t q named may g y)
        ∙ leads_seen g.sound y (cell_at s m).word.number t

    -- if a chain leads back, the lock is refused
    refused : lives_owner ≡ true → closes ≡ true → GoKeeps s t (ends_by t q m (Clear Unowned 35) 35 s)
    refused l e = ends_by_cases (GoKeeps s t) q (Clear Unowned 35) 35 t m s
        (λ robust. goes_alone g named (Has 35) (Clear Unowned 35) (quiet refl refl)
        (λ j u. absurd (true≢false (sym u))) (going_ready g) (locking_belongs may (Clear Unowned 35) refl) refl
        (going_ready g, (going_other g, (robust, tt))) effect
        (λ r. row_other g named r refl refl (going_other g) (going_other g)))
        (λ stalled. answers_alone g named 35 (going_ready g) effect
        (λ r. absurd (true≢false (sym r ∙ stalled))))
      where
        effect : (y : HistoryVariables) → Effect t (world_of s y) (with_progress t (Has 35) (world_of s y))
        effect y = locks s t q named may g refl y (with_progress t (Has 35) (world_of s y))
            (cycle (other_seen y, owned_seen y, not_orphaned y l) (chain_seen y ∙ e) refl)

    -- to queue t is a call in which t goes to where it is queued
    queue_one : lives_owner ≡ true → closes ≡ false
        → IsOneCall s t q CallKernel StayQueued (mark_word (word_at s.words m))
        (kernel_after_queueing t m (word_at s.words m).number s.kernel)
    unfolding kernel_after_queueing
    queue_one l e = record {
      kernel = queueing_kept t m (word_at s.words m).number s.kernel g.sound.kernel known
          (going_ready g) m0 few l agrees e;
      call = queueing_on (bound_to s) t m (word_at s.words m).number s.kernel living;
      others = λ u d. get_or-set_other s.kernel.seats t u (record (seat_at s.kernel t) { status = Queued m }) no_seat d;
      base = ap (λ x. x.base) here;
      number = kept refl;
      died = refl;
      cell = record {
        count = c.count;
        stalled = c.stalled;
        owner = c.owner;
        free = λ z. absurd (owned z);
        clean = λ z. absurd (owned z);
        state = owner_state ∙ ap (λ b. if b then (word_at s.words m).number else 0) (sym waited);
        contended = λ z. refl;
      };
      belongs = locking_belongs may StayQueued refl;
      needs = (
        (
          (λ z. absurd (not_stopped (sym (ap (λ x. x.status) here) ∙ z))),
          λ z. absurd
              (not_ended (sym (ap (λ x. x.status) here) ∙ z)),
        ),
        (
          (λ r. absurd (true≢false (sym r ∙ ap (λ x. is_ready x.status) here))),
          ((λ o. absurd (going_other g o)), ((λ o. absurd (going_other g o)), tt)),
        ),
      );
      queue = λ j z. record {
        request = q;
        place = StayQueued;
        line = refl;
        queued = refl;
        waits = waits may ∙ same j (sym (ap (λ x. x.status) here) ∙ z);
      };
      parked = λ j z. absurd (not_parked j (sym (ap (λ x. x.status) here) ∙ z));
      follows = quiet refl refl;
      blocked = λ j u e. absurd (true≢false (sym e ∙ ap (λ (x : Seat). is_blocked (progress_at q StayQueued x.status
          (health_at s m) (uses_of s (variable_of q)))) here));
      lists = lists_by g named {added = has_thread s} {waited = true} refl refl (record {
        count = c.count;
        stalled = c.stalled;
        owner = c.owner;
        free = λ z. absurd (owned z);
        clean = λ z. absurd (owned z);
        state = owner_state;
        contended = λ z. refl;
      }) (λ r. row_other g named r refl refl (going_other g) (going_other g));
    }
      where
        known : has_thread s t ≡ true
        known = going_added g named

        living : (u : ℕ) → is_living (kernel_after_queueing t m (word_at s.words m).number s.kernel) u ≡ is_living
            s.kernel u
        living u = living_same s.kernel (kernel_after_queueing t m (word_at s.words m).number s.kernel) t
            (record (seat_at s.kernel t) { status = Queued m }) known (going_ready g) refl refl u

        not_ended : Queued m ≡ Ended → ⊥
        not_ended z = cc

        c : CellIsSound (has_thread s) (has_waiter s.kernel.waiters m) (cell_at s m)
        c = going_cell g named

        m0 : m ≢ 0
        m0 = above_0 m (length s.mutexes) named

        few : m < 1025
        few = omega (
          arith,
          below m (length s.mutexes) named,
          g.sound.all.shape.few_mutexes,
          g.sound.all.shape.within.mutexes,
        )

        agrees : state_at s.kernel m ≢ 0 → state_at s.kernel m ≡ (word_at s.words m).number
        agrees n = by_test (λ b. state_at s.kernel m ≡ (if b then (word_at s.words m).number else 0)
            → state_at s.kernel m ≡ (word_at s.words m).number) (has_waiter s.kernel.waiters m)
            (λ _ z. z) (λ _ z. absurd (n z)) c.state

        here : seat_at (kernel_after_queueing t m (word_at s.words m).number s.kernel) t ≡ record (seat_at s.kernel t)
            { status = Queued m }
        here = get_or-set_same s.kernel.seats t (record (seat_at s.kernel t) { status = Queued m }) no_seat
            (below t (length s.kernel.seats) (going_added g named))

        waited : has_waiter (s.kernel.waiters ++ (t, m) ∷ []) m ≡ true
        waited = has_waiter-push s.kernel.waiters t m m ∙ rw (eq-eqb m m refl) (or_true (has_waiter s.kernel.waiters m))

        owner_state : state_at (kernel_after_queueing t m (word_at s.words m).number s.kernel) m
            ≡ (word_at s.words m).number
        owner_state = get_or-set_same s.kernel.states m (word_at s.words m).number 0
            (subst (λ j. m < j) (sym g.sound.kernel.shape.states) few)

        not_parked : (j : ℕ) → Queued m ≡ Parked j → ⊥
        not_parked j z = cc

        not_stopped : Queued m ≡ Stopped → ⊥
        not_stopped z = cc

        same : (j : ℕ) → Queued m ≡ Queued j → m ≡ j
        same j z = cc

    -- t is queued
    queues : lives_owner ≡ true → closes ≡ false
        → GoKeeps s t (record {
          seen = Waits;
          after = with_line t (At q StayQueued) (with_kernel
              (set_word s.words m (mark_word (word_at s.words m)))
              (kernel_after_queueing t m (word_at s.words m).number s.kernel) s);
        })
    unfolding kernel_after_queueing
    queues l e =
        let c = queue_one l e in
        let k = kernel_after_queueing t m (word_at s.words m).number s.kernel in
        let x = mark_word (word_at s.words m) in
        subst (KeepsGo s t Waits)
        (written_is t m (At q StayQueued) (robust_at s.lists t) x (health_word_at s.words m)
        (library_at s m).count k s refl (same_health s m) (same_list s t) (same_library s m))
        (waits_with g (written t m (At q StayQueued) (robust_at s.lists t) x (health_word_at s.words m)
        (library_at s m).count k s)
        (called_sound g named StayQueued x k c) refl (called_known g named StayQueued x k c)
        (unready c) (called_frames g named StayQueued x k c)
        (λ y. first (locks s t q named may g refl y (record (with_progress t Waiting (world_of s y))
        { waiters = s.kernel.waiters ++ (t, m) ∷ [] })
        (joins (other_seen y, owned_seen y, not_orphaned y l) (chain_seen y ∙ e) refl))
        (none (called_shown g named StayQueued x k c y Waiting refl
        (ap (λ z. progress_at q StayQueued z (health_at s m) (uses_of s (variable_of q))) (status_here))))))
      where
        status_here : (seat_at (kernel_after_queueing t m (word_at s.words m).number s.kernel) t).status ≡ Queued m
        status_here = ap (λ x. x.status) (get_or-set_same s.kernel.seats t
            (record (seat_at s.kernel t) { status = Queued m }) no_seat
            (below t (length s.kernel.seats) (going_added g named)))

        unready : IsOneCall s t q CallKernel StayQueued (mark_word (word_at s.words m))
            (kernel_after_queueing t m (word_at s.words m).number s.kernel)
            → is_ready (seat_at (kernel_after_queueing t m (word_at s.words m).number s.kernel) t).status ≡ false
        unready c = ap is_ready status_here

  -- the line, by its kernel call's answer
  abbrev by_call : Result Took Errno → Outcome
  by_call r = lock_by r q t m (with_kernel (words_after_lock t m r s.words)
      (kernel_after_lock t m r s.words s.kernel) s)

  -- lock: the kernel call lock_pi
  pub lock_kernel_kept : Going s t q CallKernel → GoKeeps s t (lock_kernel q t m s)
  unfolding lock_kernel lock_by words_after_lock kernel_after_lock
  lock_kernel_kept g = go (cases_eq (cell_at s m).word.number 0)
    where
      -- a mutex whose owner has ended is stalled
      stalled : (cell_at s m).word.number ≢ 0 → lives_owner ≡ false → (cell_at s m).robust ≡ false
      stalled owned l = by_test (λ b. (cell_at s m).robust ≡ b → b ≡ false) (cell_at s m).robust
          (λ _ r. absurd (true≢false (sym (g.sound.all.alive m named r owned (λ e. e)) ∙ l)))
          (λ _ _. refl) refl

      by_owner : (owned : (cell_at s m).word.number ≢ 0)
          → GoKeeps s t (by_call (if lives_owner then (if closes then Err Deadlock else Ok TookQueued) else Err
          NoSuchThread))
      by_owner owned = by_test (λ b. GoKeeps s t (by_call
          (if b then (if closes then Err Deadlock else Ok TookQueued) else Err NoSuchThread))) lives_owner
          (λ l. by_test (λ b. GoKeeps s t (by_call (if b then Err Deadlock else Ok TookQueued))) closes
          (λ e. refused g owned l e) (λ e. queues g owned l e))
          (λ l. goes g named Stop (quiet refl refl) (going_ready g)
          (locking_belongs may Stop refl) refl
          (going_ready g, (stops_orphaned (stalled owned l) owned l, tt))
          (λ r. absurd (true≢false (sym r ∙ stalled owned l))))

      go : ((cell_at s m).word.number ≡ 0) ⊎ ((cell_at s m).word.number ≢ 0) → GoKeeps s t (lock_kernel q t m s)
      go (inl zero) = subst (λ r. GoKeeps s t (by_call r)) (sym (answer_free g zero))
          (ends_by_cases (GoKeeps s t) q (Take LoadWord) 0 t m (with_word m (taken_word t (word_at s.words m)) s)
          (λ robust. takes_to_load g named (going_ready g) refl zero (locking may) robust
          (locking_belongs may (Take LoadWord) refl) refl refl)
          (λ stalled. takes_stalled g named (going_ready g) refl zero (locking may) stalled))
      go (inr owned) = subst (λ r. GoKeeps s t (by_call r)) (sym (answer_owned g owned)) (by_owner owned)
