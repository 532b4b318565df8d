-- The line of pthread_setschedprio: a thread's base priority changes, or the call is refused.
use Rattle.std.proofs.Common.{◌≡◌, ◌≢◌, ◌⊎◌, inl, inr, ℕ, ◌<◌, true, false, ◌==◌, nat_lt, length, None, Result, Ok, Err, refl, sym, ap, ◌∙◌, subst, if◌then◌else◌}
use Rattle.std.proofs.lemmas.Bool.{cases_eq}
use Rattle.std.proofs.lemmas.List.{length-set, get_or-set_same, get_or-set_other}
use Rattle.pif_types.specs.declared.errors.Errno.{Errno}
use Rattle.pif_types.specs.declared.errors.Errno.TheVariants.{NoSuchThread, Invalid}
use Rattle.pif_types.specs.declared.requests.Request.TheVariants.{SetPrio}
use Rattle.pif_model.specs.declared.lines.Line.TheVariants.{Idle, At}
use Rattle.pif_model.specs.declared.lines.Place.TheVariants.{SetPriority}
use Rattle.pif_model.specs.Graph.{is_priority}
use Rattle.pif_model.specs.Word.{word_at, health_word_at}
use Rattle.pif_model.specs.RobustList.{robust_at}
use Rattle.pif_model.specs.Posix.{Thread, World, SetsPriority, without_call, with_call_by, is_call_blocked, nobody, thread_at, with_base, with_progress}
use Rattle.pif_model.specs.Posix.Effect.{set_prio}
use Rattle.pif_model.specs.Posix.Effects.{none, then as first}
use Rattle.pif_model.specs.World.Progress.{Has}
use Rattle.pif_model.specs.Posix.SetsPriority.{no_priority, not_living, changed}
use Rattle.pif_model.specs.PiKernel.{Kernel, IsKernel, Seat, no_seat, seat_at, has_ended, is_ready, is_living, set_prio_answer, kernel_after_set_prio}
use Rattle.pif_model.specs.Table.{Table, has_mutex, bound_to, uses_of, status_at, line_at, library_at, with_line, with_kernel, timer_at}
use Rattle.pif_model.specs.Lines.{Outcome, answers, answered_by, set_priority}
use Rattle.pif_model.specs.Projection.{HistoryVariables, memory_at, call_at, health_at, thread_shown, world_of}
use Rattle.pif_model.specs.Soundness.{mutex_by, is_unsettled, ListIsSound, IsShaped, IsSound}
use Rattle.pif_model_lemmas.proofs.Waiting.{by_test}
use Rattle.pif_model_lemmas.proofs.Numbers.{below}
use Rattle.pif_model_lemmas.proofs.kernel.Facts.{living-added}
use Rattle.pif_model_lemmas.proofs.kernel.Kept.{set_prio_kept}
use Rattle.pif_model_simulation.proofs.WeakenedInvariant.{each_thread}
use Rattle.pif_model_simulation.proofs.Shown.{threads_shown, mutexes_shown, thread_seen, mutex_seen, living_seen, closed_progressed, call_progressed}
use Rattle.pif_model_simulation.proofs.Agreement.{Frames, quiet, was_not}
use Rattle.pif_model_simulation.proofs.Written.{IsCallOn, no_call, thread_here, thread_there, shows}
use Rattle.pif_model_simulation.proofs.Steps.{GoKeeps, Going, going_called, going_below, answers_with, going_ready}
use Rattle.pif_model_simulation.proofs.Lined.{t0, tl, tr, ml, lined_same, lined_sound, lined_frames, lined_call, lined_shown}

module _ (s : Table) (t u p : ℕ) (g : Going s t (SetPrio u p) SetPriority) where
  ready : is_ready (status_at s t) ≡ true
  ready = going_ready g

  -- t's robust list is that of a thread with no call open
  list : ListIsSound s t Idle
  list =
      let b : ListIsSound s t (At (SetPrio u p) SetPriority) = subst (ListIsSound s t) g.line
      (each_thread g.sound t g.known).list in
      record { pending = b.pending; half_linked = b.half_linked; listed = b.listed }

  settled : (m : ℕ) → has_mutex s m ≡ true → (word_at s.words m).number ≡ t → m ≢ 0
      → ((word_at s.words m).died ≡ false) × (health_word_at s.words m ≢ 2)
  settled m e o z = (each_thread g.sound t g.known).settled m e o (λ x. z (x ∙ ap (mutex_by is_unsettled) g.line))

  -- the table in which t's call is closed over this kernel
  abbrev v : Kernel → Table
  v k = with_line t Idle (with_kernel s.words k s)

  -- whatever the kernel's base priorities are then, it is sound
  closed_sound : (k : Kernel) → IsKernel k → IsCallOn (λ j. j ≡ t) (bound_to s) s.kernel k 0 → (seat_at k t).status ≡ status_at s t
      → IsSound (v k)
  closed_sound k kernel call same = lined_sound s t Idle g.sound g.known k kernel call same ready ready list settled

  -- and who was found blocked stays so
  closed_frames : (k : Kernel) → ((j : ℕ) → (seat_at k j).status ≡ status_at s j) → Frames s (v k)
  closed_frames k same = lined_frames s t Idle g.sound g.known k same (quiet refl refl)
      (λ e. was_not s (v k) t (λ c. ap (is_call_blocked c) (lined_call s t Idle g.sound g.known k)))

  -- the line, by its kernel call's answer
  abbrev by_call : Result (record {}) Errno → Outcome
  by_call r = answered_by r t (with_kernel s.words (kernel_after_set_prio u p r s.kernel) s)

  -- to answer n and leave the kernel, if that is an effect
  refuses : (n : ℕ) → ((y : HistoryVariables) → SetsPriority t u p (world_of s y) (with_progress t (Has n) (world_of s y)))
      → GoKeeps s t (answers t n s)
  refuses n rule =
      let sound = closed_sound s.kernel g.sound.kernel (no_call (λ j. j ≡ t) (bound_to s) s.kernel 0) refl in
      answers_with g (v s.kernel) n (λ y. with_progress t (Has n) (world_of s y)) sound refl g.known ready
      (closed_frames s.kernel (λ j. refl))
      (λ y. first (set_prio u p (going_called g y) (rule y)) (none refl))
      (λ y. call_progressed (world_of s y) t (Has n) _ (going_below g y) (going_called g y))
      (λ y. lined_shown s t Idle g.sound g.known y sound None refl
      ∙ sym (closed_progressed (world_of s y) t (Has n) (going_below g y)))

  -- THE PRIORITY CHANGES

  -- the kernel then
  abbrev k : Kernel
  k = kernel_after_set_prio u p (Ok (record {})) s.kernel

  -- what it knows of the thread, and of the others
  seat_u : is_living s.kernel u ≡ true → seat_at k u ≡ record (seat_at s.kernel u) { base = p }
  unfolding kernel_after_set_prio
  seat_u l = get_or-set_same s.kernel.seats u (record (seat_at s.kernel u) { base = p }) no_seat
      (below u (length s.kernel.seats) (living-added s.kernel u l))

  seat_else : (j : ℕ) → j ≢ u → seat_at k j ≡ seat_at s.kernel j
  unfolding kernel_after_set_prio
  seat_else j d = get_or-set_other s.kernel.seats u j (record (seat_at s.kernel u) { base = p }) no_seat d

  -- each has the status that it had
  status_same : is_living s.kernel u ≡ true → (j : ℕ) → (seat_at k j).status ≡ (seat_at s.kernel j).status
  status_same l j = go (cases_eq j u)
    where
      go : (j ≡ u) ⊎ (j ≢ u) → (seat_at k j).status ≡ (seat_at s.kernel j).status
      go (inl e) = subst (λ i. (seat_at k i).status ≡ (seat_at s.kernel i).status) (sym e)
          (ap (λ (x : Seat). x.status) (seat_u l))
      go (inr d) = ap (λ (x : Seat). x.status) (seat_else j d)

  -- and lives if it did
  living_same : is_living s.kernel u ≡ true → (j : ℕ) → is_living k j ≡ is_living s.kernel j
  unfolding kernel_after_set_prio
  living_same l j = λ i. if (if j == 0 then false else nat_lt j
      (length-set s.kernel.seats u (record (seat_at s.kernel u) { base = p }) i))
      then (if has_ended (status_same l j i) then false else true) else false

  -- it is a call by which nobody's status changes
  call : is_living s.kernel u ≡ true → IsCallOn (λ j. j ≡ t) (bound_to s) s.kernel k 0
  unfolding kernel_after_set_prio
  call l = record {
    limits = refl;
    seats = length-set s.kernel.seats u (record (seat_at s.kernel u) { base = p });
    status = λ j d. status_same l j;
    living = living_same l;
    states = λ j d. refl;
    waited = λ j d. refl;
    targets = λ i n e. inl e;
  }

  waiters_same : k.waiters ≡ s.kernel.waiters
  unfolding kernel_after_set_prio
  waiters_same = refl

  module _ (l : is_living s.kernel u ≡ true) (y : HistoryVariables) where
    abbrev w : World
    w = world_of s y

    -- the threads of the world in which the priority has changed
    rebased : (j : ℕ) → j < length s.lines
        → thread_at (with_base u p w) j ≡ record (thread_shown s y j) { base = (seat_at k j).base }
    rebased j f = go (cases_eq j u)
      where
        ul : u < length s.lines
        ul = subst (λ i. u < i) (sym g.sound.all.shape.lines)
            (below u (length s.kernel.seats) (living-added s.kernel u l))

        go : (j ≡ u) ⊎ (j ≢ u)
            → thread_at (with_base u p w) j ≡ record (thread_shown s y j) { base = (seat_at k j).base }
        go (inl e) = subst (λ i. thread_at (with_base u p w) i ≡ record (thread_shown s y i)
            { base = (seat_at k i).base }) (sym e)
            (get_or-set_same w.threads u (record (thread_at w u) { base = p }) nobody
            (subst (λ i. u < i) (sym (threads_shown g.sound.all.shape y)) ul)
            ∙ (λ i. record (thread_seen g.sound.all.shape y u ul i) { base = (sym (seat_u l) i).base }))
        go (inr d) = get_or-set_other w.threads u j (record (thread_at w u) { base = p }) nobody d
            ∙ thread_seen g.sound.all.shape y j f
            ∙ (λ i. record (thread_shown s y j) { base = (sym (seat_else j d) i).base })

    -- the world that the table shows
    rebased_shown : IsSound (v k) → world_of (v k) y ≡ with_call_by t without_call (with_base u p w)
    rebased_shown sound =
        let r : Thread = record (thread_at (with_base u p w) t) { call = None } in
        let long = length-set w.threads u (record (thread_at w u) { base = p }) in
        ap (λ x. world_of x y) (sym (lined_same s t Idle g.sound g.known k))
        ∙ shows s t 0 Idle (robust_at s.lists t) (word_at s.words 0) (health_word_at s.words 0)
        (library_at s 0).count k t0' tl' tr' ml' g.sound.all.shape y (with_call_by t without_call (with_base u p w))
        (subst IsShaped (sym (lined_same s t Idle g.sound g.known k)) sound.all.shape)
        (length-set (with_base u p w).threads t r ∙ long ∙ threads_shown g.sound.all.shape y)
        (mutexes_shown g.sound.all.shape y) waiters_same
        (thread_here s t 0 Idle (robust_at s.lists t) (word_at s.words 0) (health_word_at s.words 0)
        (library_at s 0).count k t0' tl' tr' ml' g.sound.all.shape y
        ∙ (λ i. record {
          base = (seat_at k t).base;
          living = living_same l t i;
          call = None;
          timer = timer_at s t;
          memory = memory_at y t;
        })
        ∙ sym (get_or-set_same (with_base u p w).threads t r nobody (subst (λ j. t < j) (sym long) (going_below g y))
        ∙ (λ i. record (rebased t tl' i) { call = None })))
        (λ j f d. thread_there s t 0 Idle (robust_at s.lists t) (word_at s.words 0) (health_word_at s.words 0)
        (library_at s 0).count k t0' tl' tr' ml' g.sound.all.shape y j d
        ∙ (λ i. record {
          base = (seat_at k j).base;
          living = living_same l j i;
          call = call_at (health_at (lined_same s t Idle g.sound g.known k i)) (uses_of s) (line_at s j)
              (status_same l j i);
          timer = timer_at s j;
          memory = memory_at y j;
        })
        ∙ sym (get_or-set_other (with_base u p w).threads t j r nobody d ∙ rebased j f))
        (sym (mutex_seen g.sound.all.shape y 0))
        (λ j d. sym (mutex_seen g.sound.all.shape y j)) refl refl refl
      where
        t0' : t ≢ 0
        t0' = t0 s t Idle g.sound g.known

        tl' : t < length s.lines
        tl' = tl s t Idle g.sound g.known

        tr' : t < length s.lists.threads
        tr' = tr s t Idle g.sound g.known

        ml' : 0 < length s.mutexes
        ml' = ml s t Idle g.sound g.known

  -- the priority changes
  changes_it : is_priority p ≡ true → is_living s.kernel u ≡ true → GoKeeps s t (answers t 0 (with_kernel s.words k s))
  changes_it prio l =
      let sound = closed_sound k (set_prio_kept u p s.kernel g.sound.kernel prio l) (call l) (status_same l t) in
      (answers_with g (v k) 0 (λ y. with_progress t (Has 0) (with_base u p (world_of s y))) sound limits known
      (ap is_ready (status_same l t) ∙ ready) (closed_frames k (status_same l))
      (λ y. first (set_prio u p (going_called g y) (changed prio (living_seen s y u g.sound.all.shape ∙ l) refl))
      (none refl))
      (λ y. call_progressed (with_base u p (world_of s y)) t (Has 0) _ (tw y)
      (ap (λ (x : Thread). x.call) (rebased l y t (tl s t Idle g.sound g.known)) ∙ sym
      (ap (λ (x : Thread). x.call) (thread_seen g.sound.all.shape y t (tl s t Idle g.sound g.known)))
      ∙ going_called g y))
      (λ y. rebased_shown l y sound ∙ sym (closed_progressed (with_base u p (world_of s y)) t (Has 0) (tw y))))
    where
      tw : (y : HistoryVariables) → t < length (with_base u p (world_of s y)).threads
      tw y = subst (λ j. t < j) (sym (length-set (world_of s y).threads u
          (record (thread_at (world_of s y) u) { base = p }))) (going_below g y)

      limits : (v k).limits ≡ s.limits
      limits = refl

      known : is_living (v k).kernel t ≡ true
      known = living_same l t ∙ g.known

  -- setprio: the kernel call set_prio
  pub set_priority_kept : GoKeeps s t (set_priority t u p s)
  unfolding set_priority answered_by set_prio_answer kernel_after_set_prio
  set_priority_kept = by_test (λ b. GoKeeps s t (by_call
      (if b then (if is_living s.kernel u then Ok (record {}) else Err NoSuchThread) else Err Invalid))) (is_priority p)
      (λ e. by_test (λ b. GoKeeps s t (by_call (if b then Ok (record {}) else Err NoSuchThread))) (is_living s.kernel u)
      (λ l. changes_it e l)
      (λ l. refuses 3 (λ y. not_living e (living_seen s y u g.sound.all.shape ∙ l) refl)))
      (λ e. refuses 22 (λ y. no_priority e refl))
