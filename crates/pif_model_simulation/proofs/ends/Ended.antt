-- A thread has ended, and nothing that it owned has passed on yet: the table is sound, save for that thread, and shows
-- the world that the thread has left.
use Rattle.std.proofs.Common.{◌<◌, ◌≡◌, ◌≢◌, ◌⊎◌, inl, inr, ℕ, true, false, length, set, None, refl, sym, ap, ◌∙◌, subst, if◌then◌else◌}
use Rattle.std.proofs.lemmas.Bool.{cases_eq}
use Rattle.std.proofs.lemmas.List.{length-set, get_or-set_same, get_or-set_other}
use Rattle.pif_model.specs.declared.lines.Line.TheVariants.{Idle}
use Rattle.pif_model.specs.Graph.{has_waiter}
use Rattle.pif_model.specs.Word.{word_at}
use Rattle.pif_model.specs.Posix.{Thread, nobody, after_end, is_call_blocked, thread_at}
use Rattle.pif_model.specs.declared.lines.Status.TheVariants.{Ended}
use Rattle.pif_model.specs.PiKernel.{Kernel, IsKernel, state_at, is_living, kernel_after_leaving}
use Rattle.pif_model.specs.RobustList.{no_robust_row, robust_at, without_robust}
use Rattle.pif_model.specs.Table.{Table, has_thread, has_mutex, uses_of, status_at, line_at, timer_at, cell_at}
use Rattle.pif_model.specs.Projection.{HistoryVariables, memory_at, may_enlist, chooses_on, call_at, health_at, thread_shown, world_of}
use Rattle.pif_model.specs.Soundness.{CellIsSound, IsShaped, SoundExcept, IsSound}
use Rattle.pif_model_lemmas.proofs.kernel.Left.{mutex_left, waiters_left, limits-left, length-left_seats, has-left, seat-left_other, base-left, status-left_other, living-left_other, living-left_same, waiters-left, state-left_other, waiter-left_other, waiter-left_before, state-left, parked-left, kernel-left}
use Rattle.pif_model_lemmas.proofs.kernel.Facts.{living-added}
use Rattle.pif_model_lemmas.proofs.Numbers.{above_0}
use Rattle.pif_model_lemmas.proofs.Waiting.{by_test, has_waiter-without_none}
use Rattle.pif_model_simulation.proofs.WeakenedInvariant.{Changes, aims, change_kept, exempt_one}
use Rattle.pif_model_simulation.proofs.Kept.{unused}
use Rattle.pif_model_simulation.proofs.conditions.Aims.{aims-unparked}
use Rattle.pif_model_simulation.proofs.Agreement.{Frames, quiet, frames_by, was_same, was_not}
use Rattle.pif_model_simulation.proofs.Shown.{threads_shown, mutexes_shown, thread_seen, mutex_seen, same_world}
use Rattle.pif_model_simulation.proofs.Lined.{tl, tr}

module _ (s : Table) (t : ℕ) (h : IsSound s) (known : is_living s.kernel t ≡ true) where
  abbrev k : Kernel
  k = kernel_after_leaving t s.kernel

  -- the table then
  abbrev pub gone : Table
  gone = record s { kernel = k; lists = without_robust t s.lists; lines = set s.lines t Idle }

  abbrev m : ℕ
  m = mutex_left t s.kernel

  added : has_thread s t ≡ true
  added = living-added s.kernel t known

  pub t_some : t ≢ 0
  t_some = above_0 t (length s.kernel.seats) added

  -- t's line and robust list, and those of the others
  pub line_gone : line_at gone t ≡ Idle
  line_gone = get_or-set_same s.lines t Idle Idle (tl s t Idle h known)

  line_else : (u : ℕ) → u ≢ t → line_at gone u ≡ line_at s u
  line_else u d = get_or-set_other s.lines t u Idle Idle d

  pub list_gone : robust_at gone.lists t ≡ no_robust_row
  list_gone = get_or-set_same s.lists.threads t no_robust_row no_robust_row (tr s t Idle h known)

  list_else : (u : ℕ) → u ≢ t → robust_at gone.lists u ≡ robust_at s.lists u
  list_else u d = get_or-set_other s.lists.threads t u no_robust_row no_robust_row d

  -- who waits then
  waited : (j : ℕ) → has_waiter k.waiters j ≡ has_waiter (waiters_left t s.kernel) j
  waited j = ap (λ ws. has_waiter ws j) (waiters-left Ended t s.kernel)

  -- the parts still fit together
  shape_gone : IsShaped gone
  shape_gone =
      let b = h.all.shape in
      record {
        limits = limits-left Ended t s.kernel ∙ b.limits;
        within = b.within;
        timers = b.timers ∙ sym (length-set s.lines t Idle);
        lines = length-set s.lines t Idle ∙ b.lines ∙ sym (length-left_seats Ended t s.kernel);
        nobody = line_else 0 (λ e. t_some (sym e)) ∙ b.nobody;
        lists = length-set s.lists.threads t no_robust_row ∙ b.lists;
        some_mutex = b.some_mutex;
        few_mutexes = b.few_mutexes;
        no_mutex = b.no_mutex;
        words = b.words;
        healths = b.healths;
        no_word = b.no_word;
        no_health = b.no_health;
        unmade = λ j e. (let u = b.unmade j e in (
          u.0,
          u.1,
          waited j
              ∙ has_waiter-without_none s.kernel.waiters t j u.2,
        ));
        some_cond = b.some_cond;
        few_conds = b.few_conds;
        no_cond = b.no_cond;
        cond_words = b.cond_words;
        no_cond_word = b.no_cond_word;
        unmade_conds = b.unmade_conds;
      }

  -- the mutex on which t was queued is sound
  cell_gone : has_mutex s m ≡ true → CellIsSound (has_thread s) (has_waiter k.waiters m) (cell_at gone m)
  cell_gone e = subst (λ b. CellIsSound (has_thread s) b (cell_at gone m)) (sym (waited m)) (record {
    count = c.count;
    stalled = c.stalled;
    owner = c.owner;
    free = λ z. has_waiter-without_none s.kernel.waiters t m (c.free z);
    clean = c.clean;
    state = state-left Ended t s.kernel h.kernel m
        ∙ by_test (λ b. has_waiter (waiters_left t s.kernel) m ≡ b
        → (if b then state_at s.kernel m else 0) ≡ (if b then (word_at s.words m).number else 0))
        (has_waiter (waiters_left t s.kernel) m)
        (λ w _. c.state ∙ ap (λ b. if b then (word_at s.words m).number else 0)
        (waiter-left_before Ended t s.kernel h.kernel m w)) (λ _ _. refl) refl;
    contended = λ w. c.contended (waiter-left_before Ended t s.kernel h.kernel m w);
  })
    where
      c : CellIsSound (has_thread s) (has_waiter s.kernel.waiters m) (cell_at s m)
      c = h.all.mutexes m e

  -- who has ended stays so
  still_ended : (u : ℕ) → is_living s.kernel u ≡ false → is_living k u ≡ false
  still_ended u e = go (cases_eq u t)
    where
      go : (u ≡ t) ⊎ (u ≢ t) → is_living k u ≡ false
      go (inl q) = ap (is_living k) q ∙ living-left_same Ended t s.kernel added
      go (inr d) = living-left_other Ended t s.kernel u d ∙ e

  -- the change
  change : Changes (λ u. u ≡ t) s gone m
  change = record {
    shape = shape_gone;
    threads = has-left Ended t s.kernel;
    mutexes = λ j. refl;
    robust = λ j. refl;
    cells = λ j d. (λ i. record (cell_at s j) { state_owner = state-left_other Ended t s.kernel j d i });
    waited = λ j d. waited j ∙ waiter-left_other Ended t s.kernel h.kernel j d;
    cell = cell_gone;
    alive = λ e r z out. h.all.alive m e r z (λ x. x);
    living = living-left_other Ended t s.kernel;
    status = status-left_other Ended t s.kernel;
    line = line_else;
    list = list_else;
    spares = λ u z out. record {
      kind = refl;
      robust = refl;
      owner = λ o. o;
      other = λ o. o;
      same = λ o. (refl, refl, refl);
      ended = λ r n l. (refl, still_ended (word_at s.words m).number l);
    };
    ended = λ u e l. still_ended u l;
    conds = refl;
    used = unused s gone refl refl refl;
    few_uses = λ i e. e;
    targets = λ i j e. inl (aims-unparked s.kernel.parked t i j
        (sym (ap (λ ps. aims (record k { parked = ps }) i j) (parked-left Ended t s.kernel)) ∙ e));
  }

  -- the table is sound, save for t
  pub gone_sound : SoundExcept (λ u. u ≡ t) gone
  gone_sound = change_kept (exempt_one h t) change

  pub gone_kernel : IsKernel k
  gone_kernel = kernel-left Ended t s.kernel h.kernel added refl

  -- who was found blocked stays so
  pub gone_frames : Frames s gone
  gone_frames = frames_by s gone t (length-set s.lines t Idle) line_else
      (λ u d. was_same s gone u
      (λ i. call_at (health_at s) (uses_of s) (line_else u d i) (status-left_other Ended t s.kernel u d i))
      (status-left_other Ended t s.kernel u d))
      (quiet (ap may_enlist line_gone) (ap chooses_on line_gone))
      (λ e. was_not s gone t (λ c. ap (λ l. is_call_blocked c (call_at (health_at s) (uses_of s) l (status_at gone t)))
      line_gone))

  -- it shows the world that t has left
  pub gone_shown : (y : HistoryVariables) → world_of gone y ≡ after_end t (world_of s y)
  gone_shown y = same_world (world_of gone y) (after_end t (world_of s y))
      (threads_shown shape_gone y ∙ length-set s.lines t Idle
      ∙ sym (length-set (world_of s y).threads t x ∙ threads_shown h.all.shape y))
      (λ u i. let e : u < length gone.lines = subst (λ n. u < n) (threads_shown shape_gone y) i in
      thread_seen shape_gone y u e ∙ each u (subst (λ n. u < n) (length-set s.lines t Idle) e) (cases_eq u t))
      (mutexes_shown shape_gone y ∙ sym (mutexes_shown h.all.shape y))
      (λ j. mutex_seen shape_gone y j ∙ sym (mutex_seen h.all.shape y j)) refl
      (waiters-left Ended t s.kernel) refl refl
    where
      x : Thread
      x = record (thread_at (world_of s y) t) { living = false; call = None }

      here : thread_shown gone y t ≡ thread_at (after_end t (world_of s y)) t
      here =
          (λ i. record {
            base = base-left Ended t s.kernel t i;
            living = living-left_same Ended t s.kernel added i;
            call = call_at (health_at s) (uses_of s) (line_gone i) (status_at gone t);
            timer = timer_at s t;
            memory = memory_at y t;
          })
          ∙ sym (get_or-set_same (world_of s y).threads t x nobody
          (subst (λ n. t < n) (sym (threads_shown h.all.shape y)) (tl s t Idle h known))
          ∙ (λ i. record (thread_seen h.all.shape y t (tl s t Idle h known) i) { living = false; call = None }))

      each : (u : ℕ) → u < length s.lines → (u ≡ t) ⊎ (u ≢ t)
          → thread_shown gone y u ≡ thread_at (after_end t (world_of s y)) u
      each u f (inl q) = subst (λ j. thread_shown gone y j ≡ thread_at (after_end t (world_of s y)) j) (sym q) here
      each u f (inr d) =
          (λ i. record {
            base = (seat-left_other Ended t s.kernel u d i).base;
            living = living-left_other Ended t s.kernel u d i;
            call = call_at (health_at s) (uses_of s) (line_else u d i) (seat-left_other Ended t s.kernel u d i).status;
            timer = timer_at s u;
            memory = memory_at y u;
          })
          ∙ sym (get_or-set_other (world_of s y).threads t u x nobody d ∙ thread_seen h.all.shape y u f)
