-- One thread more: the table stays sound, and the POSIX machine gets the same thread.
use Rattle.std.proofs.Common.{Bool, ◌<◌, ne_eqb, ◌≡◌, ◌≢◌, ◌⊎◌, inl, inr, ℕ, ◌≤◌, ◌+◌, true, false, ◌==◌, nat_lt, [], ◌∷◌, ◌++◌, length, get_or, refl, sym, ap, ◌∙◌, subst, arith, if◌then◌else◌}
use Rattle.std.proofs.lemmas.Bool.{cases_eq, true≢false}
use Rattle.std.proofs.lemmas.List.{length_push, get_or_push, get_or_past}
use Rattle.std.proofs.Math.Path.{fun_ext}
use Rattle.std.specs.List.{list_any}
use Rattle.pif_types.specs.Bounds.{Bounds}
use Rattle.pif_model.specs.declared.events.Entry.TheVariants.{Thread as AddThread}
use Rattle.pif_model.specs.declared.lines.Line.TheVariants.{Idle}
use Rattle.pif_model.specs.declared.lines.Status.TheVariants.{Ready, Queued, Parked}
use Rattle.pif_model.specs.declared.lines.Woken.TheVariants.{Fresh as WokenFresh}
use Rattle.pif_model.specs.Graph.{is_priority, has_waiter}
use Rattle.pif_model.specs.Posix.{nobody, no_memory, new_thread, is_call_blocked}
use Rattle.pif_model.specs.Posix.Step.{thread_added as thread_rule}
use Rattle.pif_model.specs.PiKernel.{IsKernel, Seat, no_seat, seat_at, has_ended, is_ready, is_parked, is_living}
use Rattle.pif_model.specs.RobustList.{RobustRow, has_entry}
use Rattle.pif_model.specs.Word.{word_at}
use Rattle.pif_model.specs.Table.{Table, has_thread, has_mutex, uses_of, status_at, line_at, library_at, cell_at, has_thread_room, thread_added, timer_at}
use Rattle.pif_model.specs.Projection.{HistoryVariables, Agrees, is_remembered, may_enlist, chooses_on, memory_at, call_shown, call_at, health_at, thread_shown, world_of}
use Rattle.pif_model.specs.Soundness.{LineIsSound, ListIsSound, mutex_by, is_unsettled, IsQueuedLine, IsParkedLine, ThreadIsSound, AbsentIsSound, IsShaped, IsSound}
use Rattle.pif_model.specs.Deadlines.{no_timer}
use Rattle.pif_model_lemmas.proofs.Numbers.{below, from_within}
use Rattle.pif_model_lemmas.proofs.Waiting.{by_test}
use Rattle.pif_model_lemmas.proofs.kernel.Settled.{priority-range}
use Rattle.pif_model_lemmas.proofs.kernel.Kept.{add_kept}
use Rattle.pif_model_simulation.proofs.Kept.{Spares, unused, line_spared}
use Rattle.pif_model_simulation.proofs.WeakenedInvariant.{cell_spared, each_thread, each_absent}
use Rattle.pif_model_simulation.proofs.Shown.{threads_shown, thread_seen, same_world}
use Rattle.pif_model_simulation.proofs.Steps.{Keeps}
use Rattle.pif_model_simulation.proofs.additions.Additions.{pushed_else, more-else, room}

-- what is below another is another
less_not_same : (a b : ℕ) → a < b → a ≢ b
less_not_same a b l e = absurd (omega arith)

-- the same either way
either : {A : Type 0} (x : A) (b : Bool) → (if b then x else x) ≡ x
either x true = refl
either x false = refl

module _ (s : Table) (p : ℕ) (h : IsSound s) (free : has_thread_room s ≡ true) (prio : is_priority p ≡ true) where
  abbrev n : ℕ
  n = length s.lines

  abbrev v : Table
  v = thread_added p s

  -- the kernel has as many threads
  seats : length s.kernel.seats ≡ n
  seats = sym h.all.shape.lines

  few : length s.kernel.seats ≤ s.kernel.limits.threads
  few = let r = room n s.limits.threads free in omega (
    arith,
    r,
    seats,
    ap
        (λ (b : Bounds). b.threads) h.all.shape.limits,
  )

  some : 1 ≤ n
  some = omega (arith, h.kernel.shape.some, seats)

  -- the kernel then
  kernel_more : IsKernel v.kernel
  kernel_more = add_kept p s.kernel h.kernel prio few

  -- who was added is still there
  still : (u : ℕ) → u ≢ n → has_thread v u ≡ has_thread s u
  still u d = ap (λ j. if u == 0 then false else nat_lt u j)
      (length_push s.kernel.seats (record { base = p; status = Ready WokenFresh }))
      ∙ more-else u (length s.kernel.seats) (λ e. d (e ∙ seats))

  known_more : (u : ℕ) → has_thread s u ≡ true → has_thread v u ≡ true
  known_more u k = still u (λ e. omega (arith, below u (length s.kernel.seats) k, e, seats)) ∙ k

  -- the new one was not there
  new_unknown : has_thread s n ≡ false
  new_unknown = by_test (λ b. has_thread s n ≡ b → has_thread s n ≡ false) (has_thread s n)
      (λ _ e. absurd (less_not_same n (length s.kernel.seats) (below n (length s.kernel.seats) e) (sym seats)))
      (λ _ e. e) refl

  new_absent : AbsentIsSound s n
  new_absent = each_absent h n (ap (λ b. if b then (if has_ended (seat_at s.kernel n).status then false else true)
      else false) new_unknown)

  -- the new one
  new_known : has_thread v n ≡ true
  new_known = from_within n (length v.kernel.seats) (λ z. omega (arith, some, z))
      (omega (arith, seats, length_push s.kernel.seats (record { base = p; status = Ready WokenFresh })))

  -- what the kernel knows of the others, and of the new one
  seat_else : (u : ℕ) → u ≢ n → seat_at v.kernel u ≡ seat_at s.kernel u
  seat_else u d = pushed_else s.kernel.seats (record { base = p; status = Ready WokenFresh }) no_seat u
      (λ e. d (e ∙ seats))

  seat_new : seat_at v.kernel n ≡ record { base = p; status = Ready WokenFresh }
  seat_new = get_or_push s.kernel.seats (record { base = p; status = Ready WokenFresh }) no_seat n seats

  -- lines
  line_else : (u : ℕ) → u ≢ n → line_at v u ≡ line_at s u
  line_else u d = pushed_else s.lines Idle Idle u d

  timer_else : (u : ℕ) → u ≢ n → timer_at v u ≡ timer_at s u
  timer_else u d = pushed_else s.timers no_timer no_timer u (λ e. d (e ∙ h.all.shape.timers))

  line_new : line_at v n ≡ Idle
  line_new = get_or_push s.lines Idle Idle n refl

  -- who lives
  living_else : (u : ℕ) → u ≢ n → is_living v.kernel u ≡ is_living s.kernel u
  living_else u d = λ i. if still u d i then (if has_ended (seat_else u d i).status then false else true) else false

  living_new : is_living v.kernel n ≡ true
  living_new = λ i. if new_known i then (if has_ended (seat_new i).status then false else true) else false

  -- the new one owns nothing
  unowned : (m : ℕ) → has_mutex s m ≡ true → (word_at s.words m).number ≢ n
  unowned m e o = true≢false (sym ((h.all.mutexes m e).owner (λ z. omega (arith, some, sym o ∙ z)))
      ∙ ap (has_thread s) o ∙ new_unknown)

  -- the parts fit together
  shape_more : IsShaped v
  shape_more =
      let b = h.all.shape in
      record {
        limits = b.limits;
        within = b.within;
        lines = length_push s.lines Idle ∙ (let e = length_push s.kernel.seats
            (record { base = p; status = Ready WokenFresh }) in omega (arith, e, seats));
        timers = length_push s.timers no_timer ∙ ap (λ j. j + 1) b.timers ∙ sym (length_push s.lines Idle);
        nobody = line_else 0 (λ e. omega (arith, some, e)) ∙ b.nobody;
        lists = b.lists;
        some_mutex = b.some_mutex;
        few_mutexes = b.few_mutexes;
        no_mutex = b.no_mutex;
        words = b.words;
        healths = b.healths;
        no_word = b.no_word;
        no_health = b.no_health;
        unmade = b.unmade;
        some_cond = b.some_cond;
        few_conds = b.few_conds;
        no_cond = b.no_cond;
        cond_words = b.cond_words;
        no_cond_word = b.no_cond_word;
        unmade_conds = b.unmade_conds;
      }

  -- no mutex is changed for a thread that was there
  spares_more : (u j : ℕ) → has_mutex s j ≡ true → Spares (is_living s.kernel) (is_living v.kernel) u (cell_at s j)
      (cell_at v j)
  spares_more u j e = record {
    kind = refl;
    robust = refl;
    owner = λ o. o;
    other = λ o. o;
    same = λ o. (refl, refl, refl);
    ended = λ r z l. (refl, living_else (word_at s.words j).number (unowned j e) ∙ l);
  }

  -- each thread is sound
  thread_more : (u : ℕ) → is_living v.kernel u ≡ true → (u ≡ n) ⊎ (u ≢ n) → ThreadIsSound v u
  thread_more u k (inl e) = subst (ThreadIsSound v) (sym e) (record {
    line = subst (LineIsSound v n) (sym line_new) (ap (λ (x : Seat). is_ready x.status) seat_new);
    queue = λ j z. absurd (fresh j (sym (ap (λ (x : Seat). x.status) seat_new) ∙ z));
    parked = λ j z. absurd (awake j (sym (ap (λ (x : Seat). x.status) seat_new) ∙ z));
    list = subst (ListIsSound v n) (sym line_new) (record {
      pending = ap (λ (x : RobustRow). x.pending) new_absent.list ∙ sym (either 0 (library_at s 0).robust);
      half_linked = ap (λ (x : RobustRow). x.half_linked) new_absent.list ∙ sym (either 0 (library_at s 0).robust);
      listed = λ m. ap (λ (x : RobustRow). has_entry x.listed m) new_absent.list
          ∙ by_test (λ b. has_mutex s m ≡ b → false ≡ (if
          (if b then (if (library_at s m).robust then (word_at s.words m).number == n else false) else false)
          then (if m == 0 then false else true) else false)) (has_mutex s m)
          (λ e _. sym (ap (λ b. if (if (library_at s m).robust then b else false)
          then (if m == 0 then false else true) else false) (ne_eqb (word_at s.words m).number n (unowned m e))
          ∙ ap (λ b. if b then (if m == 0 then false else true) else false) (either false (library_at s m).robust)))
          (λ _ _. refl) refl;
    });
    settled = λ m e o away. absurd (unowned m e o);
  })
    where
      fresh : (j : ℕ) → Ready WokenFresh ≡ Queued j → ⊥
      fresh j z = cc

      awake : (j : ℕ) → Ready WokenFresh ≡ Parked j → ⊥
      awake j z = cc
  thread_more u k (inr d) =
      let b = each_thread h u (sym (living_else u d) ∙ k) in
      record {
        line = subst (LineIsSound v u) (sym (line_else u d))
            (line_spared s v u (ap (λ (x : Seat). x.status) (seat_else u d)) (unused s v refl refl refl)
            (λ j e. (e, spares_more u j e))
            (line_at s u) b.line);
        queue = λ j z. subst (IsQueuedLine j) (sym (line_else u d))
            (b.queue j (sym (ap (λ (x : Seat). x.status) (seat_else u d)) ∙ z));
        parked = λ j z. subst (IsParkedLine j) (sym (line_else u d))
            (b.parked j (sym (ap (λ (x : Seat). x.status) (seat_else u d)) ∙ z));
        list = subst (ListIsSound v u) (sym (line_else u d))
            (record { pending = b.list.pending; half_linked = b.list.half_linked; listed = b.list.listed });
        settled = λ m e o away. b.settled m e o (λ z. away (z ∙ sym (ap (mutex_by is_unsettled) (line_else u d))));
      }

  -- the table is sound
  pub thread_added_sound : IsSound v
  thread_added_sound = record {
    all = record {
      shape = shape_more;
      mutexes = λ j e. cell_spared (has_thread s) (has_thread v) (has_waiter s.kernel.waiters j)
          (has_waiter s.kernel.waiters j) (cell_at s j) (cell_at s j) known_more refl refl (h.all.mutexes j e);
      conds = λ c e. (let b = h.all.conds c e in record { bound = b.bound; uses = b.uses });
      targets = h.all.targets;
      alive = λ m e r z out. living_else (word_at s.words m).number (unowned m e) ∙ h.all.alive m e r z (λ x. x);
      threads = λ u k out. thread_more u k (cases_eq u n);
      absent = λ u k out. (
          let d : u ≢ n = (λ e. true≢false (sym living_new ∙ ap (is_living v.kernel) (sym e) ∙ k)) in
          let b = each_absent h u (sym (living_else u d) ∙ k) in
          record { line = line_else u d ∙ b.line; list = b.list }
          );
    };
    kernel = kernel_more;
  }

  -- each has the line that it had, and the new one none
  line_same : (u : ℕ) → line_at v u ≡ line_at s u
  line_same u = go (cases_eq u n)
    where
      go : (u ≡ n) ⊎ (u ≢ n) → line_at v u ≡ line_at s u
      go (inl e) = ap (line_at v) e ∙ line_new ∙ sym (ap (line_at s) e ∙ new_absent.line)
      go (inr d) = line_else u d

  -- and the status that it had, or would have
  status_same : (u : ℕ) → status_at v u ≡ status_at s u
  status_same u = go (cases_eq u n)
    where
      go : (u ≡ n) ⊎ (u ≢ n) → status_at v u ≡ status_at s u
      go (inl e) = ap (status_at v) e ∙ ap (λ (x : Seat). x.status) seat_new
          ∙ sym (ap (λ (x : Seat). x.status) (get_or_past s.kernel.seats u no_seat (omega (arith, seats, e))))
      go (inr d) = ap (λ (x : Seat). x.status) (seat_else u d)

  call_same : (u : ℕ) → call_shown v u ≡ call_shown s u
  call_same u = λ i. call_at (health_at s) (uses_of s) (line_same u i) (status_same u i)

  module _ (y : HistoryVariables) (fits : Agrees s y) where
    -- nothing is remembered of the new one
    abbrev more : HistoryVariables
    more = record { memories = y.memories ++ no_memory ∷ [] }

    memory_same : (u : ℕ) → memory_at more u ≡ memory_at y u
    memory_same u = go (cases_eq u n)
      where
        go : (u ≡ n) ⊎ (u ≢ n) → memory_at more u ≡ memory_at y u
        go (inl e) = get_or_push y.memories no_memory no_memory u (fits.all ∙ sym e)
            ∙ sym (get_or_past y.memories u no_memory (omega (arith, fits.all, e)))
        go (inr d) = pushed_else y.memories no_memory no_memory u (λ e. d (e ∙ fits.all))

    memory_all : memory_at more ≡ memory_at y
    memory_all = fun_ext memory_same

    -- what is remembered fits then
    pub thread_added_agrees : Agrees v more
    thread_added_agrees = record {
      all = length_push y.memories no_memory ∙ ap (λ j. j + 1) fits.all ∙ sym (length_push s.lines Idle);
      past = λ t u j e. subst (λ f. j ≤ (f u).waits) (sym memory_all)
          (fits.past t u j (subst (λ f. list_any (λ (p : ℕ × ℕ). if p.0 == u then p.1 == j else false) (f t).found
          ≡ true) memory_all e));
      joined = λ t u e. ap may_enlist (line_same u) ∙ fits.joined t u (found t u e);
      parked = λ t u c chosen z e b. ap is_parked (status_same u)
          ∙ fits.parked t u c (sym (ap chooses_on (line_same t)) ∙ chosen) z (found t u e)
          (ap (is_call_blocked c) (sym (call_same u)) ∙ b);
    }
      where
        found : (t u : ℕ) → is_remembered more t u ≡ true → is_remembered y t u ≡ true
        found t u e = subst (λ f. list_any (λ (p : ℕ × ℕ). if p.0 == u then p.1 == (f u).waits else false) (f t).found
            ≡ true) memory_all e

    -- the world with one thread more
    pub thread_added_seen : world_of v more ≡ record (world_of s y)
        { threads = (world_of s y).threads ++ new_thread p ∷ [] }
    thread_added_seen = same_world (world_of v more) (record
        (world_of s y) { threads = (world_of s y).threads ++ new_thread p ∷ [] })
        (threads_shown shape_more more ∙ length_push s.lines Idle
        ∙ sym (length_push (world_of s y).threads (new_thread p) ∙ ap (λ j. j + 1) long))
        (λ u i. let e : u < length v.lines = subst (λ j. u < j) (threads_shown shape_more more) i in
        thread_seen shape_more more u e ∙ each u e (cases_eq u n)) refl (λ j. refl) refl refl refl refl
      where
        long : length (world_of s y).threads ≡ n
        long = threads_shown h.all.shape y

        each : (u : ℕ) → u < length v.lines → (u ≡ n) ⊎ (u ≢ n) → thread_shown v more u ≡ get_or
            ((world_of s y).threads ++ new_thread p ∷ []) u nobody
        each u b (inl e) = subst (λ j. thread_shown v more j ≡ get_or ((world_of s y).threads ++ new_thread p ∷ []) j
            nobody) (sym e)
            ((λ i. record {
              base = (seat_new i).base;
              living = living_new i;
              call = call_at (health_at s) (uses_of s) (line_new i) (seat_at v.kernel n).status;
              timer = get_or_push s.timers no_timer no_timer n h.all.shape.timers i;
              memory = get_or_push y.memories no_memory no_memory n fits.all i;
            })
            ∙ sym (get_or_push (world_of s y).threads (new_thread p) nobody n long))
        each u b (inr d) =
            (λ i. record {
              base = (seat_else u d i).base;
              living = living_else u d i;
              call = call_at (health_at s) (uses_of s) (line_else u d i) (seat_else u d i).status;
              timer = timer_else u d i;
              memory = memory_same u i;
            })
            ∙ sym (pushed_else (world_of s y).threads (new_thread p) nobody u (λ e. d (e ∙ long))
            ∙ thread_seen h.all.shape y u (let g : u ≢ n = d in omega (arith, b, g, length_push s.lines Idle)))

  -- to add a thread is an entry of the POSIX machine, and keeps the invariant
  pub thread_added_kept : Keeps s (AddThread n p) v
  thread_added_kept = record {
    sound = thread_added_sound;
    limits = refl;
    shows = λ y a. (
      more y a,
      thread_added_agrees y a,
      thread_rule n p refl (sym (threads_shown h.all.shape y))
          (room n s.limits.threads free) (priority-range p prio).0 (priority-range p prio).1 (thread_added_seen y a),
    );
  }
