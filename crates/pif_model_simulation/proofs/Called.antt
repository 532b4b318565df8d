-- A line that makes a kernel call by which, of all threads, only its own changes: it is queued on its mutex, or
-- stopped. The table stays sound, and the POSIX machine sees the call go on.
use Rattle.std.proofs.Common.{Bool, ◌==◌, if◌then◌else◌, true≢false, ◌≡◌, ◌≢◌, ℕ, ◌<◌, true, false, length, set, inl, Some, refl, sym, ap, ap₂, ◌∙◌, subst, ne_eqb}
use Rattle.std.proofs.lemmas.List.{length-set, get_or-set_other, set-get_or}
use Rattle.pif_types.specs.declared.requests.Request.{Request}
use Rattle.pif_model.specs.declared.lines.Line.TheVariants.{At}
use Rattle.pif_model.specs.declared.lines.Place.{Place}
use Rattle.pif_model.specs.declared.lines.Status.TheVariants.{Queued, Parked, Stopped}
use Rattle.pif_model.specs.Graph.{has_waiter}
use Rattle.pif_model.specs.Word.{Word, word_at, health_word_at}
use Rattle.pif_model.specs.Posix.{Progress, is_blocked, is_call_blocked, no_mutex, variable_of, named_by, thread_at, mutex_at, with_mutex, with_progress, at_progress}
use Rattle.pif_model.specs.PiKernel.{Kernel, IsKernel, no_seat, seat_at, is_parked, is_living, kernel_after_queueing, kernel_after_stop}
use Rattle.pif_model.specs.RobustList.{robust_at}
use Rattle.pif_model.specs.Table.{Table, Cell, has_thread, has_mutex, bound_to, uses_of, library_at, status_at, line_at, cell_at}
use Rattle.pif_model.specs.Projection.{HistoryVariables, may_enlist, call_shown as shown_call, progress_at, call_at, health_of, health_at, world_of}
use Rattle.pif_model.specs.Soundness.{use_at, IsParkedLine, MeetsAll, needs, belongs, IsQueuedLine, LineIsSound, ListIsSound, CellIsSound, IsSound, mutex_by, is_unsettled}
use Rattle.pif_model_lemmas.proofs.Numbers.{above_0, below}
use Rattle.pif_model_lemmas.proofs.Waiting.{by_test, has_waiter-push, or_false}
use Rattle.pif_model_simulation.proofs.Kept.{Spares}
use Rattle.pif_model_simulation.proofs.WeakenedInvariant.{Changes, change_kept, exempt_one, admit_last, each_thread, each_absent}
use Rattle.pif_model_simulation.proofs.Shown.{mutex_seen}
use Rattle.pif_model_simulation.proofs.Written.{written, cell_written, mutex_of, IsCallOn, changes, cell_here, line_here, list_here, health_m, call_there, call_here, world_shown, frames_written}
use Rattle.pif_model_simulation.proofs.Agreement.{Frames, Follows, WasBlockedIn}
use Rattle.pif_model_simulation.proofs.Steps.{Going, progress_of, going_named, going_lined, going_called}
use Rattle.pif_model_simulation.proofs.Local.{ListsAfter, known_still, lists_after, settled_after, going_added, going_row, going_list, going_settled}

-- to queue t, who may run, on m is a call on m by which t changes
pub queueing_on : (bound : ℕ → ℕ) (t m n : ℕ) (k : Kernel) → ((u : ℕ) → is_living (kernel_after_queueing t m n k) u ≡ is_living k u)
    → IsCallOn (λ u. u ≡ t) bound k (kernel_after_queueing t m n k) m
unfolding kernel_after_queueing
queueing_on bound t m n k living = record {
  limits = refl;
  seats = length-set k.seats t _;
  status = λ u d. ap (λ x. x.status) (get_or-set_other k.seats t u
      (record (seat_at k t) { status = Queued m }) no_seat d);
  living = living;
  states = λ j d. get_or-set_other k.states m j n 0 d;
  waited = λ j d. has_waiter-push k.waiters t m j ∙ rw (ne_eqb m j (λ e. d (sym e)))
      (or_false (has_waiter k.waiters j));
  targets = λ c n e. inl e;
}

-- to stop t is a call on any mutex by which t changes
pub stop_on : (bound : ℕ → ℕ) (t m : ℕ) (k : Kernel) → ((u : ℕ) → is_living (kernel_after_stop t k) u ≡ is_living k u)
    → IsCallOn (λ u. u ≡ t) bound k (kernel_after_stop t k) m
unfolding kernel_after_stop
stop_on bound t m k living = record {
  limits = refl;
  seats = length-set k.seats t _;
  status = λ u d. ap (λ x. x.status) (get_or-set_other k.seats t u
      (record (seat_at k t) { status = Stopped }) no_seat d);
  living = living;
  states = λ j d. refl;
  waited = λ j d. refl;
  targets = λ c n e. inl e;
}

-- whose number n a word has that had the number n before: the same, or that of t, if it had none
pub data HasTaken (t before after : ℕ) : Type 0 where
  kept : after ≡ before → HasTaken t before after
  taken : before ≡ 0 → after ≡ t → HasTaken t before after

-- a call in which t goes from the place p to another of its call on m, and leaves this word and this kernel
pub record IsOneCall (s : Table) (t : ℕ) (q : Request) (p b : Place) (x : Word) (k : Kernel) : Type 0 where
  pub kernel : IsKernel k
  pub call : IsCallOn (λ u. u ≡ t) (bound_to s) s.kernel k (named_by q)
  -- the kernel knows the same of the other threads, and t keeps its base priority
  pub others : (u : ℕ) → u ≢ t → seat_at k u ≡ seat_at s.kernel u
  pub base : (seat_at k t).base ≡ (seat_at s.kernel t).base
  -- the word has the number that it had, or t has taken the mutex; and it has the OWNER_DIED that it had
  pub number : HasTaken t (word_at s.words (named_by q)).number x.number
  pub died : x.died ≡ (word_at s.words (named_by q)).died
  -- the mutex is sound
  pub cell : CellIsSound (has_thread s) (has_waiter k.waiters (named_by q))
      (cell_written (named_by q) x (health_word_at s.words (named_by q)) (library_at s (named_by q)).count k s)
  -- the place is one of the call's, what it rests on there is met, and t is queued there if it is
  pub belongs : belongs q b ≡ true
  pub needs : MeetsAll (is_living s.kernel) t (seat_at k t).status
      (cell_written (named_by q) x (health_word_at s.words (named_by q)) (library_at s (named_by q)).count k s)
      (use_at s q) (needs b)
  pub queue : (j : ℕ) → (seat_at k t).status ≡ Queued j → IsQueuedLine j (At q b)
  pub parked : (j : ℕ) → (seat_at k t).status ≡ Parked j → IsParkedLine j (At q b)
  -- who was found blocked stays so
  pub follows : Follows (At q p) (At q b)
  pub blocked : may_enlist (At q p) ≡ false → is_parked (seat_at k t).status ≡ false
      → is_blocked (progress_at q b (seat_at k t).status (health_at s (named_by q)) (uses_of s (variable_of q))) ≡ true
      → (is_blocked (progress_of s t q p) ≡ true) × (is_parked (status_at s t) ≡ false)
  -- t's robust list is the place's
  pub lists : ListsAfter s t (named_by q)
      (cell_written (named_by q) x (health_word_at s.words (named_by q)) (library_at s (named_by q)).count k s)
      (At q b) (robust_at s.lists t)

module _ {s : Table} {t : ℕ} {q : Request} {p : Place} (g : Going s t q p) (named : has_mutex s (named_by q) ≡ true)
    (b : Place) (x : Word) (k : Kernel) (c : IsOneCall s t q p b x k) where
  abbrev m : ℕ
  m = named_by q

  abbrev n : ℕ
  n = (library_at s m).count

  abbrev a : ℕ
  a = health_word_at s.words m

  t0 : t ≢ 0
  t0 = above_0 t (length s.kernel.seats) (going_added g named)

  ml : m < length s.mutexes
  ml = below m (length s.mutexes) named

  -- the table that the call leaves
  abbrev pub called : Table
  called = written t m (At q b) (robust_at s.lists t) x a n k s

  abbrev cell : Cell
  cell = cell_written m x a n k s

  -- the change that it is
  change : Changes (λ u. u ≡ t) s called m
  change = changes s t m (At q b) (robust_at s.lists t) x a n k t0 (going_lined g)
      (going_row g named) ml g.sound.all.shape refl c.call
      (λ e. absurd (above_0 m (length s.mutexes) named e)) (λ e. c.cell)
      (λ e r z out. alive r z c.number)
      (λ u z d. spares u z d c.number)
    where
      -- whoever owns m then lives
      alive : (library_at s m).robust ≡ true → x.number ≢ 0 → HasTaken t (word_at s.words m).number x.number
          → is_living s.kernel x.number ≡ true
      alive r z (kept e) = ap (is_living s.kernel) e ∙ g.sound.all.alive m named r (λ w. z (e ∙ w)) (λ w. w)
      alive r z (taken e f) = ap (is_living s.kernel) f ∙ g.known

      -- nobody else is touched
      spares : (u : ℕ) → u ≢ 0 → (u ≡ t → ⊥) → HasTaken t (word_at s.words m).number x.number
          → Spares (is_living s.kernel) (is_living s.kernel) u (cell_at s m) cell
      spares u z d (kept e) = record {
        kind = refl;
        robust = refl;
        owner = λ o. e ∙ o;
        other = λ o w. o (sym e ∙ w);
        same = λ o. (refl, c.died, refl);
        ended = λ r w l. (e, l);
      }
      spares u z d (taken e f) = record {
        kind = refl;
        robust = refl;
        owner = λ o. absurd (z (sym o ∙ e));
        other = λ o w. d (sym w ∙ f);
        same = λ o. absurd (z (sym o ∙ e));
        ended = λ r w l. absurd (w e);
      }

  -- the same threads live
  living : is_living k ≡ is_living s.kernel
  living = λ i u. c.call.living u i

  here : line_at called t ≡ At q b
  here = line_here s t m (At q b) (robust_at s.lists t) x a n k t0 (going_lined g)
      (going_row g named) ml g.sound.all.shape

  row_here : robust_at called.lists t ≡ robust_at s.lists t
  row_here = list_here s t m (At q b) (robust_at s.lists t) x a n k t0 (going_lined g)
      (going_row g named) ml g.sound.all.shape

  cell_m : cell_at called m ≡ cell
  cell_m = cell_here s t m (At q b) (robust_at s.lists t) x a n k t0 (going_lined g)
      (going_row g named) ml g.sound.all.shape

  -- the table is sound
  pub called_sound : IsSound called
  called_sound = record {
    all = admit_last (change_kept (exempt_one g.sound t) change) (c.call.living t ∙ g.known) (record {
      line = subst (LineIsSound called t) (sym here) (record {
        named = known_still change.mutexes (λ i. refl) q (going_named g);
        belongs = c.belongs;
        needs = subst (λ d. MeetsAll (is_living k) t (seat_at k t).status d (use_at s q) (needs b)) (sym cell_m)
            (subst (λ f. MeetsAll f t (seat_at k t).status cell (use_at s q) (needs b)) (sym living) c.needs);
      });
      queue = λ j e. subst (IsQueuedLine j) (sym here) (c.queue j e);
      parked = λ j e. subst (IsParkedLine j) (sym here) (c.parked j e);
      list = subst (ListIsSound called t) (sym here) (lists_after s called t m (At q p)
          (At q b) refl refl named change.mutexes change.robust change.cells (going_list g named)
          (subst (λ d. ListsAfter s t m d (At q b) (robust_at called.lists t)) (sym cell_m)
          (subst (ListsAfter s t m cell (At q b)) (sym row_here) c.lists)));
      settled = subst (λ l. (j : ℕ) → has_mutex called j ≡ true → (word_at called.words j).number ≡ t
          → j ≢ mutex_by is_unsettled l → ((word_at called.words j).died ≡ false)
          × (health_word_at called.words j ≢ 2)) (sym here)
          (settled_after s called t m (At q p) (At q b) refl change.mutexes change.cells (going_settled g named)
          (subst (λ (d : Cell). d.word.number ≡ t → m ≢ mutex_by is_unsettled (At q b)
          → (d.word.died ≡ false) × (d.health ≢ 2)) (sym cell_m) c.lists.settled));
    });
    kernel = c.kernel;
  }

  -- t lives
  pub called_known : is_living called.kernel t ≡ true
  called_known = c.call.living t ∙ g.known

  -- the health of m stays
  health_same : health_of a x.died ≡ health_at s m
  health_same = ap (health_of a) c.died

  -- the calls of others have come as far as before
  calls : (u : ℕ) → u ≢ t → call_at (health_at called) (uses_of s) (line_at s u) (status_at s u) ≡ shown_call s u
  calls u d = by_test (λ b. is_living s.kernel u ≡ b → call_at (health_at called) (uses_of s) (line_at s u)
      (status_at s u) ≡ shown_call s u) (is_living s.kernel u)
      (λ e _. call_there s t m (At q b) (robust_at s.lists t) x a n k t0 (going_lined g)
      (going_row g named) ml g.sound.all.shape u (inl health_same) (each_thread g.sound u e))
      (λ e _. subst (λ l. call_at (health_at called) (uses_of s) l (status_at s u)
      ≡ call_at (health_at s) (uses_of s) l (status_at s u)) (sym (each_absent g.sound u e).line) refl) refl

  -- how far t's call has come then
  abbrev progress_then : Progress
  progress_then = progress_at q b (seat_at k t).status (health_at s m) (uses_of s (variable_of q))

  -- t's call then
  call_then : call_at (health_at called) (uses_of s) (At q b) (seat_at k t).status
      ≡ Some (record { request = q; progress = progress_then })
  call_then = ap (λ d. Some (record {
    request = q;
    progress = progress_at q b (seat_at k t).status d (uses_of s (variable_of q));
  }))
      (health_m s t m (At q b) (robust_at s.lists t) x a n k t0 (going_lined g)
      (going_row g named) ml g.sound.all.shape ∙ health_same)

  -- t is blocked then, and not parked, only if it was
  was : may_enlist (line_at s t) ≡ false → WasBlockedIn s called t
  was j i e unparked =
      let b = c.blocked (sym (ap may_enlist g.line) ∙ j) unparked (both.0) in (
        ap (is_call_blocked i) (ap (λ l. call_at (health_at s) (uses_of s) l (status_at s t)) g.line)
            ∙ ap₂ (λ y z. if y then z else false) b.0 both.1,
        b.1,
      )
    where
      both : (is_blocked progress_then ≡ true) × ((variable_of q == i) ≡ true)
      both = go (is_blocked progress_then)
          (sym (ap (is_call_blocked i) (call_here s t m (At q b) (robust_at s.lists t) x a n k t0 (going_lined g)
          (going_row g named) ml g.sound.all.shape c.others calls ∙ call_then)) ∙ e)
        where
          go : (y : Bool) → (if y then variable_of q == i else false) ≡ true
              → (y ≡ true) × ((variable_of q == i) ≡ true)
          go true e = (refl, e)
          go false e = absurd (true≢false (sym e))

  -- who was found blocked stays so
  pub called_frames : Frames s called
  called_frames = frames_written s t m (At q b) (robust_at s.lists t) x a n k t0 (going_lined g)
      (going_row g named) ml g.sound.all.shape c.others calls
      (subst (λ l. Follows l (At q b)) (sym g.line) c.follows) was

  -- the world shows the call at that place, the mutex with its owner, and the kernel's waiters
  pub called_world : (y : HistoryVariables) (o : Progress) → progress_then ≡ o
      → world_of called y ≡ record (with_progress t o (with_mutex m (mutex_of cell) (world_of s y)))
      { waiters = k.waiters }
  called_world y o e =
      world_shown s t m (At q b) (robust_at s.lists t) x a n k t0 (going_lined g)
      (going_row g named) ml g.sound.all.shape c.others calls y (Some (record { request = q; progress = o }))
      called_sound.all.shape c.call.living c.base
      (call_then ∙ ap (λ d. Some (record { request = q; progress = d })) e)
      ∙ (λ i. record (with_mutex m (mutex_of cell) (world_of s y)) {
        threads = set (world_of s y).threads t (record (thread_at (world_of s y) t)
            { call = sym (ap (at_progress o) (going_called g y)) i });
        waiters = k.waiters;
      })

  -- if the word keeps its number, no mutex changes
  pub called_shown : (y : HistoryVariables) (o : Progress) → x.number ≡ (word_at s.words m).number → progress_then ≡ o
      → world_of called y ≡ record (with_progress t o (world_of s y)) { waiters = k.waiters }
  called_shown y o same_number e = called_world y o e
      ∙ (λ i. record (with_progress t o (world_of s y)) { mutexes = mutexes i; waiters = k.waiters })
    where
      same : mutex_of cell ≡ mutex_at (world_of s y) m
      same = (λ i. record {
        kind = (library_at s m).kind;
        robust = (library_at s m).robust;
        owner = same_number i;
        count = n;
        health = health_same i;
      }) ∙ sym (mutex_seen g.sound.all.shape y m)

      mutexes : set (world_of s y).mutexes m (mutex_of cell) ≡ (world_of s y).mutexes
      mutexes = ap (set (world_of s y).mutexes m) same ∙ set-get_or (world_of s y).mutexes m no_mutex

  -- if t has taken it, t owns it
  pub called_taken : (y : HistoryVariables) (o : Progress) → x.number ≡ t → n ≡ 1 → progress_then ≡ o
      → world_of called y ≡ record (with_progress t o (with_mutex m
      (record (mutex_at (world_of s y) m) { owner = t; count = 1 }) (world_of s y))) { waiters = k.waiters }
  called_taken y o mine once e = called_world y o e
      ∙ ap (λ z. record (with_progress t o (with_mutex m z (world_of s y))) { waiters = k.waiters }) same
    where
      same : mutex_of cell ≡ record (mutex_at (world_of s y) m) { owner = t; count = 1 }
      same = (λ i. record {
        kind = (library_at s m).kind;
        robust = (library_at s m).robust;
        owner = mine i;
        count = once i;
        health = health_same i;
      }) ∙ (λ i. record (sym (mutex_seen g.sound.all.shape y m) i) { owner = t; count = 1 })
