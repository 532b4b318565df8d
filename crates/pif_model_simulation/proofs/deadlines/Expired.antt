-- The kernel call expire, by which a thread leaves what it waits for and may run again: of all threads only its own
-- changes. It was queued on its call's mutex, or on nothing.
use Rattle.std.proofs.Common.{◌≡◌, ◌≢◌, ◌⊎◌, inl, inr, ℕ, true, false, refl, sym, ap, ◌∙◌, subst, if◌then◌else◌, true≢false}
use Rattle.std.proofs.lemmas.Bool.{cases_eq}
use Rattle.pif_types.specs.declared.requests.Request.{Request}
use Rattle.pif_model.specs.declared.lines.Line.TheVariants.{At}
use Rattle.pif_model.specs.declared.lines.Place.{Place}
use Rattle.pif_model.specs.declared.lines.Status.TheVariants.{Ready, Stopped}
use Rattle.pif_model.specs.declared.lines.Woken.TheVariants.{Expired as WokenExpired}
use Rattle.pif_model.specs.Graph.{has_waiter}
use Rattle.pif_model.specs.Word.{word_at, health_word_at}
use Rattle.pif_model.specs.Posix.{is_blocked, named_by, variable_of}
use Rattle.pif_model.specs.PiKernel.{Kernel, Seat, IsKernel, seat_at, state_at, is_living, kernel_after_expire}
use Rattle.pif_model.specs.RobustList.{robust_at}
use Rattle.pif_model.specs.Table.{Table, Cell, has_thread, has_mutex, bound_to, uses_of, library_at, cell_at, with_line}
use Rattle.pif_model.specs.Lines.{expired_in}
use Rattle.pif_model.specs.Projection.{health_at, progress_at}
use Rattle.pif_model.specs.Soundness.{CellIsSound, MeetsAll, use_at, needs, belongs}
use Rattle.pif_model_lemmas.proofs.kernel.Left.{mutex_left, waiters_left, waiter-left_other, waiter-left_before}
use Rattle.pif_model_lemmas.proofs.kernel.Expired.{limits-expired, length-expired, seat-expired_other, base-expired, waiters-expired, parked-expired, state-expired_other, state-expired, status-expired_same, living-expired_same, living-expired_other, kernel-expired}
use Rattle.pif_model_lemmas.proofs.kernel.Facts.{no_waiter-0}
use Rattle.pif_model_lemmas.proofs.Waiting.{by_test, has_waiter-without_none}
use Rattle.pif_model_simulation.proofs.WeakenedInvariant.{aims}
use Rattle.pif_model_simulation.proofs.conditions.Aims.{aims-unparked}
use Rattle.pif_model_simulation.proofs.Agreement.{Follows}
use Rattle.pif_model_simulation.proofs.Called.{IsOneCall}
use Rattle.pif_model_simulation.proofs.Called.HasTaken.{kept}
use Rattle.pif_model_simulation.proofs.Local.{going_cell, going_added, ready-not_queued, ready-not_parked}
use Rattle.pif_model_simulation.proofs.LocalLines.{RowAfter, lists_by}
use Rattle.pif_model_simulation.proofs.Steps.{Going}
use Rattle.pif_model_simulation.proofs.Written.{IsCallOn, cell_written, written, written_is, same_word, same_health, same_list, same_library}

module _ {s : Table} {t : ℕ} {q : Request} {p : Place} (g : Going s t q p) (named : has_mutex s (named_by q) ≡ true)
    (left : (mutex_left t s.kernel ≡ named_by q) ⊎ (mutex_left t s.kernel ≡ 0)) where
  abbrev m : ℕ
  m = named_by q

  abbrev pub k : Kernel
  k = kernel_after_expire t s.kernel

  added : has_thread s t ≡ true
  added = going_added g named

  kernel : IsKernel k
  kernel = kernel-expired t s.kernel added g.sound.kernel

  -- the same threads live
  living : (u : ℕ) → is_living k u ≡ is_living s.kernel u
  living u = go (cases_eq u t)
    where
      go : (u ≡ t) ⊎ (u ≢ t) → is_living k u ≡ is_living s.kernel u
      go (inl e) = subst (λ i. is_living k i ≡ is_living s.kernel i) (sym e)
          (living-expired_same t s.kernel added ∙ sym g.known)
      go (inr d) = living-expired_other t s.kernel u d

  -- t was queued on no mutex but the call's
  elsewhere : (n : ℕ) → n ≢ m → n ≡ mutex_left t s.kernel → n ≡ 0
  elsewhere n d e = go left
    where
      go : (mutex_left t s.kernel ≡ m) ⊎ (mutex_left t s.kernel ≡ 0) → n ≡ 0
      go (inl l) = absurd (d (e ∙ l))
      go (inr l) = e ∙ l

  -- the other owner states stay
  states : (n : ℕ) → n ≢ m → state_at k n ≡ state_at s.kernel n
  states n d = go (cases_eq n (mutex_left t s.kernel))
    where
      go : (n ≡ mutex_left t s.kernel) ⊎ (n ≢ mutex_left t s.kernel) → state_at k n ≡ state_at s.kernel n
      go (inl e) =
          let z = elsewhere n d e in
          ap (state_at k) z ∙ kernel.shape.no_mutex
          ∙ sym (ap (state_at s.kernel) z ∙ g.sound.kernel.shape.no_mutex)
      go (inr e) = state-expired_other t s.kernel n e

  -- who waits then
  waiters : (n : ℕ) → has_waiter k.waiters n ≡ has_waiter (waiters_left t s.kernel) n
  waiters n = ap (λ ws. has_waiter ws n) (waiters-expired t s.kernel)

  -- the other mutexes keep their waiters
  waited : (n : ℕ) → n ≢ m → has_waiter k.waiters n ≡ has_waiter s.kernel.waiters n
  waited n d = go (cases_eq n (mutex_left t s.kernel))
    where
      go : (n ≡ mutex_left t s.kernel) ⊎ (n ≢ mutex_left t s.kernel)
          → has_waiter k.waiters n ≡ has_waiter s.kernel.waiters n
      go (inl e) =
          let z = elsewhere n d e in
          ap (has_waiter k.waiters) z ∙ no_waiter-0 k kernel
          ∙ sym (ap (has_waiter s.kernel.waiters) z ∙ no_waiter-0 s.kernel g.sound.kernel)
      go (inr e) = waiters n ∙ waiter-left_other Stopped t s.kernel g.sound.kernel n e

  -- it is a call on that mutex by which t changes
  call : IsCallOn (λ u. u ≡ t) (bound_to s) s.kernel k m
  call = record {
    limits = limits-expired t s.kernel;
    seats = length-expired t s.kernel;
    status = λ u d. ap (λ (x : Seat). x.status) (seat-expired_other t s.kernel u d);
    living = living;
    states = states;
    waited = waited;
    targets = λ i n e. inl (aims-unparked s.kernel.parked t i n
        (sym (ap (λ ps. aims (record k { parked = ps }) i n) (parked-expired t s.kernel)) ∙ e));
  }

  -- the mutex then
  abbrev pub cell : Cell
  cell = cell_written m (word_at s.words m) (health_word_at s.words m) (library_at s m).count k s

  -- it is sound
  cell_sound : CellIsSound (has_thread s) (has_waiter k.waiters m) cell
  cell_sound = subst (λ b. CellIsSound (has_thread s) b cell) (sym (waiters m)) (record {
    count = c.count;
    stalled = c.stalled;
    owner = c.owner;
    free = λ z. has_waiter-without_none s.kernel.waiters t m (c.free z);
    clean = c.clean;
    state = state-expired t s.kernel g.sound.kernel m
        ∙ by_test (λ b. has_waiter (waiters_left t s.kernel) m ≡ b
        → (if b then state_at s.kernel m else 0) ≡ (if b then (word_at s.words m).number else 0))
        (has_waiter (waiters_left t s.kernel) m)
        (λ w _. c.state ∙ ap (λ b. if b then (word_at s.words m).number else 0)
        (waiter-left_before Stopped t s.kernel g.sound.kernel m w)) (λ _ _. refl) refl;
    contended = λ w. c.contended (waiter-left_before Stopped t s.kernel g.sound.kernel m w);
  })
    where
      c : CellIsSound (has_thread s) (has_waiter s.kernel.waiters m) (cell_at s m)
      c = going_cell g named

  -- t may run then
  pub status_then : (seat_at k t).status ≡ Ready WokenExpired
  status_then = status-expired_same t s.kernel added

  -- t goes to another place by it, if what the call rests on is met and its robust list is right, and is not blocked
  pub expired_one : (b : Place) → belongs q b ≡ true → Follows (At q p) (At q b)
      → MeetsAll (is_living s.kernel) t (Ready WokenExpired) cell (use_at s q) (needs b)
      → is_blocked (progress_at q b (Ready WokenExpired) (health_at s m) (uses_of s (variable_of q))) ≡ false
      → ((library_at s m).robust ≡ true → RowAfter s t m (cell_at s m) (At q b) (robust_at s.lists t))
      → IsOneCall s t q p b (word_at s.words m) k
  expired_one b place follows met free row = record {
    kernel = kernel;
    call = call;
    others = seat-expired_other t s.kernel;
    base = base-expired t s.kernel t;
    number = kept refl;
    died = refl;
    cell = cell_sound;
    belongs = place;
    needs = subst (λ x. MeetsAll (is_living s.kernel) t x cell (use_at s q) (needs b)) (sym status_then) met;
    queue = λ j e. absurd (ready-not_queued (Ready WokenExpired) j refl (sym status_then ∙ e));
    parked = λ j e. absurd (ready-not_parked (Ready WokenExpired) j refl (sym status_then ∙ e));
    follows = follows;
    blocked = λ j u e. absurd (true≢false (sym e
        ∙ ap (λ x. is_blocked (progress_at q b x (health_at s m) (uses_of s (variable_of q)))) status_then ∙ free));
    lists = lists_by g named refl refl cell_sound (λ r. (let a = row r in record {
      pending = a.pending;
      half_linked = a.half_linked;
      others = a.others;
      own = a.own;
      settled = a.settled;
    }));
  }

  -- the table that it leaves has the words that there were
  pub expired_table : (b : Place)
      → written t m (At q b) (robust_at s.lists t) (word_at s.words m) (health_word_at s.words m)
      (library_at s m).count k s ≡ with_line t (At q b) (expired_in t s)
  unfolding expired_in
  expired_table b = written_is t m (At q b) (robust_at s.lists t) (word_at s.words m) (health_word_at s.words m)
      (library_at s m).count k s (same_word s m) (same_health s m) (same_list s t) (same_library s m)
