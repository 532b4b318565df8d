-- A thread that may run goes to another line over another kernel, and no mutex changes.
use Rattle.std.proofs.Common.{◌≡◌, ◌≢◌, ℕ, ◌<◌, true, false, ◌⊎◌, inl, inr, length, Option, refl, sym, ap, ◌∙◌, subst, arith}
use Rattle.std.proofs.lemmas.Bool.{cases_eq, true≢false}
use Rattle.std.proofs.lemmas.List.{length-set, set-get_or, get_or-set_same, get_or-set_other}
use Rattle.pif_types.specs.Bounds.{Bounds}
use Rattle.pif_model.specs.declared.lines.Line.{Line}
use Rattle.pif_model.specs.declared.lines.Line.TheVariants.{Idle}
use Rattle.pif_model.specs.Word.{word_at, health_word_at}
use Rattle.pif_model.specs.Posix.{Call, no_mutex, thread_at, with_thread, with_mutex}
use Rattle.pif_model.specs.PiKernel.{Kernel, IsKernel, state_at, seat_at, is_ready, is_living}
use Rattle.pif_model.specs.RobustList.{robust_at}
use Rattle.pif_model.specs.Table.{Table, has_thread, has_mutex, bound_to, uses_of, status_at, line_at, library_at, cell_at, with_line, with_kernel}
use Rattle.pif_model.specs.Projection.{HistoryVariables, call_shown as shown_call, may_enlist, call_at, health_at, world_of}
use Rattle.pif_model.specs.Soundness.{mutex_by, is_unsettled, LineIsSound, ListIsSound, IsShaped, SoundExcept, IsSound}
use Rattle.pif_model_lemmas.proofs.kernel.Facts.{living-added}
use Rattle.pif_model_lemmas.proofs.Numbers.{above_0, below}
use Rattle.pif_model_simulation.proofs.Kept.{Spares, unwritten, unused, line_spared}
use Rattle.pif_model_simulation.proofs.WeakenedInvariant.{Changes, change_kept, exempt_one, admit_last}
use Rattle.pif_model_simulation.proofs.Shown.{mutex_seen}
use Rattle.pif_model_simulation.proofs.Written.{IsCallOn, written, mutex_of, changes, world_shown, written_is, same_word, same_health, same_library, same_list}
use Rattle.pif_model_simulation.proofs.Local.{ready-not_queued, ready-not_parked}
use Rattle.pif_model_simulation.proofs.Agreement.{Frames, Follows, WasBlockedIn, frames_by, was_same}

module _ (s : Table) (t : ℕ) (l : Line) (h : IsSound s) (known : is_living s.kernel t ≡ true) where
  added : has_thread s t ≡ true
  added = living-added s.kernel t known

  pub t0 : t ≢ 0
  t0 = above_0 t (length s.kernel.seats) added

  pub tl : t < length s.lines
  tl = subst (λ n. t < n) (sym h.all.shape.lines) (below t (length s.kernel.seats) added)

  pub tr : t < length s.lists.threads
  tr = omega (
    arith,
    below t (length s.kernel.seats) added,
    h.kernel.shape.few,
    h.all.shape.lists,
    ap
        (λ (b : Bounds). b.threads) h.all.shape.limits,
  )

  pub ml : 0 < length s.mutexes
  ml = h.all.shape.some_mutex

  module _ (k : Kernel) where
    -- the table then
    abbrev pub lined : Table
    lined = with_line t l (with_kernel s.words k s)

    -- as one in which place 0 of the mutexes is written as it was
    abbrev pub lined_written : Table
    lined_written = written t 0 l (robust_at s.lists t) (word_at s.words 0) (health_word_at s.words 0)
        (library_at s 0).count k s

    pub lined_same : lined_written ≡ lined
    lined_same = written_is t 0 l (robust_at s.lists t) (word_at s.words 0) (health_word_at s.words 0)
        (library_at s 0).count k s
        (same_word s 0) (same_health s 0) (same_list s t) (same_library s 0)

    -- if it knows what it has to, and its robust list is right there, the table is sound
    pub lined_sound : IsKernel k → IsCallOn (λ u. u ≡ t) (bound_to s) s.kernel k 0 → (seat_at k t).status ≡ status_at s t
        → is_ready (status_at s t) ≡ true
        → LineIsSound s t l → ListIsSound s t l
        → ((m : ℕ) → has_mutex s m ≡ true → (word_at s.words m).number ≡ t → m ≢ mutex_by is_unsettled l
        → ((word_at s.words m).died ≡ false) × (health_word_at s.words m ≢ 2))
        → IsSound lined
    lined_sound kernel call status ready line list settled = record {
      all = admit_last rest (call.living t ∙ known) (record {
        line = subst (LineIsSound lined t) (sym here)
            (line_spared s lined t status (unused s lined refl refl refl) (λ j e. (
              e,
              subst
                  (λ f. Spares (is_living s.kernel) f t (cell_at s j) (cell_at lined j)) (sym living)
                  (unwritten (is_living s.kernel) t (cell_at s j) (cell_at lined j) (cell j)),
            )) l line);
        queue = λ j e. absurd (ready-not_queued (status_at s t) j ready (sym status ∙ e));
        parked = λ j e. absurd (ready-not_parked (status_at s t) j ready (sym status ∙ e));
        list = subst (ListIsSound lined t) (sym here) (record
            { pending = list.pending; half_linked = list.half_linked; listed = list.listed });
        settled = subst (λ b. (m : ℕ) → has_mutex s m ≡ true → (word_at s.words m).number ≡ t
            → m ≢ mutex_by is_unsettled b → ((word_at s.words m).died ≡ false) × (health_word_at s.words m ≢ 2))
            (sym here) settled;
      });
      kernel = kernel;
    }
      where
        change : Changes (λ u. u ≡ t) s lined_written 0
        change = changes s t 0 l (robust_at s.lists t) (word_at s.words 0) (health_word_at s.words 0)
            (library_at s 0).count k t0 tl tr ml h.all.shape refl call
            (λ e. (h.all.shape.no_word, h.all.shape.no_health, refl)) (λ e. absurd (true≢false (sym e)))
            (λ e. absurd (true≢false (sym e)))
            (λ u a d. record {
              kind = refl;
              robust = refl;
              owner = λ o. o;
              other = λ o. o;
              same = λ o. (refl, refl, refl);
              ended = λ r n e. (refl, e);
            })

        rest : SoundExcept (λ u. u ≡ t) lined
        rest = subst (SoundExcept (λ u. u ≡ t)) lined_same (change_kept (exempt_one h t) change)

        here : line_at lined t ≡ l
        here = get_or-set_same s.lines t l Idle tl

        living : is_living k ≡ is_living s.kernel
        living = λ i u. call.living u i

        cell : (j : ℕ) → cell_at lined j ≡ cell_at s j
        cell j = λ i. record (cell_at s j) { state_owner = state j (cases_eq j 0) i }
          where
            state : (j : ℕ) → (j ≡ 0) ⊎ (j ≢ 0) → state_at k j ≡ state_at s.kernel j
            state j (inl e) = ap (state_at k) e ∙ kernel.shape.no_mutex
                ∙ sym (ap (state_at s.kernel) e ∙ h.kernel.shape.no_mutex)
            state j (inr d) = call.states j d

    -- if the others know the same of each other, and t is blocked as it was, who was found blocked stays so
    pub lined_frames : ((u : ℕ) → (seat_at k u).status ≡ status_at s u) → Follows (line_at s t) l
        → (may_enlist (line_at s t) ≡ false → WasBlockedIn s lined t) → Frames s lined
    lined_frames status follows here = frames_by s lined t (length-set s.lines t l)
        (λ u d. get_or-set_other s.lines t u l Idle d)
        (λ u d. was_same s lined u
        (λ i. call_at (health_at s) (uses_of s) (get_or-set_other s.lines t u l Idle d i) (status u i)) (status u))
        (subst (Follows (line_at s t)) (sym (get_or-set_same s.lines t l Idle tl)) follows) here

    -- t's call then
    pub lined_call : shown_call lined t ≡ call_at (health_at s) (uses_of s) l (seat_at k t).status
    lined_call = ap (λ b. call_at (health_at s) (uses_of s) b (seat_at k t).status) (get_or-set_same s.lines t l Idle tl)

  -- over the same kernel it shows the world with the call that is at that line
  pub lined_shown : (y : HistoryVariables) → IsSound (with_line t l s) → (c : Option Call)
      → call_at (health_at s) (uses_of s) l (status_at s t) ≡ c
      → world_of (with_line t l s) y ≡ with_thread t (record (thread_at (world_of s y) t) { call = c }) (world_of s y)
  lined_shown y sound c e =
      ap (λ v. world_of v y) (sym (lined_same s.kernel))
      ∙ world_shown s t 0 l (robust_at s.lists t) (word_at s.words 0) (health_word_at s.words 0)
      (library_at s 0).count s.kernel t0 tl tr ml h.all.shape (λ u d. refl)
      (λ u d. ap (λ v. call_at (health_at v) (uses_of s) (line_at s u) (status_at s u)) (lined_same s.kernel)) y c
      (subst IsShaped (sym (lined_same s.kernel)) sound.all.shape) (λ u. refl) refl
      (ap (λ v. call_at (health_at v) (uses_of s) l (status_at s t)) (lined_same s.kernel) ∙ e)
      ∙ (λ i. with_thread t (record (thread_at (world_of s y) t) { call = c }) (stays i))
    where
      stays : with_mutex 0 (mutex_of (cell_at s 0)) (world_of s y) ≡ world_of s y
      stays =
          ap (λ z. with_mutex 0 z (world_of s y)) (sym (mutex_seen h.all.shape y 0))
          ∙ (λ i. record (world_of s y) { mutexes = set-get_or (world_of s y).mutexes 0 no_mutex i })
