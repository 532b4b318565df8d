-- The lines of pthread_cond_signal and pthread_cond_broadcast that change nothing but their thread's line: each step is
-- an entry of the POSIX machine and keeps the invariant.
use Rattle.std.proofs.Common.{◌≡◌, ◌≢◌, ℕ, ◌<◌, ◌≤◌, true, false, Some, None, refl, sym, ap, ◌∙◌, subst, arith}
use Rattle.std.proofs.lemmas.Bool.{true≢false}
use Rattle.std.proofs.lemmas.List.{set-get_or}
use Rattle.pif_types.specs.declared.requests.Request.{Request}
use Rattle.pif_types.specs.declared.requests.Request.TheVariants.{Signal, Broadcast}
use Rattle.pif_model.specs.declared.lines.Line.TheVariants.{Idle, At}
use Rattle.pif_model.specs.declared.lines.Place.{Place}
use Rattle.pif_model.specs.declared.lines.Place.TheVariants.{Wake}
use Rattle.pif_model.specs.declared.lines.WakeStep.TheVariants.{ReadUses, CountUse, Requeue, ReadAgain}
use Rattle.pif_model.specs.Word.{word_at, health_word_at}
use Rattle.pif_model.specs.Posix.{Variable, Effect, nobody, thread_at, with_progress, with_call_by, without_call, is_blocked, is_call_blocked, is_use, named_by, variable_of, names_known}
use Rattle.pif_model.specs.World.Progress.{Fresh, Has}
use Rattle.pif_model.specs.Posix.Effect.{use_variable}
use Rattle.pif_model.specs.Posix.Uses.{at_limit}
use Rattle.pif_model.specs.Posix.Effects.{none, then as first}
use Rattle.pif_model.specs.PiKernel.{is_ready, is_living}
use Rattle.pif_model.specs.Table.{Table, cell_at, has_mutex, has_cond, bound_to, uses_of, status_at, with_line}
use Rattle.pif_model.specs.Lines.{goes_to, answers, use_read}
use Rattle.pif_model.specs.Projection.{HistoryVariables, world_of}
use Rattle.pif_model.specs.Soundness.{use_at, belongs, is_using, MeetsAll, needs, mutex_by, is_unsettled, LineIsSound, ListIsSound, IsSound}
use Rattle.pif_model_lemmas.proofs.kernel.LineCases.{use_read_cases}
use Rattle.pif_model_simulation.proofs.WeakenedInvariant.{each_thread}
use Rattle.pif_model_simulation.proofs.Shown.{variable_seen, closed_progressed, call_progressed}
use Rattle.pif_model_simulation.proofs.Written.{no_call}
use Rattle.pif_model_simulation.proofs.Agreement.{Frames, Follows, quiet, was_not, call_unblocked}
use Rattle.pif_model_simulation.proofs.Steps.{GoKeeps, Going, progress_of, going_named, going_called, going_below, goes_with, answers_with, going_ready}
use Rattle.pif_model_simulation.proofs.Lined.{lined_sound, lined_frames, lined_call, lined_shown}

-- the variable of a signal or broadcast exists
pub use_named : (s : Table) (q : Request) → is_use q ≡ true → names_known (has_mutex s) (has_cond s) q ≡ true
    → has_cond s (variable_of q) ≡ true
use_named s (Signal c) u e = e
use_named s (Broadcast c) u e = e
use_named s _ u e = absurd (true≢false (sym u))

-- it comes to each place of theirs
pub use_belongs : (q : Request) (p : Place) → is_use q ≡ true → is_using p ≡ true → belongs q p ≡ true
use_belongs (Signal c) p u e = e
use_belongs (Broadcast c) p u e = e
use_belongs _ p u e = absurd (true≢false (sym u))

-- the same robust list is right at each of their places, and with no call open
use_listed : (s : Table) (t : ℕ) (q : Request) (p : Place) → is_using p ≡ true → ListIsSound s t (At q p)
    → ListIsSound s t Idle
use_listed s t q (Wake ReadUses) e b = record { pending = b.pending; half_linked = b.half_linked; listed = b.listed }
use_listed s t q (Wake (CountUse v)) e b = record { pending = b.pending; half_linked = b.half_linked; listed = b.listed }
use_listed s t q (Wake (Requeue v)) e b = record { pending = b.pending; half_linked = b.half_linked; listed = b.listed }
use_listed s t q (Wake ReadAgain) e b = record { pending = b.pending; half_linked = b.half_linked; listed = b.listed }
use_listed s t q _ e b = absurd (true≢false (sym e))

listed_use : (s : Table) (t : ℕ) (q : Request) (p : Place) → is_using p ≡ true → ListIsSound s t Idle
    → ListIsSound s t (At q p)
listed_use s t q (Wake x) e b = record { pending = b.pending; half_linked = b.half_linked; listed = b.listed }
listed_use s t q _ e b = absurd (true≢false (sym e))

-- what a thread owns is in order there
pub use_settled : (q : Request) (p : Place) → is_using p ≡ true → mutex_by is_unsettled (At q p) ≡ 0
use_settled q (Wake x) e = refl
use_settled q _ e = absurd (true≢false (sym e))

module _ (s : Table) (t : ℕ) (q : Request) (p : Place) (g : Going s t q p) (u : is_use q ≡ true)
    (using : is_using p ≡ true) where
  -- the variable
  pub use_known : has_cond s (variable_of q) ≡ true
  use_known = use_named s q u (going_named g)

  -- t's robust list
  pub use_list_idle : ListIsSound s t Idle
  use_list_idle = use_listed s t q p using (subst (ListIsSound s t) g.line (each_thread g.sound t g.known).list)

  pub use_list : (b : Place) → is_using b ≡ true → ListIsSound s t (At q b)
  use_list b e = listed_use s t q b e use_list_idle

  -- what t owns is in order
  pub use_order : (m : ℕ) → has_mutex s m ≡ true → (word_at s.words m).number ≡ t → m ≢ 0
      → ((word_at s.words m).died ≡ false) × (health_word_at s.words m ≢ 2)
  use_order m e o z = (each_thread g.sound t g.known).settled m e o
      (λ x. z (x ∙ ap (mutex_by is_unsettled) g.line ∙ use_settled q p using))

  module _ (ready : is_ready (status_at s t) ≡ true) where
    -- TO ANOTHER PLACE

    module _ (b : Place) (there : is_using b ≡ true)
        (met : MeetsAll (is_living s.kernel) t (status_at s t) (cell_at s (named_by q)) (use_at s q) (needs b)) where
      line_sound : LineIsSound s t (At q b)
      line_sound = record { named = going_named g; belongs = use_belongs q b u there; needs = met }

      sound : IsSound (with_line t (At q b) s)
      sound = lined_sound s t (At q b) g.sound g.known s.kernel g.sound.kernel
          (no_call (λ j. j ≡ t) (bound_to s) s.kernel 0) refl ready line_sound (use_list b there)
          (λ m e o away. use_order m e o (λ z. away (z ∙ sym (use_settled q b there))))

      -- to go there with no effect
      pub use_goes : Follows (At q p) (At q b) → progress_of s t q b ≡ progress_of s t q p
          → is_blocked (progress_of s t q b) ≡ false → GoKeeps s t (goes_to t q b s)
      use_goes follows same free = goes_with g (with_line t (At q b) s) sound refl g.known ready frames
          (λ y. none (lined_shown s t (At q b) g.sound g.known y sound (thread_at (world_of s y) t).call
          (ap (λ a. Some (record { request = q; progress = a })) same ∙ sym (going_called g y))
          ∙ (λ i. record (world_of s y) { threads = set-get_or (world_of s y).threads t nobody i })))
        where
          frames : Frames s (with_line t (At q b) s)
          frames = lined_frames s t (At q b) g.sound g.known s.kernel (λ j. refl)
              (subst (λ l. Follows l (At q b)) (sym g.line) follows)
              (λ e. was_not s (with_line t (At q b) s) t (λ c. ap (is_call_blocked c)
              (lined_call s t (At q b) g.sound g.known s.kernel)
              ∙ call_unblocked q (progress_of s t q b) free c))

    -- ANSWERED

    -- the call is closed
    pub closed_sound : IsSound (with_line t Idle s)
    closed_sound = lined_sound s t Idle g.sound g.known s.kernel g.sound.kernel
        (no_call (λ j. j ≡ t) (bound_to s) s.kernel 0) refl ready ready use_list_idle use_order

    -- who was found blocked stays so
    pub closed_frames : Frames s (with_line t Idle s)
    closed_frames = lined_frames s t Idle g.sound g.known s.kernel (λ j. refl) (quiet refl refl)
        (λ e. was_not s (with_line t Idle s) t (λ c. ap (is_call_blocked c)
        (lined_call s t Idle g.sound g.known s.kernel)))

    -- it shows the world in which the call has a result and is closed
    pub closed_shown : (n : ℕ) (y : HistoryVariables)
        → world_of (with_line t Idle s) y ≡ with_call_by t without_call (with_progress t (Has n) (world_of s y))
    closed_shown n y = lined_shown s t Idle g.sound g.known y closed_sound None refl
        ∙ sym (closed_progressed (world_of s y) t (Has n) (going_below g y))

    -- to answer n with an effect on the call alone
    pub use_answers : (n : ℕ)
        → ((y : HistoryVariables) → Effect t (world_of s y) (with_progress t (Has n) (world_of s y))) → GoKeeps s t (answers t n s)
    use_answers n effect = answers_with g (with_line t Idle s) n (λ y. with_progress t (Has n) (world_of s y)) closed_sound
        refl g.known ready closed_frames (λ y. first (effect y) (none refl))
        (λ y. call_progressed (world_of s y) t (Has n) _ (going_below g y) (going_called g y))
        (λ y. closed_shown n y)

    -- LOADING

    -- if the call has had no effect, how often the variable was used is read
    pub use_read_kept : progress_of s t q p ≡ Fresh → Follows (At q p) (At q (Wake (CountUse (uses_of s (variable_of q)))))
        → GoKeeps s t (use_read q (uses_of s (variable_of q)) t s)
    use_read_kept fresh follows = use_read_cases (GoKeeps s t) q (uses_of s (variable_of q)) t s
        (λ e. use_answers 75 (λ y. use_variable q
        (going_called g y ∙ ap (λ a. Some (record { request = q; progress = a })) fresh) u
        (at_limit (ap (λ (x : Variable). x.uses) (variable_seen g.sound.all.shape y (variable_of q)) ∙ e) refl)))
        (λ d. use_goes (Wake (CountUse (uses_of s (variable_of q)))) refl
        (ready, (below d (g.sound.all.conds (variable_of q) use_known).uses, tt)) follows (sym fresh) refl)
      where
        below : uses_of s (variable_of q) ≢ s.limits.signals → uses_of s (variable_of q) ≤ s.limits.signals
            → uses_of s (variable_of q) < s.limits.signals
        below d e = omega arith

module _ (s : Table) (t : ℕ) (q : Request) (u : is_use q ≡ true) where
  -- load the condition word
  pub use_load_kept : Going s t q (Wake ReadUses) → GoKeeps s t (use_read q (uses_of s (variable_of q)) t s)
  use_load_kept g = use_read_kept s t q (Wake ReadUses) g u refl (going_ready g) refl (quiet refl refl)

  -- load it again
  pub use_reload_kept : Going s t q (Wake ReadAgain) → GoKeeps s t (goes_to t q (Wake (Requeue (uses_of s (variable_of q)))) s)
  use_reload_kept g = use_goes s t q (Wake ReadAgain) g u refl (going_ready g) (Wake (Requeue (uses_of s (variable_of q)))) refl
      (going_ready g, tt) (record { joins = λ e. e; chooses = λ c z e. e }) refl refl
