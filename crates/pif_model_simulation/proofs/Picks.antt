-- What standing tells a caller: the kernel's pick runs next, an effective priority is the subject's, and a mutex's word
-- is one of those that its state allows.
use Rattle.std.proofs.Common.{◌≡◌, ◌≢◌, ℕ, ◌≤◌, true, false, refl, sym, ap, ◌∙◌, subst, if◌then◌else◌}
use Rattle.std.proofs.lemmas.Bool.{true≢false}
use Rattle.pif_model.specs.Word.{free_word}
use Rattle.pif_model.specs.Graph.{has_waiter}
use Rattle.pif_model.specs.Posix.{Mutex, Variable, mutex_at, rests, effective_of}
use Rattle.pif_model.specs.World.Health.{Fine, Inconsistent}
use Rattle.pif_model.specs.PiKernel.{is_ready, is_living, pick_in}
use Rattle.pif_model.specs.Table.{Table, cell_at, has_thread, has_mutex, uses_of, status_at}
use Rattle.pif_model.specs.Projection.{HistoryVariables, mutex_shown, world_of, health_of}
use Rattle.pif_model.specs.Soundness.{CellIsSound, IsSound}
use Rattle.pif_model.specs.Standing.{IsPick, IsPossible, IsPossibleHealth, IsPossibleUses}
use Rattle.pif_model_lemmas.proofs.Waiting.{by_test}
use Rattle.pif_model_lemmas.proofs.kernel.Picks.{pick_law, pick_some}
use Rattle.pif_model_lemmas.proofs.kernel.Facts.{living-added, ready-not_ended}
use Rattle.pif_model_simulation.proofs.Shown.{mutex_seen, variable_seen, living_seen}
use Rattle.pif_model_simulation.proofs.Effective.{effective_seen}
use Rattle.pif_model_simulation.proofs.Steps.{rests_ready, rests_not_ready}
use Rattle.pif_model_simulation.proofs.Healths.{fine-undied, health-unusable, health-inconsistent, unusable-word, inconsistent-word}

-- what was added and may run lives
living-from_ready : (s : Table) (t : ℕ) → has_thread s t ≡ true → is_ready (status_at s t) ≡ true
    → is_living s.kernel t ≡ true
living-from_ready s t k e = λ i. if k i then (if ready-not_ended (status_at s t) e i then false else true) else false

-- OWNER_DIED is set only if a mutex is not Fine
died_not_fine : (h : ℕ) → health_of h true ≢ Fine
died_not_fine h e = true≢false (fine-undied h true e)

module _ {s : Table} (h : IsSound s) (y : HistoryVariables) where
  -- a living thread that doesn't rest may run
  ready-from_awake : (t : ℕ) → is_living s.kernel t ≡ true → rests (world_of s y) t ≡ false
      → is_ready (status_at s t) ≡ true
  ready-from_awake t k awake = by_test (λ b. is_ready (status_at s t) ≡ b → b ≡ true) (is_ready (status_at s t))
      (λ _ _. refl) (λ e _. absurd (true≢false (sym (rests_not_ready h y t k e) ∙ awake))) refl

  -- the kernel's pick runs next
  pub pick_runs : IsPick (world_of s y) (pick_in s.kernel)
  pick_runs = record {
    runs = λ n. (
        let p = pick_law s.kernel h.kernel n in
        let k = living-from_ready s (pick_in s.kernel) p.added p.ready in
        (living_seen s y (pick_in s.kernel) h.all.shape ∙ k, rests_ready h y (pick_in s.kernel) k p.ready)
        );
    greatest = λ t l awake. greatest t (sym (living_seen s y t h.all.shape) ∙ l) awake;
  }
    where
      greatest : (t : ℕ) → is_living s.kernel t ≡ true → rests (world_of s y) t ≡ false
          → (pick_in s.kernel ≢ 0) × (effective_of (world_of s y) t ≤ effective_of (world_of s y) (pick_in s.kernel))
      greatest t l awake =
          let k = living-added s.kernel t l in
          let ready = ready-from_awake t l awake in
          let some = pick_some s.kernel h.kernel t k ready in (
            some,
            subst (λ f. f t ≤ f (pick_in s.kernel)) (effective_seen h y)
                ((pick_law s.kernel h.kernel some).greatest t k ready),
          )

  module _ (m : ℕ) (k : has_mutex s m ≡ true) where
    seen : mutex_at (world_of s y) m ≡ mutex_shown s m
    seen = mutex_seen h.all.shape y m

    health : (mutex_at (world_of s y) m).health ≡ health_of (cell_at s m).health (cell_at s m).word.died
    health = ap (λ (x : Mutex). x.health) seen

    cell : CellIsSound (has_thread s) (has_waiter s.kernel.waiters m) (cell_at s m)
    cell = h.all.mutexes m k

    -- of a stalled mutex nothing tells that an owner has ended
    robust-from_died : (cell_at s m).word.died ≡ true → (cell_at s m).robust ≡ true
    robust-from_died e = by_test (λ b. (cell_at s m).robust ≡ b → b ≡ true) (cell_at s m).robust (λ _ _. refl)
        (λ _ r. absurd (true≢false (sym e ∙ (cell.stalled r).0))) refl

    -- a mutex's word is one of those that the machine's state allows
    pub word_is_possible : IsPossible (world_of s y) m (cell_at s m).word
    word_is_possible = record {
      number = sym (ap (λ (x : Mutex). x.owner) seen);
      waiters = cell.contended;
      died = λ e. (
        ap (λ (x : Mutex). x.robust) seen ∙ robust-from_died e,
        λ f. died_not_fine (cell_at s m).health (ap (health_of (cell_at s m).health) (sym e) ∙ sym health ∙ f),
      );
      free = λ e f. free_seen (sym (ap (λ (x : Mutex). x.owner) seen) ∙ e)
          (fine-undied (cell_at s m).health (cell_at s m).word.died (sym health ∙ f));
      inconsistent = λ e f. by_test (λ b. (cell_at s m).word.died ≡ b → b ≡ true) (cell_at s m).word.died
          (λ _ _. refl)
          (λ _ d. absurd ((cell.clean (sym (ap (λ (x : Mutex). x.owner) seen) ∙ e) d).1
          (inconsistent-word (cell_at s m).health (cell_at s m).word.died d (sym health ∙ f)))) refl;
    }
      where
        free_seen : (cell_at s m).word.number ≡ 0 → (cell_at s m).word.died ≡ false → (cell_at s m).word ≡ free_word
        free_seen e d = λ i. record { number = e i; waiters = (cell.clean e d).0 i; died = d i }

    -- and so is its health word
    pub health_is_possible : IsPossibleHealth (world_of s y) m (cell_at s m).health
    health_is_possible = record {
      unusable = λ e. health ∙ health-unusable (cell_at s m).health (cell_at s m).word.died e;
      given_up = λ e. unusable-word (cell_at s m).health (cell_at s m).word.died (sym health ∙ e);
      inconsistent = λ e. health ∙ health-inconsistent (cell_at s m).health (cell_at s m).word.died e;
    }

    -- OWNER_DIED is set in the word of an Inconsistent mutex whose health word doesn't say so
    pub died_behind_inconsistent : (mutex_at (world_of s y) m).health ≡ Inconsistent → (cell_at s m).health ≢ 1
        → (cell_at s m).word.died ≡ true
    died_behind_inconsistent e n = by_test (λ b. (cell_at s m).word.died ≡ b → b ≡ true) (cell_at s m).word.died
        (λ _ _. refl)
        (λ _ d. absurd (n (inconsistent-word (cell_at s m).health (cell_at s m).word.died d (sym health ∙ e)))) refl

  -- the condition word of a variable is how often it was used
  pub uses_are_possible : (c : ℕ) → IsPossibleUses (world_of s y) c (uses_of s c)
  uses_are_possible c = sym (ap (λ (x : Variable). x.uses) (variable_seen h.all.shape y c))
