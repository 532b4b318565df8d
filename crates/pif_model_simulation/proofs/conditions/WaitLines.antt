-- The lines of pthread_cond_wait up to where it gives its mutex up, none of which makes a kernel call: each step is an
-- entry of the POSIX machine and keeps the invariant.
use Rattle.std.proofs.Common.{◌≡◌, ◌≢◌, ℕ, ◌<◌, ◌≤◌, true, ◌==◌, refl, sym, ap, ◌∙◌, subst, arith, eq-eqb}
use Rattle.std.proofs.lemmas.Bool.{true≢false}
use Rattle.pif_types.specs.declared.requests.Request.TheVariants.{Wait}
use Rattle.pif_model.specs.declared.lines.Line.TheVariants.{Idle}
use Rattle.pif_model.specs.declared.lines.Place.TheVariants.{Load, Give, LoadUses}
use Rattle.pif_model.specs.declared.lines.GiveStep.TheVariants.{SetPending, Release}
use Rattle.pif_model.specs.declared.lines.Purpose.TheVariants.{ToPark}
use Rattle.pif_model.specs.Word.{health_word_at}
use Rattle.pif_model.specs.Posix.{Mutex, Variable, mutex_at, variable_at, names_known}
use Rattle.pif_model.specs.World.Progress.{Checked, Enlisted}
use Rattle.pif_model.specs.Posix.Effect.{check_wait, enlist}
use Rattle.pif_model.specs.Posix.ChecksWait.{other_mutex, not_owner, held_more, checked}
use Rattle.pif_model.specs.PiKernel.{is_living}
use Rattle.pif_model.specs.RobustList.{robust_at}
use Rattle.pif_model.specs.Table.{Table, cell_at, has_mutex, has_cond, bound_to, uses_of, library_at, status_at}
use Rattle.pif_model.specs.Lines.{wait_load, wait_uses}
use Rattle.pif_model.specs.Projection.{HistoryVariables, world_of}
use Rattle.pif_model.specs.Soundness.{use_at, MeetsAll, needs}
use Rattle.pif_model_lemmas.proofs.kernel.LineCases.{wait_load_cases, wait_uses_cases}
use Rattle.pif_model_simulation.proofs.Named.{second}
use Rattle.pif_model_simulation.proofs.Shown.{mutex_seen, variable_seen}
use Rattle.pif_model_simulation.proofs.Agreement.{quiet}
use Rattle.pif_model_simulation.proofs.Steps.{GoKeeps, Going, going_named, going_met, going_called, going_bound, going_once, going_own, going_ready}
use Rattle.pif_model_simulation.proofs.Local.{going_cell}
use Rattle.pif_model_simulation.proofs.LocalLines.{RowAfter, goes_alone, answers_alone, row_same, settled_so_far}

-- 0 is not 1
zero_not_one : (a : ℕ) → a ≡ 0 → a ≢ 1
zero_not_one a e f = absurd (omega arith)

module _ (s : Table) (t c m : ℕ) where
  -- the mutex of a wait exists
  pub wait_mutex : names_known (has_mutex s) (has_cond s) (Wait c m) ≡ true → has_mutex s m ≡ true
  wait_mutex e = second (has_cond s c) (has_mutex s m) e

  -- load the word
  pub wait_load_kept : Going s t (Wait c m) Load → GoKeeps s t (wait_load c m t s)
  wait_load_kept g = wait_load_cases (GoKeeps s t) c m t s
      (λ b own more. answers_alone g named 22 (going_ready g) (λ y. check_wait c m (going_called g y)
      (held_more (bound y ∙ b) (owner y ∙ own) (subst (λ n. 1 < n) (sym (count y)) more) refl)) row)
      (λ b own few. goes_alone g named Checked LoadUses
      (record { joins = λ e. absurd (true≢false e); chooses = λ i z e. absurd (z (sym e)) })
      (λ j e. absurd (true≢false (sym e))) (going_ready g) refl refl
      (going_ready g, (own, ((λ o. once few), (eq-eqb (bound_to s c) m b, tt))))
      (λ y. check_wait c m (going_called g y) (checked (bound y ∙ b) (owner y ∙ own) (count y ∙ once few) refl))
      (λ r. row_same g named r refl refl refl (λ o u. settled_so_far g named refl o)))
      (λ b other. answers_alone g named 1 (going_ready g) (λ y. check_wait c m (going_called g y)
      (not_owner (bound y ∙ b) (λ o. other (sym (owner y) ∙ o)) refl)) row)
      (λ apart. answers_alone g named 22 (going_ready g) (λ y. check_wait c m (going_called g y)
      (other_mutex (λ e. apart (sym (bound y) ∙ e)) refl)) row)
    where
      named : has_mutex s m ≡ true
      named = second (has_cond s c) (has_mutex s m) (going_named g)

      h : MeetsAll (is_living s.kernel) t (status_at s t) (cell_at s m) (use_at s (Wait c m)) (needs Load)
      h = going_met g

      bound : (y : HistoryVariables) → (variable_at (world_of s y) c).mutex ≡ bound_to s c
      bound y = ap (λ (x : Variable). x.mutex) (variable_seen g.sound.all.shape y c)

      owner : (y : HistoryVariables) → (mutex_at (world_of s y) m).owner ≡ (cell_at s m).word.number
      owner y = ap (λ (x : Mutex). x.owner) (mutex_seen g.sound.all.shape y m)

      count : (y : HistoryVariables) → (mutex_at (world_of s y) m).count ≡ (cell_at s m).count
      count y = ap (λ (x : Mutex). x.count) (mutex_seen g.sound.all.shape y m)

      once : (cell_at s m).count ≤ 1 → (cell_at s m).count ≡ 1
      once few = let e = (going_cell g (second (has_cond s c) (has_mutex s m) (going_named g))).count.some in
          omega arith

      row : (library_at s m).robust ≡ true → RowAfter s t m (cell_at s m) Idle (robust_at s.lists t)
      row r = let n = second (has_cond s c) (has_mutex s m) (going_named g) in
          row_same g n r refl refl refl (λ o u. settled_so_far g n refl o)

  -- load the condition word
  pub wait_uses_kept : Going s t (Wait c m) LoadUses → GoKeeps s t (wait_uses c m t s)
  wait_uses_kept g = wait_uses_cases (GoKeeps s t) c m t s
      (λ robust. goes_alone g named (Enlisted true) (Give SetPending (ToPark (uses_of s c))) (quiet refl refl)
      (λ j. absurd (true≢false j)) (going_ready g) refl same
      (going_ready g, (going_own g, (going_once g, (going_bound g, (least, (robust, tt))))))
      (λ y. enlist c m (going_called g y) refl)
      (λ r. row_same g named r refl refl refl (λ o u. settled_so_far g named refl o)))
      (λ stalled. goes_alone g named (Enlisted true) (Give Release (ToPark (uses_of s c))) (quiet refl refl)
      (λ j. absurd (true≢false j)) (going_ready g) refl same (
        going_ready g,
        (
          going_own g,
          (
            going_once g,
            (
              going_bound g,
              (
                least,
                (
                  (λ z. zero_not_one (health_word_at s.words m) ((going_cell g named).stalled stalled).1),
                  ((λ z. ((going_cell g named).stalled stalled).0), tt),
                ),
              ),
            ),
          ),
        ),
      )
      (λ y. enlist c m (going_called g y) refl)
      (λ r. absurd (true≢false (sym r ∙ stalled))))
    where
      named : has_mutex s m ≡ true
      named = second (has_cond s c) (has_mutex s m) (going_named g)

      h : MeetsAll (is_living s.kernel) t (status_at s t) (cell_at s m) (use_at s (Wait c m)) (needs LoadUses)
      h = going_met g

      same : Enlisted (uses_of s c == uses_of s c) ≡ Enlisted true
      same = ap Enlisted (eq-eqb (uses_of s c) (uses_of s c) refl)

      least : uses_of s c ≤ uses_of s c
      least = omega arith
