-- The lines of pthread_mutex_unlock and of pthread_mutex_consistent: each step is an entry of the POSIX machine and
-- keeps the invariant.
use Rattle.std.proofs.Common.{◌≡◌, ◌≢◌, ℕ, ◌≤◌, Bool, true, false, [], ◌∷◌, refl, sym, ap, ◌∙◌, subst, arith}
use Rattle.std.proofs.lemmas.Bool.{true≢false}
use Rattle.pif_types.specs.declared.requests.Request.TheVariants.{Unlock, Consistent}
use Rattle.pif_model.specs.declared.events.Seen.TheVariants.{Went, Answered}
use Rattle.pif_model.specs.declared.lines.Line.TheVariants.{Idle, At}
use Rattle.pif_model.specs.declared.lines.Place.TheVariants.{Load, Give, Clear, Repair}
use Rattle.pif_model.specs.declared.lines.GiveStep.{GiveStep}
use Rattle.pif_model.specs.declared.lines.GiveStep.TheVariants.{SetPending, Release, CallUnlock}
use Rattle.pif_model.specs.declared.lines.Purpose.TheVariants.{ToUnlock}
use Rattle.pif_model.specs.declared.lines.Footing.TheVariants.{Unowned}
use Rattle.pif_model.specs.declared.lines.RepairStep.TheVariants.{CheckHealth, StoreFine}
use Rattle.pif_model.specs.Graph.{has_waiter}
use Rattle.pif_model.specs.Word.{free_word, word_at, health_word_at}
use Rattle.pif_model.specs.World.Progress.{Has}
use Rattle.pif_model.specs.Posix.Effect.{unlock}
use Rattle.pif_model.specs.Posix.Unlocks.{released}
use Rattle.pif_model.specs.PiKernel.{is_living, state_at}
use Rattle.pif_model.specs.RobustList.{robust_at}
use Rattle.pif_model.specs.Table.{Table, cell_at, has_thread, library_at, status_at, with_word, with_health_word}
use Rattle.pif_model.specs.Lines.{answers, given_up, give_line, unlock_load, consistent_load, consistent_health}
use Rattle.pif_model.specs.Projection.{health_of, health_at}
use Rattle.pif_model.specs.Soundness.{CellIsSound, use_at, MeetsAll, give_needs, needs, is_last}
use Rattle.pif_model.specs.Soundness.Need.{MayRun, Owns, HoldsOnce}
use Rattle.pif_model_lemmas.proofs.kernel.LineCases.{unlock_load_cases, ends_by_cases, consistent_load_cases, consistent_health_cases}
use Rattle.pif_model_simulation.proofs.Written.{mutex_of}
use Rattle.pif_model_simulation.proofs.Steps.{KeepsGo, GoKeeps, Going, going_named, going_met, going_health, going_own, going_ready, going_robust, going_died}
use Rattle.pif_model_simulation.proofs.Facts.{is_ready_need}
use Rattle.pif_model_simulation.proofs.Agreement.{quiet}
use Rattle.pif_model_simulation.proofs.Does.Does.{unlocks_not_own, unlocks_own, gives_up_inconsistent, consistent_stalled, consistent_other, consistent_in_order, consistent_made}
use Rattle.pif_model_simulation.proofs.Healths.{health-inconsistent, inconsistent-word}
use Rattle.pif_model_simulation.proofs.Local.{going_cell}
use Rattle.pif_model_simulation.proofs.LocalLines.{RowAfter, goes, answers_local, row_same, row_other, row_stated, settled_so_far}
use Rattle.pif_model_simulation.proofs.mutexes.TakingLines.{states, health_table, unlocks_one_kept}
use Rattle.pif_model_simulation.proofs.mutexes.GivingUp.{GivesUpTo}
use Rattle.pif_model_simulation.proofs.mutexes.GivingSteps.{GivesLast, GivesUpBy, met_by, met_behind, gives_to, frees_kept, hands_kept, hands_answered, handed_over, gives_kept}

-- numbers that differ
zero_not_one : (a : ℕ) → a ≡ 0 → a ≢ 1
zero_not_one a e f = absurd (omega arith)

zero_not_two : (a : ℕ) → a ≡ 0 → a ≢ 2
zero_not_two a e f = absurd (omega arith)

module _ (s : Table) (t m : ℕ) where
  -- UNLOCK

  -- load the word
  pub unlock_load_kept : Going s t (Unlock m) Load → GoKeeps s t (unlock_load t m s)
  unlock_load_kept g = unlock_load_cases (GoKeeps s t) t m s
      (λ own more. unlocks_one_kept g (going_named g) (going_ready g) refl own
      (λ r. row_same g (going_named g) r refl refl refl (λ o u. settled_so_far g (going_named g) refl o)) refl more)
      (λ own few robust. goes g (going_named g) (Give SetPending ToUnlock) (quiet refl refl) (going_ready g) refl refl
      (going_ready g, (own, ((λ z. once few), (robust, tt))))
      (λ r. row_same g (going_named g) r refl refl refl (λ o u. settled_so_far g (going_named g) refl o)))
      (λ own few stalled. goes g (going_named g) (Give Release ToUnlock) (quiet refl refl) (going_ready g) refl refl (
        going_ready g,
        (
          own,
          (
            (λ z. once few),
            (
              (λ z. zero_not_one (health_word_at s.words m) (c.stalled stalled).1),
              ((λ z. (c.stalled stalled).0), tt),
            ),
          ),
        ),
      )
      (λ r. absurd (true≢false (sym r ∙ stalled))))
      (λ other. answers_local g (going_named g) 1 (going_ready g) (unlocks_not_own refl refl other refl refl)
      (λ r. row_other g (going_named g) r refl refl other other))
    where
      c : CellIsSound (has_thread s) (has_waiter s.kernel.waiters m) (cell_at s m)
      c = going_cell g (going_named g)

      h : MeetsAll (is_living s.kernel) t (status_at s t) (cell_at s m) (use_at s (Unlock m)) (needs Load)
      h = going_met g

      once : (cell_at s m).count ≤ 1 → (cell_at s m).count ≡ 1
      once few = omega (arith, (going_cell g (going_named g)).count.some)

  -- at the last steps it knows that the mutex isn't inconsistent, and that its health word says its health
  in_order : (x : GiveStep) → is_last x ≡ true → Going s t (Unlock m) (Give x ToUnlock)
      → (health_word_at s.words m ≢ 1) × (health_of (health_word_at s.words m) false ≡ health_at s m)
  in_order Release e g = let own = going_own g in
      (going_health g own, ap (health_of (health_word_at s.words m)) (sym (going_died g own)))
  in_order CallUnlock e g = let own = going_own g in
      (going_health g own, ap (health_of (health_word_at s.words m)) (sym (going_died g own)))
  in_order _ e g = absurd (true≢false (sym e))

  -- it gives the mutex up
  abbrev last_unlock : GivesLast s t (Unlock m) ToUnlock
  last_unlock = record {
    after = Has 0;
    named = λ e. e;
    calls = refl;
    rests = refl;
    blocked = λ e. absurd (true≢false (sym e));
    order = in_order;
    releases = λ waited w z o n i u e. unlocks_own refl refl o n i u refl e;
    passes = λ w v call o n i p. unlock m call (released o n i p);
  }

  abbrev by_unlock : GivesUpBy s t (Unlock m) ToUnlock
  by_unlock = record {
    ours = λ x. refl;
    last = last_unlock;
    step = λ x c h. met_behind s t (Unlock m) c (MayRun ∷ Owns ∷ HoldsOnce ∷ []) (give_needs x) h;
    whole = λ x z c d h o n k.
        (met_by is_ready_need s t (Unlock m) c (needs (Give x ToUnlock)) h, (o, ((λ e. n), k)));
    spoils = λ waited w z o n i e. gives_up_inconsistent refl refl o n i refl e;
  }

  module _ {x : GiveStep} (last : is_last x ≡ true) (g : Going s t (Unlock m) (Give x ToUnlock)) where
    -- once a robust mutex is given up, its name goes from the pending field
    to_clear : (library_at s m).robust ≡ true → GivesUpTo s t (Unlock m) (Give x ToUnlock) (At (Unlock m) (Clear Unowned 0))
    to_clear robust = gives_to last_unlock last g (Clear Unowned 0) refl refl refl refl refl
        (λ c other e. (going_ready g, (other, (e ∙ robust, tt))))

    -- and with a stalled one all is done
    to_idle : (library_at s m).robust ≡ false → GivesUpTo s t (Unlock m) (Give x ToUnlock) Idle
    to_idle stalled = record {
      names = tt;
      pending = λ r. absurd (true≢false (sym r ∙ stalled));
      half_linked = λ r. absurd (true≢false (sym r ∙ stalled));
      knows = λ c other r. going_ready g;
      follows = quiet refl refl;
    }

    frees : has_waiter s.kernel.waiters m ≡ false
        → GoKeeps s t (given_up (Unlock m) ToUnlock t m (with_word m free_word s))
    frees none = ends_by_cases (GoKeeps s t) (Unlock m) (Clear Unowned 0) 0 t m (with_word m free_word s)
        (λ robust. frees_kept last_unlock last g Went (At (Unlock m) (Clear Unowned 0)) (to_clear robust)
        (Clear Unowned 0, refl, refl) none)
        (λ stalled. frees_kept last_unlock last g (Answered 0) Idle (to_idle stalled) (refl, refl) none)

    hands : state_at s.kernel m ≢ 0 → GoKeeps s t (given_up (Unlock m) ToUnlock t m (handed_over s m))
    hands state = ends_by_cases (GoKeeps s t) (Unlock m) (Clear Unowned 0) 0 t m (handed_over s m)
        (λ robust. hands_kept last_unlock last g (Clear Unowned 0) (to_clear robust) (λ h. refl) state)
        (λ stalled. hands_answered last_unlock last g 0 refl (to_idle stalled) state)

  -- each step of giving it up
  pub unlock_gives_kept : (x : GiveStep) → Going s t (Unlock m) (Give x ToUnlock)
      → GoKeeps s t (give_line (Unlock m) x ToUnlock t m s)
  unlock_gives_kept = gives_kept by_unlock
      (record { freed = λ x last g. frees last g; handed = λ x last g. hands last g })

  -- CONSISTENT

  -- load the word
  pub consistent_load_kept : Going s t (Consistent m) Load → GoKeeps s t (consistent_load t m s)
  consistent_load_kept g = consistent_load_cases (GoKeeps s t) t m s
      (λ robust own. goes g (going_named g) (Repair CheckHealth) (quiet refl refl) (going_ready g) refl refl (going_ready g, (own, (robust, tt)))
      (λ r. row_same g (going_named g) r refl refl refl (λ o u. settled_so_far g (going_named g) refl o)))
      (λ robust other. answers_local g (going_named g) 1 (going_ready g) (consistent_other refl refl robust other refl refl)
      (λ r. row_other g (going_named g) r refl refl other other))
      (λ stalled. answers_local g (going_named g) 22 (going_ready g) (consistent_stalled refl refl stalled refl refl)
      (λ r. absurd (true≢false (sym r ∙ stalled))))
    where
      h : MeetsAll (is_living s.kernel) t (status_at s t) (cell_at s m) (use_at s (Consistent m)) (needs Load)
      h = going_met g

  -- load the health word
  pub consistent_health_kept : Going s t (Consistent m) (Repair CheckHealth) → GoKeeps s t (consistent_health t m s)
  consistent_health_kept g = consistent_health_cases (GoKeeps s t) t m s
      (λ e. goes g (going_named g) (Repair StoreFine) (quiet refl refl) (going_ready g) refl refl (going_ready g, (going_own g, (going_robust g, ((λ o. e), tt)))) row)
      (λ e. answers_local g (going_named g) 22 (going_ready g)
      (consistent_in_order refl refl (going_robust g) (going_own g) (λ i. e (inconsistent-word (health_word_at s.words m)
      (word_at s.words m).died (settled_so_far g (going_named g) refl (going_own g)).0 i)) refl refl)
      (λ r. row_same g (going_named g) r refl refl refl (λ o u. settled_so_far g (going_named g) refl o)))
    where
      h : MeetsAll (is_living s.kernel) t (status_at s t) (cell_at s m) (use_at s (Consistent m)) (needs (Repair CheckHealth))
      h = going_met g

      row : (library_at s m).robust ≡ true → RowAfter s t m (cell_at s m) (At (Consistent m) (Repair StoreFine))
          (robust_at s.lists t)
      row r = row_same g (going_named g) r refl refl refl (λ o u. settled_so_far g (going_named g) refl o)

  -- the health word says that the mutex is fine
  pub consistent_store_kept : Going s t (Consistent m) (Repair StoreFine)
      → GoKeeps s t (answers t 0 (with_health_word m 0 s))
  consistent_store_kept g =
      let h = going_met g in
      let own : (word_at s.words m).number ≡ t = going_own g in
      let d : Bool = (word_at s.words m).died in
      let died : d ≡ false = (settled_so_far g (going_named g) refl own).0 in
      subst (KeepsGo s t (Answered 0)) (health_table g (going_named g) (going_ready g) (Answered 0) Idle 0)
      (states g (going_named g) (going_ready g) (Answered 0) Idle (quiet refl refl) d 0 (Has 0)
      (λ j e. absurd (true≢false (sym e))) own (going_robust g) (going_ready g) (refl, refl)
      (row_stated g (going_named g) d 0 (going_robust g) refl refl refl (λ o u. (died, zero_not_two 0 refl)))
      (consistent_made refl refl (going_robust g) own (health-inconsistent (health_word_at s.words m) d (going_health g own)) refl
      (ap (λ x. record (mutex_of (cell_at s m)) { health = x }) (ap (health_of 0) died))))
