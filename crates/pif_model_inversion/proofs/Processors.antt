-- Who runs on several processors while a thread waits.
use Rattle.std.proofs.Common.{◌≡◌, ◌≢◌, ◌⊎◌, ◌≤◌, ℕ, true, false, ◌||◌, List, [], ◌∷◌, eqb, refl, sym, ap, ◌∙◌, subst, inl, inr, arith, eq-eqb}
use Rattle.std.specs.List.{IsDistinct}
use Rattle.std.proofs.lemmas.Bool.{true≢false, cases_eq, cases_Bool, ne_eqb}
use Rattle.std.proofs.lemmas.Map.Keys.{IsDistinct-cons}
use Rattle.pif_types.specs.Bounds.{Bounds}
use Rattle.pif_model.specs.declared.events.Entry.{Entry}
use Rattle.pif_model.specs.Graph.{Reaches}
use Rattle.pif_model.specs.Posix.{World, WaitsFor, IsRun, effective_of}
use Rattle.pif_model.specs.Standing.{IsPick}
use Rattle.pif_model_inversion.specs.Inversion.{IsReady, RunOn, is_one_of}
use Rattle.pif_model_inversion.proofs.Chains.{effective_grows}

-- who is among one thread is that one
one_of_single : (p t : ℕ) → is_one_of (p ∷ []) t ≡ true → p ≡ t
one_of_single p t h = go (cases_eq p t)
  where
    go : (p ≡ t) ⊎ (p ≡ t → ⊥) → p ≡ t
    go (inl e) = e
    go (inr d) = absurd (true≢false (sym h ∙ ap (λ b. b || false) (ne_eqb p t d)))

-- who runs next runs on one processor
pick_runs : (w : World) (p : ℕ) → p ≢ 0 → IsPick w p → RunOn w 1 (p ∷ [])
unfolding IsDistinct
pick_runs w p some picked = record {
  distinct = IsDistinct-cons eqb p [] tt tt;
  ready = λ t e. subst (IsReady w) (one_of_single p t e)
      (record { living = (picked.runs some).0; awake = (picked.runs some).1 });
  busy = inl refl;
  greatest = λ t u ready out e. subst (λ k. effective_of w t ≤ effective_of w k) (one_of_single p u e)
      (picked.greatest t ready.living ready.awake).1;
}

module _ (l : Bounds) (h : List Entry) (r : List World) (w : World) (run : IsRun l h r w) where
  -- the end of a chain is among those that run, or all of these have at least the effective priority of its beginning
  pub end_or_no_lower : (high end : ℕ) → Reaches (WaitsFor w) high end → IsReady w end → (k : ℕ) (running : List ℕ) → RunOn w k running
      → (is_one_of running end ≡ true) ⊎ ((t : ℕ) → is_one_of running t ≡ true → effective_of w high ≤ effective_of w t)
  end_or_no_lower high end q ready k running on = go (cases_Bool (is_one_of running end))
    where
      go : (is_one_of running end ≡ true) ⊎ (is_one_of running end ≡ false)
          → (is_one_of running end ≡ true) ⊎ ((t : ℕ) → is_one_of running t ≡ true → effective_of w high ≤ effective_of w t)
      go (inl y) = inl y
      go (inr n) =
          inr (λ t e. omega (arith, effective_grows l h r w run high end ready.living q, on.greatest end t ready n e))

  -- on one processor that is who runs next
  pub one_no_lower : (high end pick : ℕ) → Reaches (WaitsFor w) high end → IsReady w end → IsPick w pick
      → RunOn w 1 (pick ∷ []) × (effective_of w high ≤ effective_of w pick)
  one_no_lower high end pick q ready picked =
      (on, go (end_or_no_lower high end q ready 1 (pick ∷ []) on))
    where
      on : RunOn w 1 (pick ∷ [])
      on = pick_runs w pick (picked.greatest end ready.living ready.awake).0 picked

      go : (is_one_of (pick ∷ []) end ≡ true)
          ⊎ ((t : ℕ) → is_one_of (pick ∷ []) t ≡ true → effective_of w high ≤ effective_of w t)
          → effective_of w high ≤ effective_of w pick
      go (inl y) =
          let e = one_of_single pick end y in
          omega (arith, effective_grows l h r w run high end ready.living q, ap (effective_of w) e)
      go (inr all) = all pick (ap (λ b. b || false) (eq-eqb pick pick refl))
