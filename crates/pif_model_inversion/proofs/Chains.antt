-- Who runs while a thread waits, in one state.
use Rattle.std.proofs.Common.{◌≡◌, ◌≢◌, ◌⊎◌, ◌≤◌, ℕ, Bool, true, false, ◌==◌, List, refl, sym, ap, ◌∙◌, subst, inl, inr, arith, if◌then◌else◌}
use Rattle.std.specs.List.{list_any}
use Rattle.std.proofs.lemmas.Bool.{true≢false, cases_eq}
use Rattle.pif_types.specs.Bounds.{Bounds}
use Rattle.pif_model.specs.declared.events.Entry.{Entry}
use Rattle.pif_model.specs.Graph.{Reaches}
use Rattle.pif_model.specs.Graph.Reaches.{here, hop}
use Rattle.pif_model.specs.Posix.{World, WaitsFor, IsRun, thread_at, mutex_at, is_thread, is_living, rests, sleeps, effective_of}
use Rattle.pif_model.specs.Soundness.{waited_in}
use Rattle.pif_model.specs.Standing.{IsPick}
use Rattle.pif_model_lemmas.proofs.Cycles.{Reaches-trans, reaches-alone}
use Rattle.pif_model_lemmas.proofs.Waiting.{named-from_pair}
use Rattle.pif_model_simulation.proofs.runs.Holding.{same_request}
use Rattle.pif_model_simulation.proofs.runs.AllHolding.{caller_lives, living_is_thread}
use Rattle.pif_model_simulation.proofs.runs.Holders.{IsHeld-IsRun}
use Rattle.pif_model_simulation.proofs.runs.Priority.{effective_is_greatest}
use Rattle.pif_model_inversion.specs.Inversion.{IsReady, IsHighestAwake, RunsNoLower}

-- of two chains from the same thread, if each thread waits for one at most, one is a part of the other
pub chains_meet : {W : ℕ → ℕ → Type 0} → ((u a b : ℕ) → W u a → W u b → a ≡ b) → {x y z : ℕ} → Reaches W x y → Reaches W x z
    → Reaches W y z ⊎ Reaches W z y
chains_meet {W} once {z = z} (here e) s = inl (subst (λ v. Reaches W v z) e s)
chains_meet {W} once {y = y} r (here f) = inr (subst (λ v. Reaches W v y) f r)
chains_meet {W} once {z = z} (hop {u = u} {v = v} a r) (hop {v = o} b s) =
    chains_meet once r (subst (λ k. Reaches W k z) (once u o v b a) s)

module _ (l : Bounds) (h : List Entry) (r : List World) (w : World) (run : IsRun l h r w) where
  -- who waits lives
  pub waiter_lives : (u t : ℕ) → WaitsFor w u t → is_living w u ≡ true
  waiter_lives u t k =
      caller_lives (IsHeld-IsRun l run) u _ (((IsHeld-IsRun l run).each u).waiting k.mutex k.among).call

  -- and for one thread at a time
  pub waits_for_one : (u a b : ℕ) → WaitsFor w u a → WaitsFor w u b → a ≡ b
  waits_for_one u a b x y =
      let held = IsHeld-IsRun l run in
      let k = (held.each u).waiting x.mutex x.among in
      let j = (held.each u).waiting y.mutex y.among in
      sym x.owned ∙ ap (λ m. (mutex_at w m).owner) (sym k.waits ∙ ap waited_in (same_request k.call j.call) ∙ j.waits) ∙ y.owned

  -- who doesn't rest waits for nobody
  pub awake_waits_for_nobody : (t : ℕ) → rests w t ≡ false → (z : ℕ) → WaitsFor w t z → ⊥
  awake_waits_for_nobody t awake z a = true≢false (sym (go (sleeps (thread_at w t).call)) ∙ awake)
    where
      go : (b : Bool) → (if b then true else list_any (λ p. p.0 == t) w.waiters) ≡ true
      go true = refl
      go false = named-from_pair w.waiters t a.mutex a.among

  living_added : (t : ℕ) → is_living w t ≡ true → is_thread w t ≡ true
  living_added t e = living_is_thread w t (IsHeld-IsRun l run).orderly e

  -- who reaches a living thread lives
  pub reaching_lives : (u t : ℕ) → is_living w t ≡ true → Reaches (WaitsFor w) u t → is_living w u ≡ true
  reaching_lives u t e (here same) = subst (λ k. is_living w k ≡ true) (sym same) e
  reaching_lives u t e (hop {v = v} a q) = waiter_lives u v a

  pub reaching_is_thread : (u t : ℕ) → is_living w t ≡ true → Reaches (WaitsFor w) u t → is_thread w u ≡ true
  reaching_is_thread u t e q = living_added u (reaching_lives u t e q)

  -- an effective priority is no less than the base priority
  pub own_priority : (u : ℕ) → is_thread w u ≡ true → (thread_at w u).base ≤ effective_of w u
  own_priority u added = (effective_is_greatest l h r w run u added).greatest u added (here refl)

  -- along a chain effective priorities don't fall
  pub effective_grows : (u t : ℕ) → is_living w t ≡ true → Reaches (WaitsFor w) u t → effective_of w u ≤ effective_of w t
  effective_grows u t e q =
      let a = (effective_is_greatest l h r w run u (reaching_is_thread u t e q)).attained in
      omega (arith, a.3, (effective_is_greatest l h r w run t (living_added t e)).greatest a.0 a.1 (Reaches-trans a.2 q))

  -- who runs has at least the effective priority of who waits for somebody awake
  pub runs_no_lower : (high end pick : ℕ) → Reaches (WaitsFor w) high end → IsReady w end → IsPick w pick → RunsNoLower w high pick
  runs_no_lower high end pick q e p = record {
    somebody = best.0;
    no_lower = no_lower;
    lender = from.0;
    lends = from.2;
    living = reaching_lives from.0 pick runs from.2;
    by = omega (arith, no_lower, from.3);
  }
    where
      best : (pick ≢ 0) × (effective_of w end ≤ effective_of w pick)
      best = p.greatest end e.living e.awake

      runs : is_living w pick ≡ true
      runs = (p.runs best.0).0

      no_lower : effective_of w high ≤ effective_of w pick
      no_lower = omega (arith, effective_grows high end e.living q, best.1)

      from : (u : ℕ) × (is_thread w u ≡ true) × Reaches (WaitsFor w) u pick × ((thread_at w u).base ≡ effective_of w pick)
      from = (effective_is_greatest l h r w run pick (living_added pick runs)).attained

  -- who waits doesn't sleep in its call
  waiter_sleeps_not : (u t : ℕ) → WaitsFor w u t → sleeps (thread_at w u).call ≡ false
  waiter_sleeps_not u t k = ap sleeps (((IsHeld-IsRun l run).each u).waiting k.mutex k.among).call

  -- nor does who doesn't rest
  pub awake_sleeps_not : (t : ℕ) → rests w t ≡ false → sleeps (thread_at w t).call ≡ false
  awake_sleeps_not t awake = go (sleeps (thread_at w t).call) awake
    where
      go : (b : Bool) → (if b then true else list_any (λ p. p.0 == t) w.waiters) ≡ false → b ≡ false
      go true e = e
      go false e = refl

  -- nor does who reaches one that doesn't rest
  reaching_sleeps_not : (u t : ℕ) → rests w t ≡ false → Reaches (WaitsFor w) u t → sleeps (thread_at w u).call ≡ false
  reaching_sleeps_not u t awake (here same) =
      subst (λ k. sleeps (thread_at w k).call ≡ false) (sym same) (awake_sleeps_not t awake)
  reaching_sleeps_not u t awake (hop {v = v} a q) = waiter_sleeps_not u v a

  -- if who waits is above all others, who runs is the end of its chain
  pub end_runs : (high end pick : ℕ) → Reaches (WaitsFor w) high end → IsReady w end → IsHighestAwake w high → IsPick w pick → pick ≡ end
  end_runs high end pick q e above p = by_lender (cases_eq f.lender high)
    where
      f : RunsNoLower w high pick
      f = runs_no_lower high end pick q e p

      meets : Reaches (WaitsFor w) pick end ⊎ Reaches (WaitsFor w) end pick → pick ≡ end
      meets (inl a) = sym (reaches-alone pick (awake_waits_for_nobody pick (p.runs f.somebody).1) refl a)
      meets (inr a) = reaches-alone end (awake_waits_for_nobody end e.awake) refl a

      by_lender : (f.lender ≡ high) ⊎ (f.lender ≡ high → ⊥) → pick ≡ end
      by_lender (inl same) = meets (chains_meet waits_for_one (subst (λ k. Reaches (WaitsFor w) k pick) same f.lends) q)
      by_lender (inr other) = absurd (omega (arith, above f.lender f.living (reaching_sleeps_not f.lender pick (p.runs f.somebody).1 f.lends) other, own_priority high (reaching_is_thread high end e.living q), f.by))
