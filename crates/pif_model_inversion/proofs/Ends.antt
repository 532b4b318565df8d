-- Each chain of waiting has an end; and if that may not run it has ended, waits for good or is blocked on a variable.
-- So much holds wherever a core stands.
use Rattle.std.proofs.Common.{◌≡◌, ◌⊎◌, ◌<◌, ◌≤◌, ◌+◌, ℕ, zero, suc, Bool, true, false, eqb, List, [], ◌∷◌, length, Option, Some, None, refl, sym, ap, ◌∙◌, subst, inl, inr, arith, if◌then◌else◌, true≢false}
use Rattle.std.specs.List.{list_any, IsDistinct}
use Rattle.std.proofs.lemmas.Bool.{cases_Bool, cases_eq, eqb-true, false_from_ne_true, or_cases}
use Rattle.std.proofs.lemmas.Map.Keys.{IsDistinct-cons}
use Rattle.std.proofs.lemmas.Map.Steps.{length-le_from_distinct_below}
use Rattle.pif_model.specs.declared.events.Entry.{Entry}
use Rattle.pif_model.specs.declared.lines.Status.{Status}
use Rattle.pif_model.specs.Graph.{Reaches}
use Rattle.pif_model.specs.Graph.Reaches.{here, hop}
use Rattle.pif_model.specs.PiKernel.{Kernel, IsKernel, state_at, queued_on, waits_for}
use Rattle.pif_model.specs.Table.{Table}
use Rattle.pif_model.specs.Posix.{Progress, Call, World, WaitsFor, thread_at, is_living, rests, sleeps, is_blocked, variable_of, leads_to}
use Rattle.pif_model.specs.World.Progress.{Stuck, Blocked}
use Rattle.pif_model.specs.Standing.{IsPick, Stands}
use Rattle.pif_model_lemmas.proofs.Cycles.{NoCycle}
use Rattle.pif_model_lemmas.proofs.Following.{Follows, within-from_reaches, all_apart}
use Rattle.pif_model_lemmas.proofs.Hops.{Reaches-then}
use Rattle.pif_model_lemmas.proofs.Waiting.{names, pair-from_named, has_waiter-from_pair}
use Rattle.pif_model_lemmas.proofs.kernel.Facts.{state-from_waiter, waits_below}
use Rattle.pif_model_simulation.proofs.Effective.{leads_seen}
use Rattle.pif_model_simulation.proofs.runs.AllHolding.{living_is_thread}
use Rattle.pif_model_simulation.proofs.runs.Holders.{IsHeld-IsRun}
use Rattle.pif_model_simulation.proofs.runs.Priority.{chain-from_leads_to}
use Rattle.pif_model_simulation.proofs.runs.Worlds.{call_of}
use Rattle.pif_model_simulation.proofs.Shown.{threads_shown}
use Rattle.pif_model_lemmas.proofs.Numbers.{within}
use Rattle.pif_model_inversion.specs.Inversion.{RunsNoLower, IsOut, IsLost}
use Rattle.pif_model_inversion.specs.Inversion.IsOut.{ended, waits_for_good, waits_on_variable}
use Rattle.pif_model_inversion.proofs.Chains.{runs_no_lower}
use Rattle.pif_model_inversion.proofs.Confined.{blocked-from_call}

module _ (n : ℕ) (f : ℕ → ℕ) (below : (x : ℕ) → f x < n) (none : NoCycle (Follows f)) where
  -- the end of a chain
  abbrev EndOf : ℕ → Type 0
  EndOf u = (e : ℕ) × Reaches (Follows f) u e × (f e ≡ 0)

  -- the end of a chain from u on, which was reached by way of the others, all of them below n
  end_after : (fuel : ℕ) (seen : List ℕ) (u : ℕ) → IsDistinct eqb (u ∷ seen) → ((q : ℕ) → list_any (eqb q) (u ∷ seen) ≡ true → q < n)
      → ((q : ℕ) → list_any (eqb q) (u ∷ seen) ≡ true → Reaches (Follows f) q u) → n ≤ fuel + length seen → EndOf u
  end_after zero seen u distinct small reach enough =
      absurd (omega (arith, enough, length-le_from_distinct_below (u ∷ seen) n distinct small))
  end_after (suc fuel) seen u distinct small reach enough = go (end_after fuel (u ∷ seen) (f u)) (cases_eq (f u) 0)
    where
      go : (IsDistinct eqb (f u ∷ u ∷ seen) → ((q : ℕ) → list_any (eqb q) (f u ∷ u ∷ seen) ≡ true → q < n)
          → ((q : ℕ) → list_any (eqb q) (f u ∷ u ∷ seen) ≡ true → Reaches (Follows f) q (f u)) → n ≤ fuel + length (u ∷ seen) → EndOf (f u))
          → (f u ≡ 0) ⊎ (f u ≡ 0 → ⊥) → EndOf u
      go rest (inl e) = (u, here refl, e)
      go rest (inr some) = (found.0, hop (refl, some) found.1, found.2)
        where
          new : list_any (eqb (f u)) (u ∷ seen) ≡ false
          new = false_from_ne_true (list_any (eqb (f u)) (u ∷ seen)) (λ y. none u (f u) (refl, some) (reach (f u) y))

          by_small : (q : ℕ) → (eqb q (f u) ≡ true) ⊎ (list_any (eqb q) (u ∷ seen) ≡ true) → q < n
          by_small q (inl e) = subst (λ k. k < n) (sym (eqb-true q (f u) e)) (below u)
          by_small q (inr k) = small q k

          by_reach : (q : ℕ) → (eqb q (f u) ≡ true) ⊎ (list_any (eqb q) (u ∷ seen) ≡ true) → Reaches (Follows f) q (f u)
          by_reach q (inl e) = here (eqb-true q (f u) e)
          by_reach q (inr k) = Reaches-then (reach q k) (refl, some)

          found : EndOf (f u)
          found = rest (IsDistinct-cons eqb (f u) (u ∷ seen) (all_apart (f u) (u ∷ seen) new) distinct)
              (λ q k. by_small q (or_cases (eqb q (f u)) (list_any (eqb q) (u ∷ seen)) k))
              (λ q k. by_reach q (or_cases (eqb q (f u)) (list_any (eqb q) (u ∷ seen)) k)) (omega (arith, enough))

  -- each chain has one
  pub end_of : (u : ℕ) → u < n → EndOf u
  unfolding IsDistinct
  end_of u l = end_after n [] u (IsDistinct-cons eqb u [] tt tt) (λ q k. small q (or_cases (eqb q u) false k))
      (λ q k. itself q (or_cases (eqb q u) false k)) (omega arith)
    where
      small : (q : ℕ) → (eqb q u ≡ true) ⊎ (false ≡ true) → q < n
      small q (inl e) = subst (λ k. k < n) (sym (eqb-true q u e)) l
      small q (inr e) = absurd (true≢false (sym e))

      itself : (q : ℕ) → (eqb q u ≡ true) ⊎ (false ≡ true) → Reaches (Follows f) q u
      itself q (inl e) = here (eqb-true q u e)
      itself q (inr e) = absurd (true≢false (sym e))

module _ (k : Kernel) (h : IsKernel k) where
  -- nobody waits for itself in a kernel
  no_cycle : NoCycle (Follows (waits_for k))
  no_cycle t u a r =
      true≢false
      (sym (within-from_reaches (length k.seats) (waits_for k) (waits_for k t) t (waits_below k h t) (λ x some. waits_below k h x)
      (subst (λ x. Reaches (Follows (waits_for k)) x t) (sym a.0) r))
      ∙ h.acyclic t (λ z. a.1 (sym a.0 ∙ z)))

  -- who waits for nobody is not among the waiters
  unnamed : (t : ℕ) → waits_for k t ≡ 0 → names t k.waiters ≡ true → ⊥
  unnamed t e y =
      let p = pair-from_named k.waiters t y in
      state-from_waiter k h p.0 (has_waiter-from_pair k.waiters t p.0 p.1)
      (ap (λ (x : Status). state_at k (queued_on x)) (sym (h.queue t p.0 p.1)) ∙ e)

-- who rests and sleeps in its call waits for good, or is blocked on a variable
sleeper_is_out : (w : World) (t : ℕ) → rests w t ≡ true → sleeps (call_of w t) ≡ true → IsOut w t
sleeper_is_out w t resting = by_call (call_of w t) refl
  where
    by_progress : (x : Call) → call_of w t ≡ Some x → (p : Progress) → x.progress ≡ p → sleeps (Some (record x { progress = p })) ≡ true
        → IsOut w t
    by_progress x e Stuck f h = waits_for_good x.request (e ∙ ap (λ p. Some (record x { progress = p })) f)
    by_progress x e (Blocked b) f h =
        waits_on_variable (variable_of x.request) (blocked-from_call w t x e (ap is_blocked f)) resting
    by_progress x e _ f h = absurd (true≢false (sym h))

    by_call : (o : Option Call) → call_of w t ≡ o → sleeps o ≡ true → IsOut w t
    by_call None e h = absurd (true≢false (sym h))
    by_call (Some x) e h = by_progress x e x.progress refl h

-- whoever lives: who runs next runs for it, or its chain ends at somebody who can't run
pub runs_or_lost : (s : Table) (h : List Entry) (r : List World) (w : World) → Stands s h r w → (high pick : ℕ)
    → is_living w high ≡ true → IsPick w pick → RunsNoLower w high pick ⊎ IsLost w high
runs_or_lost s h r w stands high pick living picked = by_rest (cases_Bool (is_living w end)) (cases_Bool (rests w end))
  where
    k : Kernel
    k = s.kernel

    sound : IsKernel k
    sound = stands.sound.kernel

    small : high < length k.seats
    small =
        let known = living_is_thread w high (IsHeld-IsRun s.limits stands.run).orderly living in
        let same = ap (λ (x : World). length x.threads) stands.shows ∙ threads_shown stands.sound.all.shape stands.history_variables ∙ stands.sound.all.shape.lines in
        omega (arith, (within high (length w.threads) known).1, same)

    found : EndOf (length k.seats) (waits_for k) (waits_below k sound) (no_cycle k sound) high
    found = end_of (length k.seats) (waits_for k) (waits_below k sound) (no_cycle k sound) high small

    end : ℕ
    end = found.0

    chain : Reaches (WaitsFor w) high end
    chain =
        chain-from_leads_to s.limits h r w stands.run high end
        (ap (λ (x : World). leads_to x high end) stands.shows ∙ leads_seen stands.sound stands.history_variables high end
        ∙ within-from_reaches (length k.seats) (waits_for k) high end small (λ x some. waits_below k sound x) found.1)

    -- if it rests it sleeps in its call, since it waits for no mutex
    sleeping : rests w end ≡ true → sleeps (thread_at w end).call ≡ true
    sleeping e = go (sleeps (thread_at w end).call) e
      where
        go : (b : Bool) → (if b then true else names end w.waiters) ≡ true → b ≡ true
        go true x = refl
        go false x = absurd (unnamed k sound end found.2 (sym (ap (λ (y : World). names end y.waiters) stands.shows) ∙ x))

    by_rest : (is_living w end ≡ true) ⊎ (is_living w end ≡ false) → (rests w end ≡ true) ⊎ (rests w end ≡ false)
        → RunsNoLower w high pick ⊎ IsLost w high
    by_rest (inr n) y = inr (record { end = end; chain = chain; out = ended n })
    by_rest (inl l) (inl y) = inr (record { end = end; chain = chain; out = sleeper_is_out w end y (sleeping y) })
    by_rest (inl l) (inr n) =
        inl (runs_no_lower s.limits h r w stands.run high end pick chain (record { living = l; awake = n }) picked)
