-- The laws that in each state that a run of the POSIX machine reaches the bounded effective priority is the greatest
-- base priority of a thread and of all that wait for it through any chain, and that the bounded test finds just the
-- chains that there are.
use Rattle.std.proofs.Common.{◌≡◌, ◌≢◌, ◌⊎◌, ◌<◌, ℕ, Bool, true, false, ◌==◌, ◌||◌, List, [], ◌∷◌, length, Option, refl, sym, ap, ◌∙◌, inl, inr, if◌then◌else◌}
use Rattle.std.proofs.lemmas.Bool.{true≢false, cases_eq, eq-eqb}
use Rattle.pif_types.specs.Bounds.{Bounds}
use Rattle.pif_types.specs.declared.requests.Request.{Request}
use Rattle.pif_model.specs.declared.events.Entry.{Entry}
use Rattle.pif_model.specs.Graph.{waited_by, Reaches, IsEffective}
use Rattle.pif_model.specs.Graph.Reaches.{here, hop}
use Rattle.pif_model.specs.Posix.{World, WaitsFor, IsRun, waits_for, thread_at, is_thread, effective_of, leads_to}
use Rattle.pif_model.specs.Soundness.{waited_in}
use Rattle.pif_model.specs.Standing.{HasEffective}
use Rattle.pif_model_lemmas.proofs.Among.{is_among}
use Rattle.pif_model_lemmas.proofs.Bounded.{effective_over_any_chain}
use Rattle.pif_model_lemmas.proofs.Cycles.{Reaches-map}
use Rattle.pif_model_lemmas.proofs.Following.{Follows, reaches_here, reaches-from_within, within-from_reaches}
use Rattle.pif_model_lemmas.proofs.Numbers.{from_within, within}
use Rattle.pif_model_lemmas.proofs.Waiting.{paired-from_waited}
use Rattle.pif_model_simulation.proofs.runs.Worlds.{owner_of}
use Rattle.pif_model_simulation.proofs.runs.Holding.{same_request}
use Rattle.pif_model_simulation.proofs.runs.AllHolding.{IsHeld, caller_lives, caller_is_thread}
use Rattle.pif_model_simulation.proofs.runs.Holders.{IsHeld-IsRun}

-- who is among the waiters of some mutex is among those of the mutex for which it waits
among_waited : (ws : List (ℕ × ℕ)) (u m : ℕ) → is_among ws u m ≡ true → is_among ws u (waited_by ws u) ≡ true
unfolding waited_by
among_waited [] u m h = h
among_waited (w ∷ ws) u m h = by_head (w.0 == u) h (among_waited ws u m)
  where
    by_head : (b : Bool) → ((if b then w.1 == m else false) || is_among ws u m) ≡ true
        → (is_among ws u m ≡ true → is_among ws u (waited_by ws u) ≡ true)
        → let m : ℕ = if b then w.1 else waited_by ws u in
        ((if b then w.1 == m else false) || is_among ws u m) ≡ true
    by_head true h ih = rw (eq-eqb w.1 w.1 refl) refl
    by_head false h ih = ih h

module _ {f : ℕ → Option Request} {counts : ℕ → ℕ → ℕ} {w : World} (h : IsHeld f counts w) where
  -- a thread waits for one mutex at a time
  waits_once : (u m : ℕ) → is_among w.waiters u m ≡ true → waited_by w.waiters u ≡ m
  waits_once u m y =
      let k = (h.each u).waiting m y in
      let j = (h.each u).waiting (waited_by w.waiters u) (among_waited w.waiters u m y) in
      sym j.waits ∙ ap waited_in (same_request j.call k.call) ∙ k.waits

  -- who waits was added
  waiter_is_thread : (u m : ℕ) → is_among w.waiters u m ≡ true → is_thread w u ≡ true
  waiter_is_thread u m y = caller_is_thread h u _ ((h.each u).waiting m y).call

  -- who waits for t waits for t by the function
  follows-from_WaitsFor : (u t : ℕ) → WaitsFor w u t → Follows (waits_for w) u t
  follows-from_WaitsFor u t k = (ap (owner_of w) (waits_once u k.mutex k.among) ∙ k.owned, k.somebody)

  -- who waits for somebody by the function is among the waiters of the mutex for which it waits
  among-from_follows : (u : ℕ) → waits_for w u ≢ 0 → is_among w.waiters u (waited_by w.waiters u) ≡ true
  among-from_follows u some =
      paired-from_waited w.waiters u (waited_by w.waiters u) (λ e. some (ap (owner_of w) e ∙ h.orderly.no_mutex)) refl

  -- and back
  WaitsFor-from_follows : (u t : ℕ) → Follows (waits_for w) u t → WaitsFor w u t
  WaitsFor-from_follows u t k = record {
    mutex = waited_by w.waiters u;
    among = among-from_follows u (λ e. k.1 (sym k.0 ∙ e));
    owned = k.0;
    somebody = k.1;
  }

  -- for whom one waits was added
  below : (x : ℕ) → waits_for w x ≢ 0 → waits_for w x < length w.threads
  below x some = (within (waits_for w x) (length w.threads) (h.orderly.owners (waited_by w.waiters x) some)).1

  -- nobody, at place 0, waits for nobody
  nobody_waits : waits_for w 0 ≡ 0
  nobody_waits = by_test (cases_eq (waits_for w 0) 0)
    where
      by_test : (waits_for w 0 ≡ 0) ⊎ (waits_for w 0 ≡ 0 → ⊥) → waits_for w 0 ≡ 0
      by_test (inl e) = e
      by_test (inr some) =
          let k = (h.each 0).waiting (waited_by w.waiters 0) (among-from_follows 0 some) in
          absurd (true≢false (sym (caller_lives h 0 _ k.call) ∙ h.orderly.nobody))

  -- the bounded effective priority is the greatest over any chain
  effective_is_greatest_of : (t : ℕ) → is_thread w t ≡ true → HasEffective w t (effective_of w t)
  effective_is_greatest_of t known =
      record {
        attained = (
          best.attained.0,
          from_within best.attained.0 (length w.threads) best.attained.1.0 best.attained.1.1,
          Reaches-map WaitsFor-from_follows best.attained.2,
          best.attained.3,
        );
        greatest = λ u k r. best.greatest u (within u (length w.threads) k) (Reaches-map follows-from_WaitsFor r);
      }
    where
      base : ℕ → ℕ
      base u = (thread_at w u).base

      best : IsEffective (λ u. (u ≢ 0) × (u < length w.threads)) (Follows (waits_for w)) base t (effective_of w t)
      best =
          let p = within t (length w.threads) known in
          effective_over_any_chain (length w.threads) (waits_for w) base t nobody_waits below p.0 p.1

  -- a chain that the bounded test finds is there
  chain-from_leads_to_of : (u t : ℕ) → leads_to w u t ≡ true → Reaches (WaitsFor w) u t
  chain-from_leads_to_of u t e =
      Reaches-map WaitsFor-from_follows (reaches-from_within (length w.threads) (waits_for w) u t e)

  -- and it finds each that is there
  leads_to-from_chain_of : (u t : ℕ) → Reaches (WaitsFor w) u t → leads_to w u t ≡ true
  leads_to-from_chain_of u t (here e) = reaches_here (length w.threads) (waits_for w) u t e
  leads_to-from_chain_of u t (hop {v = v} a r) =
      within-from_reaches (length w.threads) (waits_for w) u t
      (within u (length w.threads) (waiter_is_thread u a.mutex a.among)).1 below
      (Reaches-map follows-from_WaitsFor (hop a r))

module _ (l : Bounds) (h : List Entry) (r : List World) (w : World) (run : IsRun l h r w) where
  -- after a run the bounded effective priority of each thread is the greatest over any chain
  pub effective_is_greatest : (t : ℕ) → is_thread w t ≡ true → HasEffective w t (effective_of w t)
  effective_is_greatest = effective_is_greatest_of (IsHeld-IsRun l run)

  -- a chain that the bounded test finds after a run is there
  pub chain-from_leads_to : (u t : ℕ) → leads_to w u t ≡ true → Reaches (WaitsFor w) u t
  chain-from_leads_to = chain-from_leads_to_of (IsHeld-IsRun l run)

  -- and it finds each that is there
  pub leads_to-from_chain : (u t : ℕ) → Reaches (WaitsFor w) u t → leads_to w u t ≡ true
  leads_to-from_chain = leads_to-from_chain_of (IsHeld-IsRun l run)
