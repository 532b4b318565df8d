-- As many takings as there are parked threads leave nobody parked on the variable, and there are no more parked threads
-- than threads.
use Rattle.std.proofs.Common.{◌≡◌, ◌≢◌, ◌⊎◌, ℕ, zero, suc, ◌<◌, ◌≤◌, Bool, true, false, ◌==◌, ◌||◌, eqb, cond, List, [], ◌∷◌, length, map, refl, sym, ap, ◌∙◌, subst, arith, inl, inr, true≢false}
use Rattle.std.specs.List.{list_any}
use Rattle.std.proofs.lemmas.Bool.{cases_Bool}
use Rattle.std.proofs.lemmas.Bool.Decides.{nat_tests}
use Rattle.std.proofs.lemmas.List.{length-map}
use Rattle.std.proofs.lemmas.Map.Steps.{length-le_from_distinct_below}
use Rattle.pif_model.specs.Graph.{has_waiter}
use Rattle.pif_model.specs.PiKernel.{Kernel, System, Parking, IsKernel, parked_pairs, parkings_without, has_parked, top_parked, after_taking, after_takings}
use Rattle.pif_model_lemmas.proofs.Numbers.{within}
use Rattle.pif_model_lemmas.proofs.Waiting.{by_test, names, pairs, pair-from_named, named-from_pair}
use Rattle.pif_model_lemmas.proofs.kernel.Woken.{added-from_parked, top-parked}
use Rattle.pif_model_lemmas.proofs.kernel.Taken.{FitsState, taking_kept, taking_fits, takings-none, takings-more}
use Rattle.pif_model_lemmas.proofs.kernel.Requeued.{taking-parked}

-- HOW MANY

-- whether a number is among the threads of some pairs, by its equality to each
named_as : (u : ℕ) (ws : List (ℕ × ℕ)) → list_any (eqb u) (map (λ (w : ℕ × ℕ). w.0) ws) ≡ true → names u ws ≡ true
named_as u [] h = h
named_as u (w ∷ ws) h = grind (arith, nat_tests, h, named_as u ws)

-- there are no more parked threads than threads
pub parked-few : (k : Kernel) → IsKernel k → length k.parked ≤ length k.seats
parked-few k h =
    subst (λ n. n ≤ length k.seats) (length-map (parked_pairs k.parked) (λ (w : ℕ × ℕ). w.0) ∙ length-map k.parked _)
    (length-le_from_distinct_below (map (λ (w : ℕ × ℕ). w.0) (parked_pairs k.parked)) (length k.seats) h.parking.once
    (λ u e. below u (pair-from_named (parked_pairs k.parked) u (named_as u (parked_pairs k.parked) e))))
  where
    below : (u : ℕ) → (c : ℕ) × (pairs u c (parked_pairs k.parked) ≡ true) → u < length k.seats
    below u r = (within u (length k.seats) (added-from_parked k h u r.0 (h.parking.status u r.0 r.1))).1

-- without one there are not more
parkings_without-no_more : (ps : List Parking) (u : ℕ) → length (parkings_without ps u) ≤ length ps
parkings_without-no_more [] u = omega arith
parkings_without-no_more (p ∷ ps) u = by_test
    (λ b. length (cond (cond b false true) (p ∷ parkings_without ps u) (parkings_without ps u)) ≤ length (p ∷ ps)) (p.thread == u)
    (λ e. omega (arith, parkings_without-no_more ps u)) (λ e. omega (arith, parkings_without-no_more ps u))

-- and fewer if it was among them
pub parkings_without-fewer : (ps : List Parking) (u : ℕ) → names u (parked_pairs ps) ≡ true → length (parkings_without ps u) < length ps
parkings_without-fewer [] u h = absurd (true≢false (sym h))
parkings_without-fewer (p ∷ ps) u h = go (p.thread == u) refl (parkings_without-fewer ps u)
  where
    go : (b : Bool) → (p.thread == u) ≡ b → (names u (parked_pairs ps) ≡ true → length (parkings_without ps u) < length ps)
        → length (parkings_without (p ∷ ps) u) < length (p ∷ ps)
    go true e ih = rw e (omega (arith, parkings_without-no_more ps u))
    go false e ih = rw e (omega (arith, ih (rest e)))
      where
        rest : (p.thread == u) ≡ false → names u (parked_pairs ps) ≡ true
        rest e = sym (ap (λ b. b || names u (parked_pairs ps)) e) ∙ h

-- ALL

-- none at all
takings-zero : (c m : ℕ) (x : System) → after_takings zero c m x ≡ x
unfolding after_takings
takings-zero c m x = refl

-- with as many takings as there are parked threads nobody is parked on the variable then
pub takings-all : (n c m : ℕ) (x : System) → m ≢ 0 → m < 1025 → IsKernel x.kernel
    → (has_parked x.kernel c ≡ true → FitsState m x) → length x.kernel.parked ≤ n
    → has_parked (after_takings n c m x).kernel c ≡ false
takings-all zero c m x some few h fits l = go x.kernel.parked refl
  where
    go : (ps : List Parking) → x.kernel.parked ≡ ps → has_parked (after_takings zero c m x).kernel c ≡ false
    go [] e =
        ap (λ (y : System). has_parked y.kernel c) (takings-zero c m x) ∙ ap (λ ps. has_waiter (parked_pairs ps) c) e
    go (p ∷ ps) e = absurd (omega (arith, l, ap length e))
takings-all (suc n) c m x some few h fits l = go (cases_Bool (has_parked x.kernel c)) (takings-all n c m)
  where
    go : (has_parked x.kernel c ≡ true) ⊎ (has_parked x.kernel c ≡ false)
        → ((y : System) → m ≢ 0 → m < 1025 → IsKernel y.kernel → (has_parked y.kernel c ≡ true → FitsState m y)
        → length y.kernel.parked ≤ n → has_parked (after_takings n c m y).kernel c ≡ false)
        → has_parked (after_takings (suc n) c m x).kernel c ≡ false
    go (inr e) ih = ap (λ (y : System). has_parked y.kernel c) (takings-none (suc n) c m x e) ∙ e
    go (inl e) ih =
        let u = top_parked x.kernel c in
        let was = top-parked x.kernel h c e in
        ap (λ (y : System). has_parked y.kernel c) (takings-more n c m x e)
        ∙ ih (after_taking u m x) some few (taking_kept u m c x h was some few (fits e))
        (λ z. taking_fits u m c x h was some few (fits e))
        (omega (
          arith,
          l,
          ap length (taking-parked u m x),
          parkings_without-fewer x.kernel.parked u (named-from_pair
              (parked_pairs x.kernel.parked) u c (h.parking.parked u c was)),
        ))
