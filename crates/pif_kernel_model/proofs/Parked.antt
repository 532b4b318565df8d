-- The parked threads without one.
use Rattle.std.proofs.Common.{◌≡◌, ℕ, ◌==◌, ◌||◌, true, false, cond, List, [], ◌∷◌, refl, ap}
use Rattle.std.proofs.lemmas.Bool.{true≢false}
use Rattle.pif_model.specs.PiKernel.{Parking, parked_pairs, parkings_without}
use Rattle.pif_model_lemmas.proofs.Waiting.{by_test, names}

-- they are all but one who is not parked
pub parkings_without-unnamed : (ps : List Parking) (t : ℕ) → names t (parked_pairs ps) ≡ false → ps ≡ parkings_without ps t
parkings_without-unnamed [] t e = refl
parkings_without-unnamed (x ∷ ps) t e =
    by_test (λ b. (b || names t (parked_pairs ps)) ≡ false
    → x ∷ ps ≡ cond (cond b false true) (x ∷ parkings_without ps t) (parkings_without ps t))
    (x.thread == t) (λ y z. absurd (true≢false z))
    (λ y z. ap (λ (l : List Parking). x ∷ l) (parkings_without-unnamed ps t z)) e
