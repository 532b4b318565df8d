-- Parked threads in a plain row: with one more, and with one less.
use Rattle.std.proofs.Common.{◌≡◌, ◌≢◌, ◌⊎◌, ℕ, ◌+◌, ◌<◌, ◌≤◌, ◌==◌, ◌||◌, ◌++◌, Bool, true, false, true≢false, List, [], ◌∷◌, length, refl, subst, sym, ap, ◌∙◌, inl, inr, arith, eqb-true}
use Rattle.std.proofs.lemmas.Bool.{cases_eq, false≢true}
use Rattle.std.proofs.lemmas.List.{length-map}
use Rattle.pif_model.specs.Graph.{without}
use Rattle.pif_model.specs.PiKernel.{Parking, parked_pairs, parkings_without}
use Rattle.pif_model_lemmas.proofs.Waiting.{Once, names, once_push, once_without, named-push, named-without_same, named-without_other}
use Rattle.pif_model_lemmas.proofs.kernel.Numbers.{distinct-none}
use Rattle.pif_model_lemmas.proofs.kernel.Parks.{parked_pairs-push, parked_pairs-without}
use Rattle.pif_plain.specs.Rows.{AreParkedOnce}
use Rattle.pif_kernel_model.proofs.ArrivalLaws.{few_waiters}

-- nobody is parked
pub none_parked : (most : ℕ) (ps : List Parking) → ps ≡ [] → AreParkedOnce most ps
none_parked most ps e =
    subst (AreParkedOnce most) (sym e) (record { once = distinct-none; known = λ t y. absurd (false≢true y) })

module _ (most : ℕ) (ps : List Parking) (h : AreParkedOnce most ps) where
  -- there is room for one that isn't parked
  pub room_behind : (t : ℕ) → 1 ≤ t → t ≤ most → names t (parked_pairs ps) ≡ false → length ps < most
  room_behind t some few off =
      let all : length (parked_pairs ps) + 2 ≤ most + 1
      = few_waiters (parked_pairs ps) (most + 1) t (omega arith) (λ z. absurd (omega (arith, some, z))) (omega (arith, few)) h.once off
      (λ q e. let k = h.known q e in (k.0, omega (arith, k.1))) in
      omega (arith, all, length-map {B = ℕ × ℕ} ps (λ (x : Parking). (x.thread, x.cond)))

  -- it stands behind the others then
  pub parked_behind : (x : Parking) (room : ℕ) → 1 ≤ x.thread → x.thread ≤ most → most ≤ room
      → names x.thread (parked_pairs ps) ≡ false → AreParkedOnce room (ps ++ x ∷ [])
  parked_behind x room some few long off = record {
    once = subst Once (sym (parked_pairs-push ps x)) (once_push (parked_pairs ps) (x.thread, x.cond) off h.once);
    known = λ t y. by_name t (names t (parked_pairs ps)) refl
        (sym (ap (names t) (parked_pairs-push ps x) ∙ named-push (parked_pairs ps) x.thread x.cond t) ∙ y);
  }
    where
      by_name : (t : ℕ) (b : Bool) → names t (parked_pairs ps) ≡ b
          → (names t (parked_pairs ps) || (x.thread == t)) ≡ true → (t ≢ 0) × (t ≤ room)
      by_name t true e y = let k = h.known t e in (k.0, omega (arith, k.1, long))
      by_name t false e y =
          let same : x.thread ≡ t = eqb-true x.thread t (sym (ap (λ b. b || (x.thread == t)) e) ∙ y) in
          ((λ z. absurd (omega (arith, some, same, z))), omega (arith, few, same, long))

  -- one was taken off
  pub parked_without : (t : ℕ) → AreParkedOnce most (parkings_without ps t)
  parked_without t = record {
    once = subst Once (sym (parked_pairs-without ps t)) (once_without (parked_pairs ps) t h.once);
    known = λ u y. h.known u (there u (cases_eq u t) (sym (ap (names u) (parked_pairs-without ps t)) ∙ y));
  }
    where
      there : (u : ℕ) → ((u ≡ t) ⊎ (u ≡ t → ⊥)) → names u (without (parked_pairs ps) t) ≡ true
          → names u (parked_pairs ps) ≡ true
      there u (inl e) y =
          absurd (true≢false (sym y ∙ ap (λ (v : ℕ). names v (without (parked_pairs ps) t)) e
          ∙ named-without_same (parked_pairs ps) t))
      there u (inr ne) y = sym (named-without_other (parked_pairs ps) t u ne) ∙ y
