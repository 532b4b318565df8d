-- The queue once a thread has joined it or left it, by the mutex with which each stands there.
use Rattle.std.proofs.Common.{◌≡◌, ◌≢◌, ℕ, true, false, ◌||◌, ◌==◌, List, [], ◌∷◌, ◌++◌, refl, sym, ap, ◌∙◌, if◌then◌else◌, eqb-true, ne_eqb, true≢false}
use Rattle.std.proofs.lemmas.Map.Views.{any-filter_same}
use Rattle.pif_model.specs.Graph.{without}
use Rattle.std.proofs.lemmas.List.Folds.{list_any-append}
use Rattle.pif_model_lemmas.proofs.Waiting.{by_test, pairs, or_false}

-- one more
pub pairs-push : (ws : List (ℕ × ℕ)) (t m u i : ℕ)
    → pairs u i (ws ++ (t, m) ∷ []) ≡ (pairs u i ws || (if t == u then m == i else false))
pairs-push ws t m u i =
    list_any-append (λ (w : ℕ × ℕ). if w.0 == u then w.1 == i else false) ws ((t, m) ∷ [])
    ∙ ap (λ b. pairs u i ws || b) (or_false (if t == u then m == i else false))

-- the others stay when one has left
pub pairs-without_other : (ws : List (ℕ × ℕ)) (u v i : ℕ) → v ≢ u → pairs v i (without ws u) ≡ pairs v i ws
pairs-without_other ws u v i d =
    any-filter_same (λ (w : ℕ × ℕ). if w.0 == v then w.1 == i else false)
    (λ w. if w.0 == u then false else true) true stays ws
  where
    stays : (w : ℕ × ℕ) → (if w.0 == v then w.1 == i else false) ≡ true → (if w.0 == u then false else true) ≡ true
    stays w e = by_test (λ b. (w.0 == v) ≡ b → (if w.0 == u then false else true) ≡ true) (w.0 == v)
        (λ x _. rw (ne_eqb w.0 u (λ y. d (sym (eqb-true w.0 v x) ∙ y))) refl)
        (λ x _. absurd (true≢false (sym e ∙ rw x refl))) refl
