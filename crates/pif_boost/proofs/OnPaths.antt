-- Who is reached from a thread stands on its path, and nobody else does.
use Rattle.std.proofs.Common.{◌≡◌, ◌≢◌, ◌⊎◌, ℕ, true, eqb, List, [], ◌∷◌, sym, ap, ◌∙◌, subst, inl, inr}
use Rattle.std.proofs.lemmas.Bool.{eqb-true, or_cases, or_left, or_right}
use Rattle.pif_model.specs.Graph.{Reaches, IsPath}
use Rattle.pif_model.specs.Graph.Reaches.{here, hop}
use Rattle.pif_nodes_model.specs.Lists.{has}
use Rattle.pif_nodes_model.proofs.ListLemmas.{eqb_self}
use Rattle.pif_kernel_model.specs.Owners.{Owners, waits_for, WaitsFor}

-- a path on which somebody stands begins at a thread
begins : (v : Owners) (start t : ℕ) (us : List ℕ) → IsPath (waits_for v) start us → has t us ≡ true → start ≢ 0
begins v start t [] p h = absurd cc
begins v start t (u ∷ us) p h = λ e. p.1 (p.0 ∙ e)

-- who stands on the path of a thread is reached from it
pub reached : (v : Owners) (start t : ℕ) (us : List ℕ) → IsPath (waits_for v) start us → has t us ≡ true
    → Reaches (WaitsFor v) start t
reached v start t [] p h = absurd cc
reached v start t (u ∷ us) p h = by_place (or_cases (eqb t u) (has t us) h) (reached v (waits_for v u) t us p.2)
  where
    by_place : ((eqb t u ≡ true) ⊎ (has t us ≡ true)) → (has t us ≡ true → Reaches (WaitsFor v) (waits_for v u) t)
        → Reaches (WaitsFor v) start t
    by_place (inl e) on = here (sym p.0 ∙ sym (eqb-true t u e))
    by_place (inr m) on = hop (ap (waits_for v) (sym p.0), begins v (waits_for v u) t us p.2 m) (on m)

-- who is reached from a thread stands on its path
pub stands : (v : Owners) (start t : ℕ) → Reaches (WaitsFor v) start t → start ≢ 0 → (us : List ℕ)
    → IsPath (waits_for v) start us → has t us ≡ true
stands v start t (here e) some [] p = absurd (some p)
stands v start t (here e) some (u ∷ us) p =
    or_left (eqb t u) (has t us) (subst (λ (x : ℕ). eqb t x ≡ true) (sym (p.0 ∙ e)) (eqb_self t))
stands v start t (hop a r) some [] p = absurd (some p)
stands v start t (hop a r) some (u ∷ us) p =
    or_right (eqb t u) (has t us)
    (stands v _ t r a.1 us (subst (λ (x : ℕ). IsPath (waits_for v) x us) (ap (waits_for v) p.0 ∙ a.0) p.2))
