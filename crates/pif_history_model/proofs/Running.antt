-- Runs that go on, and what is shown of them.
use Rattle.std.proofs.Common.{◌≡◌, ◌∙◌, Bool, true, false, List, [], ◌∷◌, ◌++◌, refl, subst, ap, if◌then◌else◌}
use Rattle.pif_search.specs.Runs.{Runs, shown, CanShow}

-- one run after another
pub Runs-append : {S L : Type 0} (Step : S → L → S → Type 0) (a b c : S) (g h : List L) → Runs Step a g b
    → Runs Step b h c → Runs Step a (h ++ g) c
Runs-append {S} {L} Step a b c g [] x y = subst (λ (s : S). Runs Step a g s) y x
Runs-append Step a b c g (l ∷ h) x y = (y.0, Runs-append Step a b y.0 g h x y.1, y.2)

-- what is shown of one run after another
pub shown-append : {L : Type 0} (hides : L → Bool) (h g : List L)
    → shown hides (h ++ g) ≡ shown hides h ++ shown hides g
shown-append hides [] g = refl
shown-append {L} hides (l ∷ h) g =
    let ih : shown hides (h ++ g) ≡ shown hides h ++ shown hides g = shown-append hides h g in
    let P : Bool → Type 0 =
    λ b. (if b then shown hides (h ++ g) else l ∷ shown hides (h ++ g))
    ≡ (if b then shown hides h else l ∷ shown hides h) ++ shown hides g in
    elim (hides l) as P [ true ↦ ih | false ↦ ap (λ (x : List L). l ∷ x) ih ]

-- a run that shows lines goes on
pub CanShow-append : {S L : Type 0} (Step : S → L → S → Type 0) (hides : L → Bool) (a b c : S) (lines : List L)
    (h : List L)
    → CanShow Step hides a lines b → Runs Step b h c → CanShow Step hides a (shown hides h ++ lines) c
CanShow-append {S} {L} Step hides a b c lines h x y = record {
  history = h ++ x.history;
  run = Runs-append Step a b c x.history h x.run y;
  shows = shown-append hides h x.history ∙ ap (λ (z : List L). shown hides h ++ z) x.shows;
}
