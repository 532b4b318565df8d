-- That lines are shown, and what holds of the value of an option.
use Rattle.std.proofs.Common.{◌≡◌, false, List, [], ◌∷◌, Option, Some, None, IfSome, map, refl, subst}
use Rattle.std.specs.List.{All}
use Rattle.std.proofs.lemmas.List.Elements.{All-nil, All-cons}
use Rattle.pif_history_model.specs.declared.lines.Line.{Line}
use Rattle.pif_history_model.specs.declared.labels.Label.{Label}
use Rattle.pif_history_model.specs.declared.labels.Label.TheVariants.{Shown}
use Rattle.pif_history_model.specs.Searched.{hides}

abbrev IsShownLabel : Label → Type 0
IsShownLabel x = hides x ≡ false

-- lines are shown
pub lines_shown : (lines : List Line) → All (λ x. hides x ≡ false) (map (λ x. Shown x) lines)
lines_shown [] = All-nil IsShownLabel
lines_shown (x ∷ lines) = All-cons IsShownLabel (Shown x) (map (λ y. Shown y) lines) refl (lines_shown lines)

pub shown_by : {X : Type 0} (f : X → Line) (xs : List X) → All (λ x. hides x ≡ false) (map (λ x. Shown (f x)) xs)
shown_by f [] = All-nil IsShownLabel
shown_by f (x ∷ xs) = All-cons IsShownLabel (Shown (f x)) (map (λ y. Shown (f y)) xs) refl (shown_by f xs)

-- what holds of each value that there is
pub if_some : {X : Type 0} (P : X → Type 0) (o : Option X) → ((v : X) → o ≡ Some v → P v) → IfSome o P
if_some P None h = tt
if_some P (Some v) h = h v refl

-- what holds of the value that there is
pub some_of : {X : Type 0} (P : X → Type 0) (o : Option X) (v : X) → o ≡ Some v → IfSome o P → P v
some_of {X} P o v e h = subst (λ (p : Option X). IfSome p P) e h
