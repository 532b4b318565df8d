use Rattle.std.proofs.Common.{◌≡◌, ◌∙◌, Bool, true, List, ◌∷◌, sym, ap}
use Rattle.pif_history_model.specs.declared.lines.Line.{Line}
use Rattle.pif_history_machine.proofs.overs.KnownLines.has.Goals as goal

same_head : (x y : Line) (xs ys : List Line) → x ∷ xs ≡ y ∷ ys → x ≡ y
same_head x y xs ys e = cc

-- whether a line stands at the head of these
has_it : (x y : Line) (b : Bool) (xs rest : List Line) → xs ≡ x ∷ rest → (b ≡ true → x ≡ y) × (x ≡ y → b ≡ true)
    → (b ≡ true → xs ≡ y ∷ rest) × (xs ≡ y ∷ rest → b ≡ true)
has_it x y b xs rest here same = (
  λ yes. here ∙ ap (λ z. z ∷ rest) (same.0 yes),
  λ e. same.1 (same_head x y rest rest (sym here ∙ e)),
)

pub returns-in-Some : goal.returns-in-Some
returns-in-Some c = has_it _ _ _ _ _ (c.line.ensures.some c.in-Some.other c.in-Some.is) c.is_same_line.ensures
