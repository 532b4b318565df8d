-- The numbers that may stand in a line as its priority, and those with which a run was found.
use Rattle.std.proofs.Common.{ℕ, ◌≡◌, ◌≤◌, ◌∙◌, zero, suc, List, [], ◌∷◌, ◌++◌, map, refl, ap, sym, subst, arith}
use Rattle.std.specs.List.{All}
use Rattle.std.proofs.lemmas.List.Elements.{All-nil, All-push, All-weaker}
use Rattle.pif_types.specs.Bounds.{Bounds}
use Rattle.pif_rules_model.specs.declared.rules.Rules.{Rules}
use Rattle.pif_history_model.specs.declared.labels.Label.{Label}
use Rattle.pif_history_model.specs.declared.labels.Label.TheVariants.{Shown}
use Rattle.pif_history_model.specs.declared.lines.Line.{Line}
use Rattle.pif_history_model.specs.declared.lines.Line.TheVariants.{Prio}
use Rattle.pif_history_model.specs.Numbers.{numbers_in, up_to}
use Rattle.pif_judge_reasons.specs.Found.{AreFound, IsFound, IsLegalThen, MayStand, with_number}

numbers_of_priorities : (t : ℕ) (ps : List ℕ) → numbers_in (map (λ p. Shown (Prio t p)) ps) ≡ ps
numbers_of_priorities t [] = refl
numbers_of_priorities t (p ∷ ps) = ap (λ (ns : List ℕ). p ∷ ns) (numbers_of_priorities t ps)

-- each of the numbers from 1 to n is one of them
each_up_to : (n : ℕ) → All (λ p. (1 ≤ p) × (p ≤ n)) (up_to n)
unfolding up_to
each_up_to zero = All-nil (λ (p : ℕ). (1 ≤ p) × (p ≤ 0))
each_up_to (suc n) =
    All-push (λ (p : ℕ). (1 ≤ p) × (p ≤ suc n)) (up_to n) (suc n)
    (All-weaker (λ (p : ℕ). (1 ≤ p) × (p ≤ n)) (λ (p : ℕ). (1 ≤ p) × (p ≤ suc n)) (λ p h. (h.0, omega (arith, h.1))) (up_to n) (each_up_to n))
    (omega arith, omega arith)

-- each priority may stand in a line that has one
pub priorities_may_stand : (line : Line) (t p : ℕ) (labels given : List Label) (numbers : List ℕ) → line ≡ Prio t p
    → labels ≡ map (λ q. Shown (Prio t q)) (up_to 99) → given ≡ labels → numbers ≡ numbers_in given → All (MayStand line) numbers
priorities_may_stand line t p labels given numbers at is same read =
    let numbers_are : numbers ≡ up_to 99 =
    read ∙ (ap (λ (xs : List Label). numbers_in xs) (same ∙ is) ∙ numbers_of_priorities t (up_to 99)) in
    let each = subst (λ (ns : List ℕ). All (MayStand (Prio t p)) ns) (sym numbers_are) (each_up_to 99) in
    subst (λ (x : Line). All (MayStand x) numbers) (sym at) each

-- one number more, with which a run was found
pub found_more : (r : Rules) (l : Bounds) (before : List Line) (line next : Line) (found more : List ℕ) (n : ℕ) → MayStand line n
    → next ≡ with_number line n → IsLegalThen r l before next → more ≡ found ++ n ∷ [] → AreFound r l before line found
    → AreFound r l before line more
found_more r l before line next found more n stands is legal push all =
    let here : IsFound r l before line n = (stands, subst (λ (x : Line). IsLegalThen r l before x) is legal) in
    subst (λ (ns : List ℕ). AreFound r l before line ns) (sym push) (All-push (IsFound r l before line) found n all here)
