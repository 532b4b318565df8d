-- What is told of facts that are always so is always so.
use Rattle.std.proofs.Common.{ℕ, ◌≡◌, ◌<◌, List, Option, Some, None, IfSome, length, get_or, sym, subst}
use Rattle.std.specs.List.{All}
use Rattle.pif_history_model.specs.declared.facts.Fact.{Fact}
use Rattle.pif_history_model.specs.declared.facts.Fact.TheVariants.{Priority}

-- what holds of all holds of each that is read
pub read_of_all : {X : Type 0} (P : X → Type 0) (xs : List X) (i : ℕ) (x : X) → i < length xs → x ≡ get_or xs i x → All P xs → P x
read_of_all P xs i x lt e all = subst P (sym e) (all i x lt)

-- the priority that a fact tells of
pub priority_told : (P : Fact → Type 0) (x : Fact) (t : ℕ) (o : Option ℕ) → P x → IfSome o (λ p. x ≡ Priority t p)
    → IfSome o (λ p. P (Priority t p))
priority_told P x t None here is = tt
priority_told P x t (Some p) here is = subst P is here
