-- Sets of rules, in the order in which they are tried.
use Rattle.std.specs.Prelude.{ℕ, zero, suc, ◌&&◌, ◌||◌, Bool, true, false, not, nat_lt, List, [], ◌∷◌, ◌++◌, filter, length, Option, Some, None}
use Rattle.pif_rules_model.specs.declared.rules.HoldLimits.{HoldLimits}
use Rattle.pif_rules_model.specs.declared.rules.Rule.{Rule}
use Rattle.pif_rules_model.specs.declared.rules.Rule.TheVariants.{Recursion}
use Rattle.pif_rules_model.specs.declared.rules.Rules.{Rules}
use Rattle.pif_rules_model.specs.Sets.{has, rules_in_order}
use Rattle.pif_rules.specs.Sets.{both, only}

-- Whether the second bounds allow what the first don't, or are there alone.
abbrev pub are_wider : Option HoldLimits → Option HoldLimits → Bool
are_wider base None = false
are_wider None (Some y) = true
are_wider (Some x) (Some y) = nat_lt y.least x.least || nat_lt x.most y.most

-- Whether a rule of a adds to the rules of base.
abbrev pub adds : (base a : Rules) → Rule → Bool
adds base a Recursion = are_wider base.recursion a.recursion
adds base a rule = has a rule && not (has base rule)

-- The rules of a that add to those of base.
abbrev pub added : (base a : Rules) → List Rule
added base a = filter (adds base a) rules_in_order

-- The sets of so many of these rules, which are some of a, each with those that are held: first those that have the
-- first rule.
unfoldable pub sets_of_size : (a : Rules) → (size : ℕ) → (held : Rules) → List Rule → List Rules
sets_of_size a zero held rules = held ∷ []
sets_of_size a (suc k) held [] = []
sets_of_size a (suc k) held (x ∷ rules) =
    sets_of_size a k (both (only a x) held) rules ++ sets_of_size a (suc k) held rules

-- The sets of fewer rules than n, by their number.
unfoldable pub sets_below : (a : Rules) → (n : ℕ) → (held : Rules) → List Rule → List Rules
sets_below a zero held rules = []
sets_below a (suc k) held rules = sets_below a k held rules ++ sets_of_size a k held rules

-- The sets that are tried, but for that of all.
abbrev pub sets_but_all : (base a : Rules) → List Rules
sets_but_all base a = sets_below a (length (added base a)) base (added base a)

-- All sets, in the order in which they are tried.
abbrev pub sets_in_order : (base a : Rules) → List Rules
sets_in_order base a = sets_but_all base a ++ both a base ∷ []
