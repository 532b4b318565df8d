-- Lines by which a history allows rules: `allow`, and after it the names of rules, each once, or `posix` for all of
-- POSIX. Bounds stand after `recursion`.
use Rattle.std.specs.Prelude.{ℕ, is_some, List, [], ◌∷◌, Option, Some, None, if◌then◌else◌, bytes_eq, codes}
use Rattle.pif_rules_model.specs.declared.rules.HoldLimits.{HoldLimits}
use Rattle.pif_rules_model.specs.declared.rules.Rules.{Rules}
use Rattle.pif_rules_model.specs.Sets.{no_rules}
use Rattle.pif_rules.specs.Sets.{both, have_common}
use Rattle.pif_rules.specs.Words.{bounds_in, set_in}

-- These rules, and more of them; none if there are no more, or one is one of these.
abbrev pub with_more : Rules → Option Rules → Option Rules
with_more r None = None
with_more r (Some q) = if have_common r q then None else Some (both r q)

-- These rules, and those that a word names by itself; none if it names none, or one of these.
unfoldable pub with_rule : Rules → List ℕ → Option Rules
with_rule r word = with_more r (set_in word)

-- These rules, and `recursion` with bounds, unless it is one of these.
abbrev pub with_recursion : Rules → Option HoldLimits → Option Rules
with_recursion r None = None
with_recursion r (Some x) = if is_some r.recursion then None else Some (record r { recursion = Some x })

-- These rules, and those that words name, if each is named once.
unfoldable pub rules_in : Rules → List (List ℕ) → Option Rules
rules_in r [] = Some r
rules_in r (word ∷ []) = with_rule r word
rules_in r (word ∷ next ∷ more) =
    if bytes_eq word (codes "recursion") then elim (with_recursion r (bounds_in next)) [ None ↦ None | Some q ↦ rules_in q more ]
    else elim (with_rule r word) [ None ↦ None | Some q ↦ rules_in q (next ∷ more) ]

-- The rules that words name, of which there has to be one.
abbrev pub some_rules_in : List (List ℕ) → Option Rules
some_rules_in [] = None
some_rules_in (word ∷ more) = rules_in no_rules (word ∷ more)

-- The rules that the words of a line allow, if it does.
abbrev pub allowed_in : List (List ℕ) → Option Rules
allowed_in [] = None
allowed_in (word ∷ more) = if bytes_eq word (codes "allow") then some_rules_in more else None
