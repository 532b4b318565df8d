-- A list that is the one of all results, by the plain machine or by rules, has each of them, and no other.
use Rattle.std.proofs.Common.{ℕ, ◌≡◌, List}
use Rattle.std.specs.List.{All, Contains}
use Rattle.pif_types.specs.Bounds.{Bounds}
use Rattle.pif_model.specs.declared.events.Entry.{Entry}
use Rattle.pif_posix_steps.proofs.AllResults.{no_other, each}
use Rattle.pif_rules_model.specs.declared.rules.Rules.{Rules}
use Rattle.pif_rules_model.specs.Rules.{Wide, WideMoves, WideEnters, WideEndsApart}
use Rattle.pif_rules_model.specs.Ruled.{widely_moved, widely_entered, ended_apart}
use Rattle.pif_rules_model.proofs.Ruling.{widely_from, widely_to}
use Rattle.pif_rules_model.proofs.Entries.{widely_entered_from, widely_entered_to, ended_apart_from, ended_apart_to}

module _ (r : Rules) (t : ℕ) (s : Wide) (xs : List Wide) (e : xs ≡ widely_moved r t s) where
  pub only_wide_moves : All (λ v. WideMoves r t s v) xs
  only_wide_moves = no_other (λ v. WideMoves r t s v) xs (widely_moved r t s) e (widely_to r t s)

  pub each_wide_move : (v : Wide) → WideMoves r t s v → Contains xs v
  each_wide_move = each (λ v. WideMoves r t s v) xs (widely_moved r t s) e (widely_from r t s)

module _ (r : Rules) (l : Bounds) (s : Wide) (x : Entry) (xs : List Wide) (e : xs ≡ widely_entered r l s x) where
  pub only_widely_entered : All (λ v. WideEnters r l s x v) xs
  only_widely_entered = no_other (λ v. WideEnters r l s x v) xs (widely_entered r l s x) e (widely_entered_to r l s x)

  pub each_widely_entered : (v : Wide) → WideEnters r l s x v → Contains xs v
  each_widely_entered = each (λ v. WideEnters r l s x v) xs (widely_entered r l s x) e (widely_entered_from r l s x)

module _ (r : Rules) (t : ℕ) (s : Wide) (xs : List Wide) (e : xs ≡ ended_apart r t s) where
  pub only_ends_apart : All (λ v. WideEndsApart r t s v) xs
  only_ends_apart = no_other (λ v. WideEndsApart r t s v) xs (ended_apart r t s) e (ended_apart_to r t s)

  pub each_end_apart : (v : Wide) → WideEndsApart r t s v → Contains xs v
  each_end_apart = each (λ v. WideEndsApart r t s v) xs (ended_apart r t s) e (ended_apart_from r t s)
