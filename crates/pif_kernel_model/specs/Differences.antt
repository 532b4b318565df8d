-- How often neighbours in a list differ in what a function says of them: never exactly if it says the same of all.
use Rattle.std.specs.Prelude.{ℕ, ◌+◌, eqb, cond, List, [], ◌∷◌, Option, Some, None}
use Rattle.pif_nodes_model.specs.Lists.{first_of, next_in_list, prev_in_list}

-- 1 if there are two numbers, of which f says different things, and else 0
abbrev pub step_between : (ℕ → ℕ) → Option ℕ → Option ℕ → ℕ
step_between f None to = 0
step_between f (Some x) None = 0
step_between f (Some x) (Some y) = cond (eqb (f x) (f y)) 0 1

-- how many numbers of a list differ from the one behind them
abbrev pub differences : (ℕ → ℕ) → List ℕ → ℕ
differences f [] = 0
differences f (x ∷ xs) = step_between f (Some x) (first_of xs) + differences f xs

-- the differences between a number and its two neighbours
abbrev pub around : (ℕ → ℕ) → List ℕ → ℕ → ℕ
around f xs n = step_between f (prev_in_list xs n) (Some n) + step_between f (Some n) (next_in_list xs n)

-- the difference between its neighbours, once it is gone
abbrev pub across : (ℕ → ℕ) → List ℕ → ℕ → ℕ
across f xs n = step_between f (prev_in_list xs n) (next_in_list xs n)
