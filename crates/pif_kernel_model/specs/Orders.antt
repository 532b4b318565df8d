-- Who stands before whom, of those that wait for one thing.
use Rattle.std.specs.Prelude.{ℕ, ◌==◌, List, map}
use Rattle.std.specs.List.{filter}

-- the threads among these that wait for m with this effective priority, in their order
abbrev pub waiters_at_level : (ℕ → ℕ) → ℕ → List (ℕ × ℕ) → ℕ → List ℕ
waiters_at_level effective level ws m = filter (λ u. effective u == level) (map (λ w. w.0) (filter (λ w. w.1 == m) ws))
