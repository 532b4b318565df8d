-- The waiters of one owner state, in their order.
use Rattle.std.specs.Prelude.{ℕ, Bool, true, false, ◌==◌, if◌then◌else◌, Option, Some, None, option_and_then}
use Rattle.pif_nodes_model.specs.declared.keys.Key.{Key}
use Rattle.pif_nodes_model.specs.Order.{comes_before}
use Rattle.pif_kernel_model.specs.Owners.{Owners, Wait, task_at}

-- the rank of a wait on a state; None if it is on another
abbrev pub rank_on : ℕ → Wait → Option Key
rank_on k w = if w.state == k then Some w.rank else None

-- the rank with which a thread stands among the waiters of a state; None if it doesn't wait there
abbrev pub standing : Owners → ℕ → ℕ → Option Key
standing v k t = option_and_then (rank_on k) (task_at v t).wait

-- whether who stands so leads who stands so: nobody leads, all others lead nobody, and two waiters are in their order
abbrev pub leads : Option Key → Option Key → Bool
leads None other = false
leads (Some mine) None = true
leads (Some mine) (Some other) = comes_before mine other

-- a rank that comes after another
abbrev pub later : Key → Key → Option Key
later mine other = if comes_before mine other then Some other else None

-- the rank with which u stands behind t among the waiters of its state; None if it doesn't
abbrev pub standing_behind : Owners → ℕ → ℕ → Option Key
standing_behind v t u =
    option_and_then (λ (w : Wait). option_and_then (later w.rank) (standing v w.state u)) (task_at v t).wait
