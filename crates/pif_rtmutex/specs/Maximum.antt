-- The priority that a thread is to have by those that wait on the states that it owns.
use Rattle.std.specs.Prelude.{ℕ, max, ◌==◌, length, option_map, unwrap_or}
use Rattle.pif_nodes_model.specs.declared.keys.Key.{Key}
use Rattle.pif_model.specs.Graph.{greatest_where}
use Rattle.pif_kernel_model.specs.Owners.{Owners, task_at, rank_of, waits_for}

-- the priority with which a thread waits; 0 if it waits for nothing
abbrev pub rank_priority : Owners → ℕ → ℕ
rank_priority v u = unwrap_or (option_map (λ (k : Key). k.prio) (rank_of v u)) 0

-- the greatest priority with which another thread waits for this one; 0 if none does
abbrev pub greatest_rank : Owners → ℕ → ℕ
greatest_rank v t = greatest_where (λ u. waits_for v u == t) (rank_priority v) (length v.seats)

-- the greater of that and of the thread's base priority
abbrev pub maximum_of : Owners → ℕ → ℕ
maximum_of v t = max (task_at v t).base (greatest_rank v t)
