-- What a benchmark's table keeps: one list, sorted, and its nodes.
use Rattle.std.specs.Prelude.{ℕ, ◌≡◌, ◌<◌, ◌≤◌, length, nat_eq, if◌then◌else◌, Option, Some, None}
use Rattle.pif_nodes_model.specs.Table.{NodeLists, holder, key_at}
use Rattle.pif_nodes_model.specs.Order.{IsSorted}
use Rattle.pif_bench.specs.declared.layers.lists.Priorities.{Priorities}
use Rattle.pif_bench.specs.declared.layers.lists.Priorities.TheVariants.{Equal, Distinct}

-- the table of a benchmark between two of its calls
pub record IsReady (t : NodeLists) : Type 0 where
  pub lists : length t.lists ≡ 1
  pub nodes : length t.keys ≡ 1000
  pub sorted : IsSorted t 0

-- the priority of a node
abbrev pub priority_of : Priorities → ℕ → ℕ
priority_of Equal n = 1
priority_of Distinct n = n

-- the nodes below a number are in the list, each with its priority and its own number as its ticket, and no other
-- node is in it
pub record IsFilled (priorities : Priorities) (most : ℕ) (t : NodeLists) : Type 0 where
  pub held : (n : ℕ) → n < most → holder t n ≡ Some 0
  pub keys : (n : ℕ) → n < most → key_at t n ≡ record { prio = priority_of priorities n; ticket = n }
  pub rest : (n : ℕ) → most ≤ n → n < 1000 → holder t n ≡ None

-- no node below a number is in the list
abbrev pub IsEmptied : ℕ → NodeLists → Type 0
IsEmptied most t = (n : ℕ) → n < most → holder t n ≡ None

-- a node is in this list, or in none, and each other one is where it was
abbrev pub ChangesHolder : NodeLists → NodeLists → ℕ → Option ℕ → Type 0
ChangesHolder was now n list = (m : ℕ) → holder now m ≡ (if nat_eq m n then list else holder was m)
