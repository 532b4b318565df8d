-- The threads that are parked in sorted lists, one for each variable, as a kernel has them: in order of their tickets.
use Rattle.std.specs.Prelude.{◌≡◌, ℕ, ◌+◌, ◌<◌, ◌≤◌, List, map, Option, Some, None}
use Rattle.pif_nodes_model.specs.Table.{NodeLists}
use Rattle.pif_kernel_model.specs.Parked.{Parked, ParkedLists, parked_at}
use Rattle.pif_queue.specs.Numbered.{ticket_by}
use Rattle.pif_model.specs.PiKernel.{Parking}
use Rattle.pif_kernel_model.specs.Arrivals.{in_order}

-- the variable, the target and the priority of a thread, if it is parked; else 0
abbrev pub parked_cond : Option Parked → ℕ
parked_cond None = 0
parked_cond (Some x) = x.cond

abbrev pub parked_target : Option Parked → ℕ
parked_target None = 0
parked_target (Some x) = x.target

abbrev pub parked_prio : Option Parked → ℕ
parked_prio None = 0
parked_prio (Some x) = x.rank.prio

-- a thread and its variable, with its target
abbrev pub parking_of : (ℕ → Option Parked) → ℕ × ℕ → Parking
parking_of at w = record { thread = w.0; cond = w.1; target = parked_target (at w.0) }

-- the parked ones of the threads from 1 to n, each with its variable, in order of their tickets
abbrev pub pairs_by : (ℕ → Option Parked) → ℕ → List (ℕ × ℕ)
pairs_by at n = in_order (ticket_by at) (λ u. parked_cond (at u)) (n + 1)

-- and with its target
abbrev pub parkings_by : (ℕ → Option Parked) → ℕ → List Parking
parkings_by at n = map (parking_of at) (pairs_by at n)

-- the parked threads of some lists in a table
abbrev pub parkings_in : ParkedLists → NodeLists → List Parking
parkings_in p t = parkings_by (parked_at p t) p.threads

-- what holds of the parked ones of the threads from 1 to n: each is parked on a variable, with a priority of 99 at most
-- and with a ticket of its own, from 1 on and below the next
pub record AreParked (at : ℕ → Option Parked) (n next : ℕ) : Type 0 where
  pub some : 1 ≤ next
  pub within : (u : ℕ) (x : Parked) → at u ≡ Some x → (1 ≤ u) × (u ≤ n)
  pub cond : (u : ℕ) (x : Parked) → at u ≡ Some x → 1 ≤ x.cond
  pub most : (u : ℕ) (x : Parked) → at u ≡ Some x → x.rank.prio ≤ 99
  pub least : (u : ℕ) (x : Parked) → at u ≡ Some x → 1 ≤ x.rank.ticket
  pub below : (u : ℕ) (x : Parked) → at u ≡ Some x → x.rank.ticket < next
  pub once : (u v : ℕ) (x y : Parked) → at u ≡ Some x → at v ≡ Some y → x.rank.ticket ≡ y.rank.ticket → u ≡ v

-- each parked thread has the priority that a function has for it
abbrev pub ByPriority : (ℕ → Option Parked) → (ℕ → ℕ) → Type 0
ByPriority at local = (u : ℕ) (x : Parked) → at u ≡ Some x → x.rank.prio ≡ local u
