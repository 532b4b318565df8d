-- Parked threads whose tickets are renumbered, in the order in which they were.
use Rattle.std.specs.Prelude.{◌≡◌, ℕ, ◌<◌, ◌≤◌, nat_lt, Option, Some, None}
use Rattle.pif_kernel_model.specs.Parked.{Parked, parked_with_ticket}

-- the ticket of a thread; 0 if it is not parked
abbrev pub ticket_in : Option Parked → ℕ
ticket_in None = 0
ticket_in (Some x) = x.rank.ticket

abbrev pub ticket_by : (ℕ → Option Parked) → ℕ → ℕ
ticket_by at u = ticket_in (at u)

-- each parked thread has a ticket of its own, from 1 on
pub record HaveTickets (at : ℕ → Option Parked) : Type 0 where
  pub least : (u : ℕ) (x : Parked) → at u ≡ Some x → 1 ≤ x.rank.ticket
  pub once : (u v : ℕ) (x y : Parked) → at u ≡ Some x → at v ≡ Some y → x.rank.ticket ≡ y.rank.ticket → u ≡ v

-- the tickets of the parked threads are the numbers from 1 to the one before `next`, each once, and go in the order in
-- which they went; all else of each thread is as it was
pub record AreNumbered (at now : ℕ → Option Parked) (next : ℕ) : Type 0 where
  pub kept : (u : ℕ) → parked_with_ticket 0 (now u) ≡ parked_with_ticket 0 (at u)
  pub order : (u v : ℕ) → nat_lt (ticket_by now u) (ticket_by now v) ≡ nat_lt (ticket_by at u) (ticket_by at v)
  pub least : (u : ℕ) (x : Parked) → now u ≡ Some x → 1 ≤ x.rank.ticket
  pub below : (u : ℕ) → ticket_by now u < next
  pub each : (k : ℕ) → 1 ≤ k → k < next → (u : ℕ) × (ticket_by now u ≡ k)
