-- Tickets that are renumbered in their order.
use Rattle.std.specs.Prelude.{◌≡◌, ◌≢◌, ℕ, zero, suc, ◌+◌, ◌<◌, ◌≤◌, ◌==◌, eqb, nat_lt, Bool, true, false, if◌then◌else◌, List, [], ◌∷◌, length, map, get_or, Option, Some, None, IsSome, option_map}
use Rattle.std.specs.List.{list_any, IsDistinct}
use Rattle.pif_kernel_model.specs.Owners.{Owners, Task, Wait, task_at, waits_on, KeepsOrder}
use Rattle.pif_kernel_model.specs.Arrivals.{Rise}
use Rattle.pif_kernel_model.specs.Inside.{ticket_of}

-- the tickets once those of the first `count` of these threads are the numbers from n on
abbrev pub renumbered_ticket : (ℕ → ℕ) → ℕ → ℕ → List (ℕ × ℕ) → ℕ → ℕ
renumbered_ticket ticket n zero ws u = ticket u
renumbered_ticket ticket n (suc count) [] u = ticket u
renumbered_ticket ticket n (suc count) (w ∷ ws) u = if w.0 == u then n else renumbered_ticket ticket (n + 1) count ws u

-- a seat with another ticket, if its thread waits
abbrev pub seat_with_ticket : ℕ → Task → Task
seat_with_ticket n x =
    record x {
      wait = option_map (λ
          (w : Wait). record { state = w.state; rank = record { prio = w.rank.prio; ticket = n } }) x.wait;
    }

-- the first `count` of these threads have the tickets from 1 on, and all else is as it was
pub record IsRenumbered (old now : Owners) (ws : List (ℕ × ℕ)) (count : ℕ) : Type 0 where
  pub seats : length now.seats ≡ length old.seats
  pub owners : now.owners ≡ old.owners
  pub seat : (u : ℕ) → task_at now u ≡ seat_with_ticket (renumbered_ticket (ticket_of old) 1 count ws u) (task_at old u)

-- whether a thread is among these
abbrev pub is_named : ℕ → List (ℕ × ℕ) → Bool
is_named t ws = list_any (λ (w : ℕ × ℕ). w.0 == t) ws

-- the tickets of these threads may be renumbered one by one: each waits, and with its new ticket stands where it did
pub record IsRenumberable (v : Owners) (ws : List (ℕ × ℕ)) : Type 0 where
  pub few : length ws ≤ 1024
  pub rows : (t : ℕ) → is_named t ws ≡ true → t < length v.seats
  pub waits : (t : ℕ) → is_named t ws ≡ true → IsSome (waits_on v t)
  pub once : IsDistinct eqb (map (λ (w : ℕ × ℕ). w.0) ws)
  pub keeps : (now : Owners) (i t : ℕ) (d : ℕ × ℕ) → IsRenumbered v now ws i → i < length ws → (get_or ws i d).0 ≡ t
      → KeepsOrder now t (i + 1)
  pub stays : (now : Owners) (i t : ℕ) → IsRenumbered v now ws i → waits_on now t ≡ waits_on v t

-- these are the waiters, all among the threads below n, in order of their tickets
pub record IsNumbered (v : Owners) (n : ℕ) (ws : List (ℕ × ℕ)) : Type 0 where
  pub some : 1 ≤ n
  pub few : n ≤ 1025
  pub next : ℕ
  pub rises : Rise (ticket_of v) 1 ws next
  pub known : (t : ℕ) → is_named t ws ≡ true → (t ≢ 0) × (t < n)
  pub others : (t : ℕ) → is_named t ws ≡ false → ticket_of v t ≡ 0

-- whether u has a ticket from `least` on, and a lower one than the first so far
abbrev pub has_sooner_ticket : (ℕ → ℕ) → ℕ → Option ℕ → ℕ → Bool
has_sooner_ticket ticket least None u = if nat_lt (ticket u) least then false else true
has_sooner_ticket ticket least (Some v) u = if nat_lt (ticket u) least then false else nat_lt (ticket u) (ticket v)

-- of the threads from 1 on and below n the first has the lowest ticket from `least` on, and is None if none has such a
-- ticket
abbrev pub HasFirstTicketFrom : (ℕ → ℕ) → ℕ → ℕ → Option ℕ → Type 0
HasFirstTicketFrom ticket least n None = (u : ℕ) → 1 ≤ u → u < n → ticket u < least
HasFirstTicketFrom ticket least n (Some v) =
    (1 ≤ v) × (v < n) × (least ≤ ticket v)
    × ((u : ℕ) → 1 ≤ u → u < n → least ≤ ticket u → ticket v ≤ ticket u)
