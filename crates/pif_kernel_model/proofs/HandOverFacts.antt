-- What holds while a mutex is handed to its next waiter.
use Rattle.std.proofs.Common.{◌≡◌, ◌≢◌, ℕ, ◌+◌, true, if◌then◌else◌, List, length, get_or, set, Option, Some, None}
use Rattle.pif_model.specs.Graph.{has_waiter, without}
use Rattle.pif_model.specs.PiKernel.{queued_on}
use Rattle.pif_model.specs.PiKernel.{seat_at as kernel_seat_at}
use Rattle.pif_kernel_model.specs.Owners.{Owners, task_at, owner_at, count, IsTop}
use Rattle.pif_kernel_model.specs.Inside.{Inside, IsSoundInside, kernel_of, state_key_at, state_at}

-- the keys and owner states in which m was handed to u, its next waiter: if others still wait for m, u is the owner
-- in its owner state, and else it has none
pub record IsHanded (p : Inside) (keys : List (Option ℕ)) (owners : Owners) (u m key : ℕ) : Type 0 where
  pub seats : owners.seats ≡ set p.owners.seats u (record (task_at p.owners u) { wait = None })
  pub long : length keys ≡ length p.keys
  pub here : get_or keys m None ≡ (if has_waiter (without p.arrivals u) m then Some key else None)
  pub there : (n : ℕ) → n ≢ m → get_or keys n None ≡ state_key_at p n
  pub owned : has_waiter (without p.arrivals u) m ≡ true → owner_at owners key ≡ Some u
  pub others : (k : ℕ) → k ≢ key → owner_at owners k ≡ owner_at p.owners k
  pub counted : count owners + (if has_waiter (without p.arrivals u) m then 0 else 1) ≡ count p.owners

-- what is kept once the mutex was handed over
pub record IsGiven (p x : Inside) (u m key : ℕ) : Type 0 where
  pub frame : x ≡ record p { keys = x.keys; owners = x.owners; arrivals = without p.arrivals u }
  pub handed : IsHanded p x.keys x.owners u m key

-- what is known before t hands m, which has this key, to its next waiter
pub record IsHandable (p : Inside) (t m key : ℕ) : Type 0 where
  pub sound : IsSoundInside p
  pub at : state_key_at p m ≡ Some key
  pub owner : state_at p m ≡ t
  pub idle : queued_on (kernel_seat_at (kernel_of p) t).status ≡ 0

-- what is known once t handed m to u
pub record IsHanding (old p x : Inside) (t m key u : ℕ) : Type 0 where
  pub hands : IsHandable p t m key
  pub top : IsTop p.owners key u
  pub handed : IsHanded p x.keys x.owners u m key
  pub rest : x.arrivals ≡ without p.arrivals u
  pub same : kernel_of p ≡ kernel_of old

-- the same, if what was kept is written by what is kept now
abbrev pub IsHandedOn : (old p x : Inside) (t m key u : ℕ) → Type 0
IsHandedOn old p x t m key u =
    IsHanding old (record x { keys = p.keys; owners = p.owners; arrivals = p.arrivals }) x t m key u
