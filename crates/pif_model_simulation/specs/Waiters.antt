-- Whose call it is in which a thread is handed a mutex.
use Rattle.std.specs.Prelude.{ℕ, ◌≡◌, ◌==◌, Bool, false, Some, ◌⊎◌, if◌then◌else◌}
use Rattle.std.specs.List.{list_any}
use Rattle.pif_types.specs.declared.requests.Request.{Request}
use Rattle.pif_types.specs.declared.requests.Request.TheVariants.{Lock, Wait}
use Rattle.pif_model.specs.Posix.{World, thread_at}
use Rattle.pif_model.specs.World.Progress.{Waiting}

-- whether t is among the waiters of m
abbrev pub is_waiter : World → ℕ → ℕ → Bool
is_waiter w t m = list_any (λ p. if p.0 == t then p.1 == m else false) w.waiters

-- t has a call open that locks m, or a wait that locks m again, and waits for m in it. A timed call is that call, with
-- a deadline beside it
pub record WaitsInItsCall (w : World) (t m : ℕ) : Type 0 where
  pub request : Request
  pub locks : (request ≡ Lock m) ⊎ ((c : ℕ) × (request ≡ Wait c m))
  pub call : (thread_at w t).call ≡ Some (record { request = request; progress = Waiting })
