-- Who is among the waiters of a mutex waits for it in its open call.
use Rattle.std.proofs.Common.{◌≡◌, ◌≤◌, ◌⊎◌, ℕ, true, List, inl, inr, ap, arith}
use Rattle.pif_types.specs.Bounds.{Bounds}
use Rattle.pif_types.specs.declared.requests.Request.{Request}
use Rattle.pif_types.specs.declared.requests.Request.TheVariants.{Lock, Wait}
use Rattle.pif_model.specs.declared.events.Entry.{Entry}
use Rattle.pif_model.specs.Posix.{World, IsRun}
use Rattle.pif_model.specs.Soundness.{waited_in}
use Rattle.pif_model_simulation.specs.Waiters.{is_waiter, WaitsInItsCall}
use Rattle.pif_model_simulation.proofs.runs.Worlds.{call_of}
use Rattle.pif_model_simulation.proofs.runs.Holding.{IsWaiting}
use Rattle.pif_model_simulation.proofs.runs.Holders.{IsHeld-IsRun}

-- a request that waits for a mutex locks it, or is a wait that locks it again
locks : (q : Request) (m : ℕ) → 1 ≤ m → waited_in q ≡ m → (q ≡ Lock m) ⊎ ((c : ℕ) × (q ≡ Wait c m))
locks (Lock k) m some e = inl (ap Lock e)
locks (Wait c k) m some e = inr (c, ap (Wait c) e)
locks _ m some e = absurd (omega (arith, some, e))

pub waits_in_its_call : (l : Bounds) (h : List Entry) (r : List World) (w : World) → IsRun l h r w → (t m : ℕ) → 1 ≤ m
    → is_waiter w t m ≡ true → WaitsInItsCall w t m
waits_in_its_call l h r w run t m some among =
    let waiting : IsWaiting m (call_of w t) = ((IsHeld-IsRun l run).each t).waiting m among in
    record { request = waiting.request; locks = locks waiting.request m some waiting.waits; call = waiting.call }
