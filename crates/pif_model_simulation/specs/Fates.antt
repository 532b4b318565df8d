-- What becomes of a call that has a deadline, by a run: it expires, or it gets what it waits for before that.
use Rattle.std.specs.Prelude.{ℕ, Bool, true, false, ◌==◌, List, [], ◌∷◌, Option, Some, None, if◌then◌else◌}
use Rattle.pif_types.specs.declared.requests.Request.{Request}
use Rattle.pif_types.specs.declared.requests.Request.TheVariants.{Wait}
use Rattle.pif_model.specs.declared.events.Event.TheVariants.{Begin, Go}
use Rattle.pif_model.specs.declared.events.Seen.TheVariants.{Begun}
use Rattle.pif_model.specs.declared.events.Entry.{Entry}
use Rattle.pif_model.specs.declared.events.Entry.TheVariants.{Step as Happened}
use Rattle.pif_model.specs.Posix.{Progress, Call, World, thread_at, is_due}
use Rattle.pif_model.specs.World.Progress.{Waiting, Stuck, Leaving, Has, Enlisted, Reacquiring}

-- what has become of a call so far
pub data Fate : Type 0 where
  -- nothing yet
  Pending : Fate
  -- a step of its thread came when it was due, and nothing else had become of it before
  Expired : Fate
  -- it was handed its mutex, was unblocked or had a result, and it had not expired before
  Settled : Fate

-- whether a request waits on a variable
abbrev pub is_wait : Request → Bool
is_wait (Wait c m) = true
is_wait _ = false

-- whether a call of this request that has come this far waits no more for what its deadline is on: a lock was handed
-- its mutex or has a result, and a wait was unblocked, or has gone on from there
abbrev pub is_past : Request → Progress → Bool
is_past q Waiting = is_wait q
is_past q Stuck = is_wait q
is_past q Leaving = true
is_past q (Has a) = true
is_past q (Enlisted still) = if still then false else true
is_past q Reacquiring = true
is_past q _ = false

-- whether an open call is so
abbrev pub is_settled : Option Call → Bool
is_settled None = false
is_settled (Some x) = is_past x.request x.progress

-- what has become of a call once a step came in this state, of its own thread or of another
abbrev pub fate_on : (own due settled : Bool) → Fate → Fate
fate_on own due settled Pending =
    if (if own then due else false) then Expired else (if settled then Settled else Pending)
fate_on own due settled f = f

-- what has become of t's last call after one more entry, which came in the state w
abbrev pub fate_after : ℕ → Entry → World → Fate → Fate
fate_after t (Happened (Begin u q) Begun) w f =
    if u == t then Pending else fate_on false (is_due w t) (is_settled (thread_at w t).call) f
fate_after t (Happened (Go u) x) w f = fate_on (u == t) (is_due w t) (is_settled (thread_at w t).call) f
fate_after t _ w f = fate_on false (is_due w t) (is_settled (thread_at w t).call) f

-- what has become of t's last call, by a history and the states before its entries
abbrev pub fate : ℕ → List Entry → List World → Fate
fate t [] r = Pending
fate t (e ∷ h) [] = Pending
fate t (e ∷ h) (w ∷ r) = fate_after t e w (fate t h r)
