-- Who runs while a thread waits for a mutex, on one processor or on several (Sha, Rajkumar and Lehoczky, Priority
-- Inheritance Protocols: An Approach to Real-Time Synchronization, IEEE Transactions on Computers 39(9), 1990).
use Rattle.std.specs.Prelude.{ℕ, ◌≡◌, ◌≢◌, ◌≤◌, ◌<◌, ◌⊎◌, Bool, true, false, ◌==◌, List, length, eqb}
use Rattle.std.specs.List.{list_any, IsDistinct}
use Rattle.pif_types.specs.declared.requests.Request.{Request}
use Rattle.pif_model.specs.Graph.{Reaches}
use Rattle.pif_model.specs.Posix.{World, WaitsFor, HasCome, IsBlocked, IsResting, IsNotResting, Lives, LivesNot, thread_at, sleeps, effective_of}
use Rattle.pif_model.specs.World.Progress.{Stuck}

-- t is ready: it lives and doesn't rest
pub record IsReady (w : World) (t : ℕ) : Type 0 where
  pub living : Lives w t
  pub awake : IsNotResting w t

-- the base priority of h is greater than that of every other living thread
abbrev pub IsHighest : World → ℕ → Type 0
IsHighest w h = (t : ℕ) → Lives w t → t ≢ h → (thread_at w t).base < (thread_at w h).base

-- the base priority of h is greater than that of every other thread that lives and doesn't sleep: it is ready, or waits
-- for a mutex. Who waits for good, or is blocked on a variable and was told to wait, may have a greater one
abbrev pub IsHighestAwake : World → ℕ → Type 0
IsHighestAwake w h =
    (t : ℕ) → Lives w t → sleeps (thread_at w t).call ≡ false → t ≢ h → (thread_at w t).base < (thread_at w h).base

-- p is somebody whose effective priority is at least that of h. A living thread lends it that much: p itself, or one
-- that waits for p through a chain, by its own base priority
pub record RunsNoLower (w : World) (h p : ℕ) : Type 0 where
  pub somebody : p ≢ 0
  pub no_lower : effective_of w h ≤ effective_of w p
  pub lender : ℕ
  pub lends : Reaches (WaitsFor w) lender p
  pub living : Lives w lender
  pub by : effective_of w h ≤ (thread_at w lender).base

-- t can't run, and waits for no mutex that another could give up
pub data IsOut (w : World) (t : ℕ) : Type 0 where
  -- it has ended, as the owner of a stalled mutex may have
  ended : LivesNot w t → IsOut w t
  -- its call waits for good
  waits_for_good : (q : Request) → HasCome w t q Stuck → IsOut w t
  -- it is blocked on a variable, and was told to wait
  waits_on_variable : (c : ℕ) → IsBlocked w c t → IsResting w t → IsOut w t

-- the chain of h is lost: it ends at a thread that can't run, or h itself can't. As long as that is so, no priority
-- that is lent to that one helps h
pub record IsLost (w : World) (h : ℕ) : Type 0 where
  pub end : ℕ
  pub chain : Reaches (WaitsFor w) h end
  pub out : IsOut w end

-- whether t is among these threads
abbrev pub is_one_of : List ℕ → ℕ → Bool
is_one_of ts t = list_any (λ u. u == t) ts

-- these threads run in w on k processors: k ready ones, or all that are ready if those are fewer; and no ready thread
-- besides has a greater effective priority than one of them
pub record RunOn (w : World) (k : ℕ) (running : List ℕ) : Type 0 where
  pub distinct : IsDistinct eqb running
  pub ready : (t : ℕ) → is_one_of running t ≡ true → IsReady w t
  pub busy : (length running ≡ k) ⊎ ((length running < k) × ((t : ℕ) → IsReady w t → is_one_of running t ≡ true))
  pub greatest : (t u : ℕ) → IsReady w t → is_one_of running t ≡ false → is_one_of running u ≡ true
      → effective_of w t ≤ effective_of w u
