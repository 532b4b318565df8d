-- What a caller knows of a mutex that it has locked.
use Rattle.std.specs.Prelude.{ℕ, ◌≡◌, ◌==◌, true, List, None, Result, Ok, Err, if◌then◌else◌}
use Rattle.pif_types.specs.declared.requests.Request.TheVariants.{Lock}
use Rattle.pif_model.specs.NamedNumbers.{EOWNERDEAD}
use Rattle.pif_model.specs.declared.events.Entry.{Entry}
use Rattle.pif_model.specs.declared.events.Seen.{Seen}
use Rattle.pif_model.specs.declared.events.Seen.TheVariants.{Answered}
use Rattle.pif_model.specs.Posix.{World, mutex_at}
use Rattle.pif_model.specs.World.Health.{Fine}
use Rattle.pif_model.specs.Standing.{WhereStands}
use Rattle.pif_model.specs.History.{hold_count, holds, open_call}
use Rattle.pif_model.specs.Table.{Table}
use Rattle.pif_core_callers.specs.declared.locking.Held.{Held}
use Rattle.pif_core_callers.specs.declared.locking.Held.TheVariants.{InOrder, OwnerDied}
use Rattle.pif_model_simulation.specs.Calls.{StandsOn, call_outcome}

-- whether a lock that was answered so has taken the mutex: 0, or EOWNERDEAD
abbrev pub locked_by : Seen → Result Held Seen
locked_by (Answered a) = if a == 0 then Ok InOrder else (if a == EOWNERDEAD then Ok OwnerDied else Err (Answered a))
locked_by x = Err x

-- a core stands on after a history in which t has no call open and holds m this often, as nobody else does: by the
-- answers, and in the state of the POSIX machine, where t is the owner
pub record HoldsOn (t m n : ℕ) (s : Table) (h : List Entry) (r : List World) (w : World) : Type 0 where
  pub on : StandsOn s h r w
  pub idle : open_call t h ≡ None
  pub count : hold_count t m h ≡ n
  pub holder : holds t m h ≡ true
  pub alone : (u : ℕ) → holds u m h ≡ true → u ≡ t
  pub owns : (mutex_at on.last m).owner ≡ t

-- a core stands on after a history in which t has no call open and holds m this often
pub record CountsOn (t m n : ℕ) (s : Table) (h : List Entry) (r : List World) (w : World) : Type 0 where
  pub on : StandsOn s h r w
  pub idle : open_call t h ≡ None
  pub count : hold_count t m h ≡ n

-- how t's lock of m, a whole call, finds it, and the table after that call
abbrev pub lock_finds : ℕ → ℕ → Table → Result Held Seen
lock_finds t m s = locked_by (call_outcome t (Lock m) s).seen

abbrev pub after_lock : ℕ → ℕ → Table → Table
after_lock t m s = (call_outcome t (Lock m) s).after

-- of two tables or histories that which there is after a lock: the second if it has taken the mutex
abbrev pub if_taken : {A : Type 0} → Result Held Seen → (refused taken : A) → A
if_taken (Ok x) refused taken = taken
if_taken (Err seen) refused taken = refused

-- what a lock and the unlock behind it were answered: the unlock if the lock has taken the mutex
abbrev pub unlocked_by : Result Held Seen → Seen → Result Seen Seen
unlocked_by (Ok x) unlocked = Ok unlocked
unlocked_by (Err seen) unlocked = Err seen

-- of two tables, histories or values that which there is after a lock: the second if the last owner has ended
abbrev pub if_died : {A : Type 0} → Result Held Seen → (orderly died : A) → A
if_died (Ok InOrder) orderly died = orderly
if_died (Ok OwnerDied) orderly died = died
if_died (Err seen) orderly died = orderly

-- how a lock found the mutex; or what consistent is answered, if the last owner has ended and that is not 0
abbrev pub repaired_by : Result Held Seen → Seen → Result Held Seen
repaired_by (Ok InOrder) consistent = Ok InOrder
repaired_by (Ok OwnerDied) (Answered a) = if a == 0 then Ok OwnerDied else Err (Answered a)
repaired_by (Ok OwnerDied) consistent = Err consistent
repaired_by (Err seen) consistent = Err seen

-- what m protects is in order in each state of the POSIX machine in which a core with this table stands
abbrev pub IsFineIn : ℕ → Table → Type 0
IsFineIn m s = WhereStands s (λ h r w. (mutex_at w m).health ≡ Fine)
