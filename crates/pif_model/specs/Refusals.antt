-- When an event is refused, for both machines. Nothing changes then.
use Rattle.std.specs.Prelude.{ℕ, nat_lt, Bool, Option, Some, None, if◌then◌else◌}
use Rattle.pif_types.specs.declared.errors.Refusal.{Refusal}
use Rattle.pif_types.specs.declared.errors.Refusal.TheVariants.{Dead, Busy, Idle, NoSuch, Past}

-- End, in this order: a thread that was never added, a thread that has ended
abbrev pub end_refused : (known living : Bool) → Option Refusal
end_refused known living = if known then (if living then None else Some Dead) else Some NoSuch

-- Begin, in this order: a thread that was never added, one that has ended, one with a call open, and a mutex or a
-- variable that doesn't exist
abbrev pub begin_refused : (known living busy named : Bool) → Option Refusal
begin_refused known living busy named =
    if known then (if living then (if busy then Some Busy else (if named then None else Some NoSuch)) else Some Dead)
    else Some NoSuch

-- Go, in this order: a thread that was never added, one that has ended, one with no call open
abbrev pub go_refused : (known living busy : Bool) → Option Refusal
go_refused known living busy =
    if known then (if living then (if busy then None else Some Idle) else Some Dead) else Some NoSuch

-- Tick: a time before the present one
abbrev pub tick_refused : (now next : ℕ) → Option Refusal
tick_refused now next = if nat_lt next now then Some Past else None
