-- The numbers that rules speak of, each under its name. An error's number stands once, in `number_of` of pif_types.
use Rattle.std.specs.Prelude.{ℕ}
use Rattle.pif_types.specs.Numbers.{number_of}
use Rattle.pif_types.specs.declared.errors.Errno.TheVariants.{NotPermitted, NoSuchThread, Again, Busy, Invalid, Deadlock, Overflow, TimedOut, OwnerDead, NotRecoverable}

-- THE ERRORS OF <errno.h> THAT A CALL ANSWERS

-- the caller isn't the owner
abbrev pub EPERM : ℕ
EPERM = number_of NotPermitted

-- no living thread has that number
abbrev pub ESRCH : ℕ
ESRCH = number_of NoSuchThread

-- a RECURSIVE mutex is held as often as it may be
abbrev pub EAGAIN : ℕ
EAGAIN = number_of Again

-- the mutex is held
abbrev pub EBUSY : ℕ
EBUSY = number_of Busy

-- an argument is not valid
abbrev pub EINVAL : ℕ
EINVAL = number_of Invalid

-- the caller owns the mutex, or waiting would close a cycle
abbrev pub EDEADLK : ℕ
EDEADLK = number_of Deadlock

-- the variable was used as often as it may be
abbrev pub EOVERFLOW : ℕ
EOVERFLOW = number_of Overflow

-- the deadline was reached
abbrev pub ETIMEDOUT : ℕ
ETIMEDOUT = number_of TimedOut

-- the last owner ended: the caller owns the mutex now, in an inconsistent state
abbrev pub EOWNERDEAD : ℕ
EOWNERDEAD = number_of OwnerDead

-- the mutex was given up while it was inconsistent, and can't be used again
abbrev pub ENOTRECOVERABLE : ℕ
ENOTRECOVERABLE = number_of NotRecoverable

-- HOLDING

-- how often a RECURSIVE mutex may be held (this project's choice)
abbrev pub most_holds : ℕ
most_holds = 255
