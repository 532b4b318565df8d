-- The numbers of errors, as <errno.h> of Linux on x86-64 has them.
use Rattle.std.specs.Prelude.{ℕ}
use Rattle.pif_types.specs.declared.errors.Errno.{Errno}
use Rattle.pif_types.specs.declared.errors.Errno.TheVariants.{NotPermitted, NoSuchThread, Again, Fault, Busy, Invalid, Deadlock, Overflow, TimedOut, OwnerDead, NotRecoverable}

-- the number of an error
abbrev pub number_of : Errno → ℕ
number_of NotPermitted = 1
number_of NoSuchThread = 3
number_of Again = 11
number_of Fault = 14
number_of Busy = 16
number_of Invalid = 22
number_of Deadlock = 35
number_of Overflow = 75
number_of TimedOut = 110
number_of OwnerDead = 130
number_of NotRecoverable = 131
