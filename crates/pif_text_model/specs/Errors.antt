-- The numbers and the names of errors, as <errno.h> has them.
use Rattle.std.specs.Prelude.{ℕ, ◌==◌, List, [], ◌∷◌, Option, bytes_eq, codes, find}
use Rattle.pif_types.specs.Numbers.{number_of}
use Rattle.pif_types.specs.declared.errors.Errno.{Errno}
use Rattle.pif_types.specs.declared.errors.Errno.TheVariants.{NotPermitted, NoSuchThread, Again, Fault, Busy, Invalid, Deadlock, Overflow, TimedOut, OwnerDead, NotRecoverable}

-- the name of an error
abbrev pub errno_name : Errno → List ℕ
errno_name NotPermitted = codes "EPERM"
errno_name NoSuchThread = codes "ESRCH"
errno_name Again = codes "EAGAIN"
errno_name Fault = codes "EFAULT"
errno_name Busy = codes "EBUSY"
errno_name Invalid = codes "EINVAL"
errno_name Deadlock = codes "EDEADLK"
errno_name Overflow = codes "EOVERFLOW"
errno_name TimedOut = codes "ETIMEDOUT"
errno_name OwnerDead = codes "EOWNERDEAD"
errno_name NotRecoverable = codes "ENOTRECOVERABLE"

-- all errors, in the order of their numbers
abbrev pub errors : List Errno
errors =
    NotPermitted ∷ NoSuchThread ∷ Again ∷ Fault ∷ Busy ∷ Invalid ∷ Deadlock ∷ Overflow ∷ TimedOut ∷ OwnerDead
    ∷ NotRecoverable ∷ []

-- the error that has this number, if one has it
unfoldable pub error_of : ℕ → Option Errno
error_of number = find (λ errno. number_of errno == number) errors

-- the error that has this name, if one has it
unfoldable pub error_named : List ℕ → Option Errno
error_named name = find (λ errno. bytes_eq name (errno_name errno)) errors
