-- The errors that a call can answer, in the order of their numbers.
use Rattle.std.proofs.Common.{List, [], ◌∷◌}
use Rattle.pif_types.specs.declared.errors.Errno.{Errno}
use Rattle.pif_types.specs.declared.errors.Errno.TheVariants.{NotPermitted, NoSuchThread, Again, Busy, Invalid, Deadlock, Overflow, TimedOut, OwnerDead, NotRecoverable}

abbrev pub errors : List Errno
errors =
    NotPermitted ∷ NoSuchThread ∷ Again ∷ Busy ∷ Invalid ∷ Deadlock ∷ Overflow ∷ TimedOut ∷ OwnerDead ∷ NotRecoverable ∷ []
