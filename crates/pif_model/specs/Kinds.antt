-- What the kinds of mutexes differ in.
use Rattle.pif_types.specs.declared.requests.Kind.{Kind}
use Rattle.pif_types.specs.declared.requests.Kind.TheVariants.{Normal, ErrorCheck, Recursive}
use Rattle.pif_model.specs.declared.lines.Relock.{Relock}
use Rattle.pif_model.specs.declared.lines.Relock.TheVariants.{Deadlocks, Answers, Counts}

-- what a lock by its owner does (pthread_mutex_lock, table of relocking: deadlock, an error is returned, recursive).
-- All else speaks of this, and of no kind
abbrev pub relock_of : Kind → Relock
relock_of Normal = Deadlocks
relock_of ErrorCheck = Answers
relock_of Recursive = Counts
