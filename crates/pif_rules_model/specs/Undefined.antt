-- Calls whose behaviour POSIX.1-2017 leaves undefined. That isn't a rule: a run in which such a call is made says
-- nothing of the implementation from there on. What is told here is told of the state in which the call was made, and
-- has had no effect. These are all that the pages name and a history can say: that a mutex, a variable or an attribute
-- was never initialized, or was destroyed, or that a mutex is of the type DEFAULT, no history says. A call on a mutex
-- that is unusable for good is none of them: the pages name its answer.
use Rattle.std.specs.Prelude.{ℕ, Bool, true, false, ◌==◌, ◌||◌, not, Some, None, if◌then◌else◌}
use Rattle.pif_types.specs.declared.requests.Kind.{Kind}
use Rattle.pif_types.specs.declared.requests.Kind.TheVariants.{Normal, ErrorCheck, Recursive}
use Rattle.pif_types.specs.declared.requests.Request.{Request}
use Rattle.pif_types.specs.declared.requests.Request.TheVariants.{Unlock, Wait, SetPrio}
use Rattle.pif_model.specs.World.{Progress}
use Rattle.pif_model.specs.World.Progress.{Fresh}
use Rattle.pif_model.specs.Posix.{World, is_thread, is_living, mutex_at, thread_at, variable_at}
use Rattle.pif_posix_steps.specs.Doing.{all_blocked}
use Rattle.pif_rules_model.specs.Ruled.{is_some_of}

-- whether a mutex of this kind that isn't robust leaves undefined what an unlock by another than its owner does, also
-- if nobody owns it (pthread_mutex_lock, the table of mutex types, 'Unlock When Not Owner': a NORMAL one does, and the
-- others answer an error)
abbrev pub leaves_unlock_undefined : Kind → Bool
leaves_unlock_undefined Normal = true
leaves_unlock_undefined ErrorCheck = false
leaves_unlock_undefined Recursive = false

-- whether it leaves undefined what a wait by another than its owner does (pthread_cond_timedwait, DESCRIPTION: the
-- application ensures that the caller has locked the mutex; an ERRORCHECK one answers an error otherwise, the others
-- don't)
abbrev pub leaves_wait_undefined : Kind → Bool
leaves_wait_undefined Normal = true
leaves_wait_undefined ErrorCheck = false
leaves_wait_undefined Recursive = true

-- whether t doesn't own m, which isn't robust, and m's kind leaves undefined what t does with it. By both pages a
-- robust mutex of any kind answers an error
abbrev pub is_not_owned_and : (Kind → Bool) → World → ℕ → ℕ → Bool
is_not_owned_and undefined w t m =
    if (mutex_at w m).robust then false
    else (if (mutex_at w m).owner == t then false else undefined (mutex_at w m).kind)

-- whether a thread is blocked on c with another mutex than m, of whatever kind (pthread_cond_timedwait, DESCRIPTION: a
-- variable is bound to a mutex as long as a thread is blocked on it, and a wait with a different one has an undefined
-- effect)
abbrev pub is_waited_for_elsewhere : World → ℕ → ℕ → Bool
is_waited_for_elsewhere w c m = if (variable_at w c).mutex == m then false else is_some_of (all_blocked w c)

-- whether u has ended, so that the lifetime of its ID may have ended, too, after which it may not be used
-- (pthread_setschedprio, RATIONALE; XSH 2.9.2: it has once the thread was joined or detached, which no history says)
abbrev pub has_gone : World → ℕ → Bool
has_gone w u = if is_thread w u then not (is_living w u) else false

-- whether POSIX leaves undefined what this call of t does in this state, in which it has had no effect. A timed wait
-- stands there as the wait that it is
abbrev pub is_undefined_by : World → ℕ → Request → Bool
is_undefined_by w t (Unlock m) = is_not_owned_and leaves_unlock_undefined w t m
is_undefined_by w t (Wait c m) = is_not_owned_and leaves_wait_undefined w t m || is_waited_for_elsewhere w c m
is_undefined_by w t (SetPrio u p) = has_gone w u
is_undefined_by w t q = false

-- whether a call that has come so far has had no effect
abbrev pub is_fresh : Progress → Bool
is_fresh Fresh = true
is_fresh _ = false

-- whether t's open call has had no effect, and POSIX leaves undefined what it does
abbrev pub is_left_undefined : World → ℕ → Bool
is_left_undefined w t =
    elim (thread_at w t).call [ None ↦ false | Some x ↦ if is_fresh x.progress then is_undefined_by w t x.request else false ]
