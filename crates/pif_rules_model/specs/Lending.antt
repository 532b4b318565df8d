-- Mutexes of PTHREAD_PRIO_NONE beside those that inherit. Who waits for one lends its priority to nobody
-- (pthread_mutexattr_getprotocol: owning such a mutex does not affect the priority of its owner), and the test whether a
-- lock closes a cycle doesn't follow it (pthread_mutex_lock: EDEADLK is an error that may be reported).
-- The POSIX machine of Posix.antt has mutexes that inherit alone, so it is shown the state as lending sees it: each mutex
-- that lends nothing, and that the step isn't about, looks free, and so who waits for it waits for nobody. Behind the step
-- it has its owner again.
use Rattle.std.specs.Prelude.{ℕ, ◌==◌, Bool, false, not, List, [], ◌∷◌, Option, Some, None}
use Rattle.std.specs.List.{filter}
use Rattle.pif_model.specs.Posix.{World, Call, thread_at, mutex_at, with_mutex, named_by}

-- m owned by t
abbrev pub with_owner : ℕ → ℕ → World → World
with_owner m t w = with_mutex m (record (mutex_at w m) { owner = t }) w

-- w, in which each of these mutexes looks free
abbrev pub looking_free : List ℕ → World → World
looking_free [] w = w
looking_free (m ∷ ms) w = looking_free ms (with_owner m 0 w)

-- v, in which each of these mutexes has the owner that it has in w
abbrev pub owned_as_in : World → List ℕ → World → World
owned_as_in w [] v = v
owned_as_in w (m ∷ ms) v = owned_as_in w ms (with_owner m (mutex_at w m).owner v)

-- whether an open call names m
abbrev pub is_about : Option Call → ℕ → Bool
is_about None m = false
is_about (Some x) m = named_by x.request == m

-- those of these mutexes that t's open call doesn't name
abbrev pub not_named : World → ℕ → List ℕ → List ℕ
not_named w t ms = filter (λ m. not (is_about (thread_at w t).call m)) ms

-- those of these mutexes that t doesn't own
abbrev pub not_owned : World → ℕ → List ℕ → List ℕ
not_owned w t ms = filter (λ m. not ((mutex_at w m).owner == t)) ms
