-- Threads, mutexes and condition variables of the POSIX machine as objects of JSON, and what a step changes of them.
use Rattle.std.specs.Prelude.{ℕ, ◌-◌, ◌==◌, ◌&&◌, ◌||◌, Bool, true, false, not, nat_lt, List, [], ◌++◌, length, map, filter, Option, Some, None, bytes_eq, codes, decimal, if◌then◌else◌}
use Rattle.pif_types.specs.declared.requests.Health.TheVariants as health
use Rattle.pif_types.specs.declared.requests.Request.{Request}
use Rattle.pif_model.specs.World.{World, Call, Mutex, Progress, Health, effective_of, is_living, mutex_at, rests, thread_at, variable_at}
use Rattle.pif_model.specs.World.Progress.{Fresh, Waiting, Stuck, Leaving, Has, Checked, Enlisted, Blocked, Reacquiring, Used}
use Rattle.pif_model.specs.World.Health.{Fine, Inconsistent, Unusable}
use Rattle.pif_text_model.specs.Replies.{health_text}
use Rattle.pif_rules_model.specs.Lending.{looking_free}
use Rattle.pif_rules_model.specs.Rules.{Wide}
use Rattle.pif_history_model.specs.declared.lines.Line.TheVariants.{Begin}
use Rattle.pif_history_text.specs.Texts.{line_text}
use Rattle.pif_text.specs.Json.{bool_text, name_or_null, name_text, numbers, quoted, separated}

-- The letters of the names of threads, mutexes and condition variables.
abbrev pub thread_letter : ℕ
thread_letter = 116

abbrev pub mutex_letter : ℕ
mutex_letter = 109

abbrev pub cond_letter : ℕ
cond_letter = 99

-- How far an open call has come.
abbrev pub progress_words : Progress → List ℕ
progress_words Fresh = codes "fresh"
progress_words Waiting = codes "waiting"
progress_words Stuck = codes "waiting for good"
progress_words Leaving = codes "leaving"
progress_words (Has a) = codes "answer " ++ decimal a
progress_words Checked = codes "checked"
progress_words (Enlisted true) = codes "enlisted"
progress_words (Enlisted false) = codes "enlisted and unblocked"
progress_words (Blocked false) = codes "blocked"
progress_words (Blocked true) = codes "blocked and told"
progress_words Reacquiring = codes "reacquiring"
progress_words Used = codes "used"

-- An open call of t as members: the line with which it began, without a deadline, and how far it has come.
abbrev pub members : (t : ℕ) → Request → Progress → List ℕ
members t q p =
    codes ",\"call\":" ++ quoted (line_text (Begin t q)) ++ codes ",\"progress\":" ++ quoted (progress_words p)

-- The open call of t as members, if there is one.
abbrev pub call_members : (t : ℕ) → Option Call → List ℕ
call_members t None = []
call_members t (Some c) = members t c.request c.progress

-- A thread, by whether it lives, its effective priority, whether it rests, and the members of its open call.
abbrev pub thread_text : (t : ℕ) → (living : Bool) → (priority : ℕ) → (resting : Bool) → (call : List ℕ) → List ℕ
thread_text t living priority resting call =
    codes "{\"name\":" ++ name_text thread_letter t ++ codes ",\"living\":" ++ bool_text living
    ++ codes ",\"priority\":" ++ decimal priority ++ codes ",\"rests\":" ++ bool_text resting ++ call ++ codes "}"

-- A thread of the machine.
unfoldable pub thread_object : World → (t : ℕ) → List ℕ
thread_object w t =
    thread_text t (is_living w t) (effective_of w t) (rests w t) (call_members t (thread_at w t).call)

-- Whether two are the same.
abbrev pub same_bool : Bool → Bool → Bool
same_bool a b = if a then b else not b

-- Whether a thread is another one than before, by what its object says.
unfoldable pub is_thread_changed : World → World → (t : ℕ) → Bool
is_thread_changed w v t =
    not (bytes_eq (call_members t (thread_at w t).call) (call_members t (thread_at v t).call)
    && same_bool (is_living w t) (is_living v t) && same_bool (rests w t) (rests v t)
    && (effective_of w t == effective_of v t))

-- The owner of a mutex, if it has one.
abbrev pub owner_of : ℕ → Option ℕ
owner_of owner = if owner == 0 then None else Some owner

-- The health of a mutex, in the word that a question for it is answered.
abbrev pub health_word : Health → List ℕ
health_word Fine = health_text health.Fine
health_word Inconsistent = health_text health.Inconsistent
health_word Unusable = health_text health.Unusable

-- How often its owner holds a mutex; 0 if nobody owns it.
abbrev pub holds_of : Mutex → ℕ
holds_of x = if x.owner == 0 then 0 else x.count

-- A mutex: who owns it, how often, and its health.
unfoldable pub mutex_object : World → (m : ℕ) → List ℕ
mutex_object w m =
    codes "{\"name\":" ++ name_text mutex_letter m ++ codes ",\"owner\":"
    ++ name_or_null thread_letter (owner_of (mutex_at w m).owner) ++ codes ",\"count\":" ++ decimal (holds_of (mutex_at w m))
    ++ codes ",\"health\":" ++ quoted (health_word (mutex_at w m).health) ++ codes "}"

-- Whether a mutex was not there, or is another one than before.
unfoldable pub is_mutex_changed : World → World → (m : ℕ) → Bool
is_mutex_changed w v m =
    not (nat_lt m (length w.mutexes)
    && ((mutex_at w m).owner == (mutex_at v m).owner) && (holds_of (mutex_at w m) == holds_of (mutex_at v m))
    && bytes_eq (health_word (mutex_at w m).health) (health_word (mutex_at v m).health))

-- A condition variable, and the mutex to which it is bound.
unfoldable pub cond_object : World → (c : ℕ) → List ℕ
cond_object w c =
    codes "{\"name\":" ++ name_text cond_letter c ++ codes ",\"mutex\":" ++ name_text mutex_letter (variable_at w c).mutex
    ++ codes "}"

-- Whether a condition variable was not there before.
unfoldable pub is_cond_changed : World → World → (c : ℕ) → Bool
is_cond_changed w v c = not (nat_lt c (length w.variables))

-- The objects of those numbers from 1 to `most` of which this holds, or of all; and the same with a comma between them.
abbrev pub told : (is_whole : Bool) → (ℕ → Bool) → (ℕ → List ℕ) → (most : ℕ) → List (List ℕ)
told is_whole is_changed object most = map object (filter (λ n. is_whole || is_changed n) (numbers most))

abbrev pub objects : (is_whole : Bool) → (ℕ → Bool) → (ℕ → List ℕ) → (most : ℕ) → List ℕ
objects is_whole is_changed object most = separated (told is_whole is_changed object most)

-- What is there in v, up to these numbers, and is another than it was in w, as members; or all that is there. Of
-- threads it is told of other states, from a to b.
abbrev pub change_lists : (is_whole : Bool) → (a b w v : World) → (threads mutexes conds : ℕ) → List ℕ
change_lists is_whole a b w v threads mutexes conds =
    codes ",\"threads\":[" ++ objects is_whole (is_thread_changed a b) (thread_object b) threads
    ++ codes "],\"mutexes\":[" ++ objects is_whole (is_mutex_changed w v) (mutex_object v) mutexes
    ++ codes "],\"conds\":[" ++ objects is_whole (is_cond_changed w v) (cond_object v) conds ++ codes "]"

-- The state that is told of threads: who waits for a mutex that lends nothing adds nothing to a priority.
abbrev pub seen_of : Wide → World
seen_of s = looking_free s.prio_none s.world

-- What is there in n, and is another than it was in s; or all that is there.
unfoldable pub change_members : (is_whole : Bool) → (s n : Wide) → List ℕ
change_members is_whole s n =
    change_lists is_whole (seen_of s) (seen_of n) s.world n.world (length n.world.threads - 1) (length n.world.mutexes - 1)
    (length n.world.variables - 1)
