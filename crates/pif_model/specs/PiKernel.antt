-- The kernel by itself: what it knows of threads and owner states, its queue, the threads that are parked on condition
-- variables, its run queue, and its calls, total on any words. A refused call changes nothing; refusals are tested in
-- the order in which they stand. (futex(2), FUTEX_LOCK_PI, FUTEX_TRYLOCK_PI, FUTEX_UNLOCK_PI, FUTEX_WAIT_REQUEUE_PI and
-- FUTEX_CMP_REQUEUE_PI; PI-futex and RT-mutex design; sched(7) for the run queue.)
-- Threads, mutexes and variables are numbered from 1; place 0 of each list stands for nobody.
use Rattle.std.specs.Prelude.{ℕ, zero, suc, ◌≡◌, ◌≢◌, ◌+◌, ◌-◌, ◌≤◌, Bool, true, false, ◌==◌, nat_lt, min, List, [], ◌∷◌, ◌++◌, length, get_or, set, map, replicate, Result, Ok, Err, if◌then◌else◌, eqb}
use Rattle.std.specs.List.{filter, list_any, IsDistinct}
use Rattle.pif_types.specs.Bounds.{Bounds}
use Rattle.pif_types.specs.declared.errors.Errno.{Errno}
use Rattle.pif_types.specs.declared.errors.Errno.TheVariants.{NotPermitted, NoSuchThread, Again, Fault, Invalid, Deadlock}
use Rattle.pif_model.specs.declared.lines.Status.{Status}
use Rattle.pif_model.specs.declared.lines.Status.TheVariants.{Ready, Queued, Parked, Stopped, Ended}
use Rattle.pif_model.specs.declared.lines.Woken.{Woken}
use Rattle.pif_model.specs.declared.lines.Woken.TheVariants.{Fresh as WokenFresh, Owns as WokenOwns, Again as WokenAgain, Expired as WokenExpired}
use Rattle.pif_model.specs.declared.lines.Took.{Took}
use Rattle.pif_model.specs.declared.lines.Took.TheVariants.{Owns as TookOwns, Queued as TookQueued}
use Rattle.pif_model.specs.Graph.{is_priority, reaches_within, effective_among, next_waiter, has_waiter, without, waiting_order, IsPath}
use Rattle.pif_model.specs.Word.{Words, free_word, taken_word, mark_word, hand_word, orphan_word, inherit_word, word_at, has_word, set_word, cond_word_at, has_cond_word}

-- a thread, as the kernel knows it
pub record Seat : Type 0 where
  -- its base priority
  pub base : ℕ
  pub status : Status

-- a thread that is parked on a condition variable
pub record Parking : Type 0 where
  pub thread : ℕ
  pub cond : ℕ
  -- the mutex that it is to get once it is taken from the variable
  pub target : ℕ

-- the state of the kernel
pub record Kernel : Type 0 where
  pub limits : Bounds
  -- the threads, by number
  pub seats : List Seat
  -- the owner that the owner state of each mutex names, by number; 0 if there is no owner state. There is a place
  -- for each of the 1,024 mutexes that can be
  pub states : List ℕ
  -- pairs of a thread and the mutex on which it is queued, in order of their tickets
  pub waiters : List (ℕ × ℕ)
  -- the threads that are parked, in order of their tickets
  pub parked : List Parking
  -- the ready threads of each of the 99 levels, in order of joining; nobody stands at place 0
  pub levels : List (List ℕ)

-- what stands at place 0 of the seats
abbrev pub no_seat : Seat
no_seat = record { base = 0; status = Ready WokenFresh }

abbrev pub seat_at : Kernel → ℕ → Seat
seat_at k t = get_or k.seats t no_seat

-- whether t was added
abbrev pub has_seat : Kernel → ℕ → Bool
has_seat k t = if t == 0 then false else nat_lt t (length k.seats)

-- whether a thread of this status has ended
abbrev pub has_ended : Status → Bool
has_ended Ended = true
has_ended _ = false

-- whether t lives: it was added and has not ended
abbrev pub is_living : Kernel → ℕ → Bool
is_living k t = if has_seat k t then (if has_ended (seat_at k t).status then false else true) else false

-- the mutex on which a thread of this status is queued, 0 if it is on none
abbrev pub queued_on : Status → ℕ
queued_on (Queued m) = m
queued_on _ = 0

-- whether a thread of this status is parked on a variable
abbrev pub is_parked : Status → Bool
is_parked (Parked c) = true
is_parked _ = false

-- whether a thread of this status was woken to lock its mutex itself
abbrev pub is_woken_again : Status → Bool
is_woken_again (Ready WokenAgain) = true
is_woken_again _ = false

-- whether a thread of this status may run
abbrev pub is_ready : Status → Bool
is_ready (Ready w) = true
is_ready _ = false

-- whether a thread of this status waits for nothing, and may not run: it is queued on no mutex, parked on no variable
-- and of no level
abbrev pub is_out : Status → Bool
is_out Stopped = true
is_out Ended = true
is_out _ = false

-- the owner that the owner state of m names; 0 if there is no owner state
abbrev pub state_at : Kernel → ℕ → ℕ
state_at k m = get_or k.states m 0

-- the thread for which u waits: the owner in the state of the mutex on which u is queued; 0 for none
abbrev pub waits_for : Kernel → ℕ → ℕ
waits_for k u = state_at k (queued_on (seat_at k u).status)

-- the effective priority of t: the greatest base priority of t and of all that wait for it through any chain
abbrev pub effective_in : Kernel → ℕ → ℕ
effective_in k t = effective_among (length k.seats) (waits_for k) (λ u. (seat_at k u).base) t

-- these are the threads from t on along whom each waits for, in order, up to the one that waits for nobody; none if
-- t doesn't live
abbrev pub IsPathIn : Kernel → ℕ → List ℕ → Type 0
IsPathIn k t us = IsPath (waits_for k) (if is_living k t then t else 0) us

-- the next waiter of m, 0 if there is none
abbrev pub next_in : Kernel → ℕ → ℕ
next_in k m = next_waiter (effective_in k) k.waiters m

-- pairs of a parked thread and the variable on which it is parked, in order of their tickets
abbrev pub parked_pairs : List Parking → List (ℕ × ℕ)
parked_pairs ps = map (λ (p : Parking). (p.thread, p.cond)) ps

-- the parked threads but u
abbrev pub parkings_without : List Parking → ℕ → List Parking
parkings_without ps u = filter (λ (p : Parking). if p.thread == u then false else true) ps

-- whether a thread is parked on c
abbrev pub has_parked : Kernel → ℕ → Bool
has_parked k c = has_waiter (parked_pairs k.parked) c

-- the thread that is taken next from c: the first in order of tickets among those of greatest effective priority that
-- are parked on it; 0 if none is
abbrev pub top_parked : Kernel → ℕ → ℕ
top_parked k c = next_waiter (effective_in k) (parked_pairs k.parked) c

-- the waiters of m in the order in which they get it
abbrev pub waiters_in : Kernel → ℕ → List ℕ
waiters_in k m = waiting_order (effective_in k) k.waiters m

-- the threads that are parked on c, in the order in which they are taken
abbrev pub parked_in : Kernel → ℕ → List ℕ
parked_in k c = waiting_order (effective_in k) (parked_pairs k.parked) c

-- t as x
abbrev pub with_seat : ℕ → Seat → Kernel → Kernel
with_seat t x k = record k { seats = set k.seats t x }

-- t with this status
abbrev pub with_status : ℕ → Status → Kernel → Kernel
with_status t x k = with_seat t (record (seat_at k t) { status = x }) k

-- the owner state of m names n; 0 for no owner state
abbrev pub with_state : ℕ → ℕ → Kernel → Kernel
with_state m n k = record k { states = set k.states m n }

-- THE RUN QUEUE

-- whether t is among these
abbrev pub is_among : List ℕ → ℕ → Bool
is_among ts t = list_any (λ u. u == t) ts

-- the numbers from 1 to n
unfoldable pub numbers : ℕ → List ℕ
numbers zero = []
numbers (suc n) = numbers n ++ suc n ∷ []

-- the levels 1 to 99, each as `level` has it
unfoldable pub levels_by : (ℕ → List ℕ) → List (List ℕ)
levels_by level = [] ∷ map level (numbers 99)

-- the threads of level p, in order of joining
abbrev pub level_at : List (List ℕ) → ℕ → List ℕ
level_at levels p = get_or levels p []

-- t has joined the end of level p
abbrev pub levels_with : ℕ → ℕ → List (List ℕ) → List (List ℕ)
levels_with t p levels = set levels p (level_at levels p ++ t ∷ [])

-- t has left its level
abbrev pub levels_without : ℕ → List (List ℕ) → List (List ℕ)
levels_without t levels = map (filter (λ u. if u == t then false else true)) levels

-- whether u moves to level p: it stands on another level, and p is its level now
abbrev pub moves_to : (ℕ → ℕ) → List (List ℕ) → ℕ → ℕ → Bool
moves_to effective levels p u =
    if effective u == p
    then (if is_among (level_at levels p) u then false else list_any (λ q. is_among (level_at levels q) u) (numbers 99))
    else false

-- the levels once each of n threads stands at the level of its effective priority: who keeps its level keeps its place,
-- and who changes it joins the end of the new one; several that do so join in order of their numbers
abbrev pub effective_levels : ℕ → (ℕ → ℕ) → List (List ℕ) → List (List ℕ)
effective_levels n effective levels =
    levels_by (λ p. filter (λ u. effective u == p) (level_at levels p) ++ filter (moves_to effective levels p) (numbers n))

-- each ready thread at the level of its effective priority now
abbrev pub with_effective_levels : Kernel → Kernel
with_effective_levels k = record k { levels = effective_levels (length k.seats - 1) (effective_in k) k.levels }

-- the first of the greatest of the levels up to p that has a thread; 0 if none has
unfoldable pub first_from : List (List ℕ) → ℕ → ℕ
first_from levels zero = 0
first_from levels (suc p) = elim (level_at levels (suc p)) [ [] ↦ first_from levels p | (t ∷ ts) ↦ t ]

-- the thread that runs next: the first that joined the greatest level; 0 if none is ready
abbrev pub pick_in : Kernel → ℕ
pick_in k = first_from k.levels 99

-- the threads of the levels below n, those of the greatest first, and of each level in order of joining
unfoldable pub levels_below : List (List ℕ) → ℕ → List ℕ
levels_below levels zero = []
levels_below levels (suc p) = level_at levels p ++ levels_below levels p

-- the ready threads in the order in which they run, as long as none comes or goes (sched(7), SCHED_FIFO)
abbrev pub ready_in : Kernel → List ℕ
ready_in k = levels_below k.levels 100

-- no owner state, for each of the 1,024 mutexes that can be
unfoldable pub no_states : List ℕ
no_states = replicate 1025 0

-- a kernel under these limits to which nothing was added
abbrev pub new_kernel : Bounds → Kernel
new_kernel l =
    record {
      limits = l;
      seats = no_seat ∷ [];
      states = no_states;
      waiters = [];
      parked = [];
      levels = levels_by (λ p. []);
    }

-- THE CALLS

-- a new thread of base priority p: ready, at the end of its level
abbrev pub kernel_after_add : ℕ → Kernel → Kernel
kernel_after_add p k = record k {
  seats = k.seats ++ record { base = p; status = Ready WokenFresh } ∷ [];
  levels = levels_with (length k.seats) p k.levels;
}

-- what lock_pi answers to t if the word has the number n of an owner, and the owner state that of s, 0 for none
abbrev pub wait_answer : ℕ → ℕ → ℕ → Kernel → Result Took Errno
wait_answer t n s k =
    if is_living k n then
    (if (if s == 0 then true else s == n) then
    (if reaches_within (length k.seats) (waits_for k) n t then Err Deadlock else Ok TookQueued)
    else Err Invalid)
    else Err NoSuchThread

-- what lock_pi answers to t on m
unfoldable pub lock_answer : ℕ → ℕ → Words → Kernel → Result Took Errno
lock_answer t m ws k =
    let n = (word_at ws m).number in
    if has_word ws m then
    (if n == t then Err Deadlock else
    (if n == 0 then (if state_at k m == 0 then Ok TookOwns else Err Invalid) else wait_answer t n (state_at k m) k))
    else Err Fault

-- the words after lock_pi, by its answer: the number, and what there was of OWNER_DIED; or WAITERS besides
unfoldable pub words_after_lock : ℕ → ℕ → Result Took Errno → Words → Words
words_after_lock t m (Ok TookOwns) ws = set_word ws m (taken_word t (word_at ws m))
words_after_lock t m (Ok TookQueued) ws = set_word ws m (mark_word (word_at ws m))
words_after_lock t m (Err e) ws = ws

-- t is queued on m, whose owner is n: there is an owner state of n, and n and its chain are boosted
unfoldable pub kernel_after_queueing : ℕ → ℕ → ℕ → Kernel → Kernel
kernel_after_queueing t m n k = with_effective_levels (record (with_status t (Queued m) (with_state m n k)) {
  waiters = k.waiters ++ (t, m) ∷ [];
  levels = levels_without t k.levels;
})

-- the kernel after lock_pi, by its answer
unfoldable pub kernel_after_lock : ℕ → ℕ → Result Took Errno → Words → Kernel → Kernel
kernel_after_lock t m (Ok TookOwns) ws k = k
kernel_after_lock t m (Ok TookQueued) ws k = kernel_after_queueing t m (word_at ws m).number k
kernel_after_lock t m (Err e) ws k = k

-- what trylock_pi answers to t on m
unfoldable pub try_lock_answer : ℕ → ℕ → Words → Kernel → Result (record {}) Errno
try_lock_answer t m ws k =
    let n = (word_at ws m).number in
    if has_word ws m then
    (if n == t then Err Deadlock else
    (if n == 0 then (if state_at k m == 0 then Ok (record {}) else Err Invalid) else Err Again))
    else Err Fault

-- the words after trylock_pi, by its answer: the number, and what there was of OWNER_DIED
unfoldable pub words_after_try_lock : ℕ → ℕ → Result (record {}) Errno → Words → Words
words_after_try_lock t m (Ok x) ws = set_word ws m (taken_word t (word_at ws m))
words_after_try_lock t m (Err e) ws = ws

-- what unlock_pi answers to t on m
unfoldable pub unlock_answer : ℕ → ℕ → Words → Kernel → Result (record {}) Errno
unlock_answer t m ws k =
    if has_word ws m then
    (if (word_at ws m).number == t then
    (if (if state_at k m == 0 then true else state_at k m == t) then Ok (record {}) else Err Invalid)
    else Err NotPermitted)
    else Err Fault

-- the words after unlock_pi, by its answer: free, or the next waiter's number with WAITERS
unfoldable pub words_after_unlock : ℕ → Result (record {}) Errno → Kernel → Words → Words
words_after_unlock m (Ok x) k ws = set_word ws m (if state_at k m == 0 then free_word else hand_word (next_in k m))
words_after_unlock m (Err e) k ws = ws

-- m is handed to u, its next waiter: u is ready and joins its level, what the other waiters boost is u, and then who
-- was boosted moves
unfoldable pub kernel_after_hand_over : ℕ → ℕ → Kernel → Kernel
kernel_after_hand_over u m k =
    let rest = without k.waiters u in
    let after = record (with_status u (Ready WokenOwns) (with_state m (if has_waiter rest m then u else 0) k)) { waiters = rest } in
    with_effective_levels (record after { levels = levels_with u (effective_in after u) k.levels })

-- the kernel after unlock_pi, by its answer
unfoldable pub kernel_after_unlock : ℕ → Result (record {}) Errno → Kernel → Kernel
kernel_after_unlock m (Ok x) k = if state_at k m == 0 then k else kernel_after_hand_over (next_in k m) m k
kernel_after_unlock m (Err e) k = k

-- what set_prio answers for t and p: a priority is 1 to 99
unfoldable pub set_prio_answer : ℕ → ℕ → Kernel → Result (record {}) Errno
set_prio_answer t p k =
    if is_priority p then (if is_living k t then Ok (record {}) else Err NoSuchThread) else Err Invalid

-- the kernel after set_prio, by its answer: the base priority is p, and t and its chain get their effective priorities;
-- tickets, and so places among equals, stay
unfoldable pub kernel_after_set_prio : ℕ → ℕ → Result (record {}) Errno → Kernel → Kernel
kernel_after_set_prio t p (Ok x) k = with_effective_levels (with_seat t (record (seat_at k t) { base = p }) k)
kernel_after_set_prio t p (Err e) k = k

-- the kernel after stop: t is stopped for good
unfoldable pub kernel_after_stop : ℕ → Kernel → Kernel
kernel_after_stop t k = record (with_status t Stopped k) { levels = levels_without t k.levels }

-- the words and the kernel
pub record System : Type 0 where
  pub words : Words
  pub kernel : Kernel

-- CONDITION VARIABLES

-- what wait_requeue_pi answers on c and m, if the caller expects this condition word
unfoldable pub wait_requeue_answer : ℕ → ℕ → ℕ → Words → Result (record {}) Errno
wait_requeue_answer c expected m ws =
    if (if has_cond_word ws c then has_word ws m else false) then
    (if cond_word_at ws c == expected then Ok (record {}) else Err Again)
    else Err Fault

-- t is parked on c with the target m: it has the last ticket, and has left its level
unfoldable pub kernel_after_parking : ℕ → ℕ → ℕ → Kernel → Kernel
kernel_after_parking t c m k = record (with_status t (Parked c) k) {
  parked = k.parked ++ record { thread = t; cond = c; target = m } ∷ [];
  levels = levels_without t k.levels;
}

-- the kernel after wait_requeue_pi, by its answer
unfoldable pub kernel_after_wait_requeue : ℕ → ℕ → ℕ → Result (record {}) Errno → Kernel → Kernel
kernel_after_wait_requeue t c m (Ok x) k = kernel_after_parking t c m k
kernel_after_wait_requeue t c m (Err e) k = k

-- u has left the variable on which it was parked
abbrev pub without_parking : ℕ → Kernel → Kernel
without_parking u k = record k { parked = parkings_without k.parked u }

-- u is woken from the variable on which it was parked: it is ready, and joins its level
unfoldable pub kernel_after_waking : ℕ → Woken → Kernel → Kernel
kernel_after_waking u w k = record (with_status u (Ready w) (without_parking u k)) {
  levels = levels_with u (effective_in k u) k.levels;
}

-- whether u may queue behind n: n lives, and no chain leads from n to u, which is not n itself
abbrev pub may_queue : ℕ → ℕ → Kernel → Bool
may_queue u n k =
    if is_living k n then (if reaches_within (length k.seats) (waits_for k) n u then false else true) else false

-- u is taken from its variable, for m, by the word as it is now. A word without a number: u owns m. The number of a
-- living thread, for which u can wait without a cycle: u is queued on m, with a new ticket. Else u is woken to lock m
-- itself. All is settled then
unfoldable pub after_taking : ℕ → ℕ → System → System
after_taking u m x =
    let w = word_at x.words m in
    if w.number == 0
    then record {
      words = set_word x.words m (taken_word u w);
      kernel = kernel_after_waking u WokenOwns x.kernel;
    }
    else (if may_queue u w.number x.kernel
    then record {
      words = set_word x.words m (mark_word w);
      kernel = kernel_after_queueing u m w.number (without_parking u x.kernel);
    }
    else record x { kernel = kernel_after_waking u WokenAgain x.kernel })

-- at most n of the threads that are parked on c are taken for m, one after another, each time the next one then
unfoldable pub after_takings : ℕ → ℕ → ℕ → System → System
after_takings zero c m x = x
after_takings (suc n) c m x =
    elim (has_parked x.kernel c) [ true ↦ after_takings n c m (after_taking (top_parked x.kernel c) m x) | false ↦ x ]

-- whether a thread that is parked on c has another target than m
abbrev pub has_other_target : Kernel → ℕ → ℕ → Bool
has_other_target k c m =
    list_any (λ (p : Parking). if p.cond == c then (if p.target == m then false else true) else false) k.parked

-- how many threads are parked on c
abbrev pub parked_count : Kernel → ℕ → ℕ
parked_count k c = length (filter (λ (p : Parking). p.cond == c) k.parked)

-- whether the number n of a word and the owner state, that of s (0: none), fit together: a word without a number has no
-- owner state, and one with the number of a living thread has none of another owner
abbrev pub fits_state : ℕ → ℕ → Kernel → Bool
fits_state n s k = if s == 0 then true else (if n == 0 then false else (if is_living k n then s == n else true))

-- what cmp_requeue_pi answers on c and m, if `val` threads, which is to be 1, and this many `more` may be taken, and
-- the caller expects this condition word: how many are taken
unfoldable pub requeue_answer : ℕ → ℕ → ℕ → ℕ → ℕ → Words → Kernel → Result ℕ Errno
requeue_answer c m val more expected ws k =
    if (if has_cond_word ws c then has_word ws m else false) then
    (if val == 1 then
    (if cond_word_at ws c == expected then
    (if has_other_target k c m then Err Invalid else
    (if has_parked k c then
    (if fits_state (word_at ws m).number (state_at k m) k
    then Ok (min (parked_count k c) (more + 1)) else Err Invalid)
    else Ok 0))
    else Err Again)
    else Err Invalid)
    else Err Fault

-- words and kernel after cmp_requeue_pi, by its answer
unfoldable pub after_requeue : ℕ → ℕ → ℕ → Result ℕ Errno → Words → Kernel → System
after_requeue c m more (Ok n) ws k = after_takings (suc more) c m (record { words = ws; kernel = k })
after_requeue c m more (Err e) ws k = record { words = ws; kernel = k }

-- LEAVING WHAT A THREAD WAITS FOR

-- t has this status, by which it waits for nothing: it has left the mutex on which it was queued, whose owner state
-- goes if nobody else waits, or the variable on which it was parked, and its level, and the chain above has its
-- priorities. Of the owner states that it still owns nothing is changed
unfoldable pub kernel_left_as : Status → ℕ → Kernel → Kernel
kernel_left_as x t k =
    let m = queued_on (seat_at k t).status in
    let rest = without k.waiters t in
    with_effective_levels (record (with_status t x (with_state m (if has_waiter rest m then state_at k m else 0) k)) {
      waiters = rest;
      parked = parkings_without k.parked t;
      levels = levels_without t k.levels;
    })

-- the kernel after expire of t, which is queued, parked or stopped: it has left that, and the chain above has its
-- priorities; then it is ready, and joins its level. WAITERS stays in the word of the mutex that it left, as all words
-- do (futex(2), FUTEX_LOCK_PI and FUTEX_WAIT_REQUEUE_PI with a timeout, ETIMEDOUT)
unfoldable pub kernel_after_expire : ℕ → Kernel → Kernel
kernel_after_expire t k =
    let left = kernel_left_as Stopped t k in
    record (with_status t (Ready WokenExpired) left) { levels = levels_with t (effective_in left t) left.levels }

-- THE END OF A THREAD

-- t has ended, and left what it waited for
abbrev pub kernel_after_leaving : ℕ → Kernel → Kernel
kernel_after_leaving t k = kernel_left_as Ended t k

-- m passes on if its word has the number of t, which has ended: with no owner state it has no owner; with one of t
-- it is handed to its next waiter; with one of another owner nothing changes. OWNER_DIED is set
unfoldable pub after_death : ℕ → ℕ → System → System
after_death t m x =
    if (if has_word x.words m then (word_at x.words m).number == t else false) then
    (if state_at x.kernel m == 0 then record x { words = set_word x.words m (orphan_word (word_at x.words m)) } else
    (if state_at x.kernel m == t then record {
      words = set_word x.words m (inherit_word (next_in x.kernel m));
      kernel = kernel_after_hand_over (next_in x.kernel m) m x.kernel;
    } else x))
    else x

-- and so does each of these mutexes, in this order
unfoldable pub after_deaths : ℕ → List ℕ → System → System
after_deaths t [] x = x
after_deaths t (m ∷ ms) x = after_deaths t ms (after_death t m x)

-- words and kernel after exit of t, if its robust list and its pending field name these mutexes
abbrev pub after_exit : ℕ → List ℕ → Words → Kernel → System
after_exit t ms ws k = after_deaths t ms (record { words = ws; kernel = kernel_after_leaving t k })

-- WHAT A KERNEL KEEPS

-- the lists of a kernel: nobody stands at place 0, threads are within the limits and have a priority, and there is a
-- place for each mutex that can be and for each level
pub record IsKernelShaped (k : Kernel) : Type 0 where
  pub some : 1 ≤ length k.seats
  pub few : length k.seats ≤ k.limits.threads + 1
  pub nobody : seat_at k 0 ≡ no_seat
  pub priorities : (t : ℕ) → has_seat k t ≡ true → is_priority (seat_at k t).base ≡ true
  pub states : length k.states ≡ 1025
  pub no_mutex : state_at k 0 ≡ 0
  pub levels : length k.levels ≡ 100

-- a thread is parked on a variable exactly where its status says, and once
pub record ParksAsTold (k : Kernel) : Type 0 where
  pub status : (u c : ℕ) → list_any (λ (w : ℕ × ℕ). if w.0 == u then w.1 == c else false) (parked_pairs k.parked) ≡ true
      → (seat_at k u).status ≡ Parked c
  pub parked : (u c : ℕ) → (seat_at k u).status ≡ Parked c
      → list_any (λ (w : ℕ × ℕ). if w.0 == u then w.1 == c else false) (parked_pairs k.parked) ≡ true
  pub once : IsDistinct eqb (map (λ (w : ℕ × ℕ). w.0) (parked_pairs k.parked))

-- each thread stands in at most one waiting list, an owner state exists exactly while threads are queued on its mutex,
-- nobody waits for itself, and the ready threads stand at the levels of their effective priorities; nobody stands in
-- the queue twice, nor among the parked, nor in the run queue
pub record IsKernel (k : Kernel) : Type 0 where
  pub shape : IsKernelShaped k
  -- a thread is queued where its status says
  pub queue : (u m : ℕ) → list_any (λ (w : ℕ × ℕ). if w.0 == u then w.1 == m else false) k.waiters ≡ true → (seat_at k u).status ≡ Queued m
  pub queued : (u m : ℕ) → (seat_at k u).status ≡ Queued m → list_any (λ (w : ℕ × ℕ). if w.0 == u then w.1 == m else false) k.waiters ≡ true
  pub once : IsDistinct eqb (map (λ (w : ℕ × ℕ). w.0) k.waiters)
  pub parking : ParksAsTold k
  -- there is an owner state exactly while threads are queued, of a thread that was added
  pub states : (m : ℕ) → (state_at k m == 0) ≡ (if has_waiter k.waiters m then false else true)
  pub owners : (m : ℕ) → state_at k m ≢ 0 → has_seat k (state_at k m) ≡ true
  -- no chain closes
  pub acyclic : (u : ℕ) → waits_for k u ≢ 0 → reaches_within (length k.seats) (waits_for k) (waits_for k u) u ≡ false
  -- a thread is on a level exactly if it may run and the level is its effective priority
  pub level : (t p : ℕ) → is_among (level_at k.levels p) t ≡ (if has_seat k t then (if is_ready (seat_at k t).status then effective_in k t == p else false) else false)
  pub level_once : (p : ℕ) → IsDistinct eqb (level_at k.levels p)
