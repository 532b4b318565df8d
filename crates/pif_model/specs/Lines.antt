-- The calls of the library, one step per Go, and the events of the table machine.
use Rattle.std.specs.Prelude.{ℕ, zero, suc, ◌≡◌, ◌⊎◌, ◌+◌, ◌-◌, Bool, true, false, ◌==◌, nat_lt, List, [], ◌∷◌, get_or, set, Result, Ok, Err, Option, Some, None, if◌then◌else◌}
use Rattle.pif_types.specs.Numbers.{number_of}
use Rattle.pif_types.specs.declared.errors.Errno.{Errno}
use Rattle.pif_types.specs.declared.errors.Errno.TheVariants.{NoSuchThread, Again, Deadlock}
use Rattle.pif_types.specs.declared.errors.Refusal.{Refusal}
use Rattle.pif_types.specs.declared.requests.Kind.TheVariants.{Normal}
use Rattle.pif_model.specs.declared.lines.Relock.TheVariants.{Deadlocks, Answers, Counts}
use Rattle.pif_model.specs.Kinds.{relock_of}
use Rattle.pif_types.specs.declared.requests.Request.{Request}
use Rattle.pif_types.specs.declared.requests.Request.TheVariants.{Lock, TryLock, Unlock, Consistent, Wait, Signal, Broadcast, SetPrio}
use Rattle.pif_model.specs.NamedNumbers.{EPERM, EAGAIN, EBUSY, EINVAL, EDEADLK, EOVERFLOW, ETIMEDOUT, EOWNERDEAD, ENOTRECOVERABLE, most_holds}
use Rattle.pif_model.specs.declared.events.Event.{Event}
use Rattle.pif_model.specs.declared.events.Event.TheVariants.{Begin, Go, End, Tick}
use Rattle.pif_model.specs.declared.events.Seen.{Seen}
use Rattle.pif_model.specs.declared.events.Seen.TheVariants.{Begun, Went, Waits, Answered, Ended, Ticked, Refused}
use Rattle.pif_model.specs.declared.lines.Line.{Line}
use Rattle.pif_model.specs.declared.lines.Line.TheVariants.{Idle, At}
use Rattle.pif_model.specs.declared.lines.Place.{Place}
use Rattle.pif_model.specs.declared.lines.Place.TheVariants.{Load, NamePending, Exchange, CallKernel, StayQueued, Stop, StayStopped, Take, Link, Give, Clear, LoadUses, Park, StayParked, Repair, Wake, SetPriority}
use Rattle.pif_model.specs.declared.lines.TakeStep.{TakeStep}
use Rattle.pif_model.specs.declared.lines.TakeStep.TheVariants.{LoadWord, LoadHealth, StoreInconsistent, ClearDied}
use Rattle.pif_model.specs.declared.lines.LinkStep.{LinkStep}
use Rattle.pif_model.specs.declared.lines.LinkStep.TheVariants.{WriteNext, WriteHead}
use Rattle.pif_model.specs.declared.lines.GiveStep.{GiveStep}
use Rattle.pif_model.specs.declared.lines.GiveStep.TheVariants.{SetPending, SeeHealth, StoreUnusable, Unlink, Release, CallUnlock}
use Rattle.pif_model.specs.declared.lines.Purpose.{Purpose}
use Rattle.pif_model.specs.declared.lines.Purpose.TheVariants.{ToUnlock, ToPark, ToLeave}
use Rattle.pif_model.specs.declared.lines.Footing.TheVariants.{Linked, Unowned, HadStopped}
use Rattle.pif_model.specs.declared.lines.RepairStep.{RepairStep}
use Rattle.pif_model.specs.declared.lines.RepairStep.TheVariants.{CheckHealth, StoreFine}
use Rattle.pif_model.specs.declared.lines.WakeStep.{WakeStep}
use Rattle.pif_model.specs.declared.lines.WakeStep.TheVariants.{ReadUses, CountUse, Requeue, ReadAgain}
use Rattle.pif_model.specs.declared.lines.Took.{Took}
use Rattle.pif_model.specs.declared.lines.Took.TheVariants.{Owns as TookOwns, Queued as TookQueued}
use Rattle.pif_model.specs.declared.lines.Status.{Status}
use Rattle.pif_model.specs.Posix.{names_known}
use Rattle.pif_model.specs.Refusals.{begin_refused, go_refused, end_refused, tick_refused}
use Rattle.pif_model.specs.Deadlines.{plain, timer_of, ran_out, is_reached, reported_seen}
use Rattle.pif_model.specs.Word.{Word, Words, word_at, take_word, release_word}
use Rattle.pif_model.specs.PiKernel.{is_ready, is_parked, is_woken_again, is_living, lock_answer, words_after_lock, kernel_after_lock, try_lock_answer, words_after_try_lock, unlock_answer, words_after_unlock, kernel_after_unlock, set_prio_answer, kernel_after_set_prio, kernel_after_stop, wait_requeue_answer, kernel_after_wait_requeue, requeue_answer, after_requeue, after_exit, kernel_after_expire}
use Rattle.pif_model.specs.RobustList.{robust_at, walk_of, with_pending, without_pending, with_half_linked, with_listed, without_listed, without_robust}
use Rattle.pif_model.specs.Table.{Table, LibraryMutex, new_mutex, status_at, line_at, timer_at, cell_at, has_thread, has_mutex, has_cond, bound_to, uses_of, with_line, with_timer, with_count, with_word, with_health_word, with_cond_word, with_lists, with_kernel}

-- what a step is answered, and the state after it
pub record Outcome : Type 0 where
  pub seen : Seen
  pub after : Table

-- the call goes on at this place
abbrev pub goes_to : ℕ → Request → Place → Table → Outcome
goes_to t q p s = record { seen = Went; after = with_line t (At q p) s }

-- the thread waits at this place
abbrev pub waits_at : ℕ → Request → Place → Table → Outcome
waits_at t q p s = record { seen = Waits; after = with_line t (At q p) s }

-- the call is closed with this answer
abbrev pub answers : ℕ → ℕ → Table → Outcome
answers t a s = record { seen = Answered a; after = with_line t Idle s }

-- whether m is robust
abbrev pub is_robust : ℕ → Table → Bool
is_robust m s = (cell_at s m).robust

-- m is named in the pending field of t; no mutex is
abbrev pub with_pending_field : ℕ → ℕ → Table → Table
with_pending_field t m s = with_lists (with_pending t m s.lists) s

abbrev pub nothing_pending : ℕ → Table → Table
nothing_pending t s = with_lists (without_pending t s.lists) s

-- the call goes on at this place for a robust mutex, and at that place for a stalled one
abbrev pub goes_by : ℕ → Request → ℕ → Place → Place → Table → Outcome
goes_by t q m robust stalled s = if is_robust m s then goes_to t q robust s else goes_to t q stalled s

-- the call goes on at this place for a robust mutex, and answers for a stalled one
abbrev pub ends_by : ℕ → Request → ℕ → Place → ℕ → Table → Outcome
ends_by t q m robust a s = if is_robust m s then goes_to t q robust s else answers t a s

-- lock and trylock: the owner of a RECURSIVE mutex holds it once more, or if it holds it 255 times is answered EAGAIN
unfoldable pub relocks : ℕ → ℕ → Table → Outcome
relocks t m s =
    if nat_lt (cell_at s m).count most_holds
    then answers t 0 (with_count m ((cell_at s m).count + 1) s)
    else answers t EAGAIN s

-- by the word that an exchange has written, if it has
unfoldable pub after_exchange : Option Word → ℕ → (Table → Outcome) → (Table → Outcome) → Table → Outcome
after_exchange (Some w) m done failed s = done (with_word m w s)
after_exchange None m done failed s = failed s

-- lock and trylock: compare-exchange from 0 to t. Done, a stalled mutex is taken, and of a robust one the health is
-- next; if it fails, its kernel call is next
unfoldable pub own_exchange : Request → ℕ → ℕ → Table → Outcome
own_exchange q t m s =
    after_exchange (take_word (cell_at s m).word t) m (ends_by t q m (Take (LoadHealth false)) 0) (goes_to t q CallKernel) s

-- a request that locks: load the word. By the mutex's kind its owner goes on to stop, is answered EDEADLK, or holds it
-- once more
unfoldable pub lock_load : Request → ℕ → ℕ → Table → Outcome
lock_load q t m s =
    if (cell_at s m).word.number == t
    then elim (relock_of (cell_at s m).kind)
    [ Deadlocks ↦ goes_to t q Stop s | Answers ↦ answers t EDEADLK s | Counts ↦ relocks t m s ]
    else goes_by t q m NamePending Exchange s

-- a request that locks, by what its kernel call answered. ESRCH: the owner has ended, and the thread goes on to stop
unfoldable pub lock_by : Result Took Errno → Request → ℕ → ℕ → Table → Outcome
lock_by (Ok TookOwns) q t m s = ends_by t q m (Take LoadWord) 0 s
lock_by (Ok TookQueued) q t m s = waits_at t q StayQueued s
lock_by (Err Deadlock) q t m s = ends_by t q m (Clear Unowned EDEADLK) EDEADLK s
lock_by (Err NoSuchThread) q t m s = goes_to t q Stop s
lock_by (Err e) q t m s = answers t (number_of e) s

-- a request that locks: the kernel call lock_pi
unfoldable pub lock_kernel : Request → ℕ → ℕ → Table → Outcome
lock_kernel q t m s =
    let r = lock_answer t m s.words s.kernel in
    lock_by r q t m (with_kernel (words_after_lock t m r s.words) (kernel_after_lock t m r s.words s.kernel) s)

-- taking over: load the word
unfoldable pub take_load : Request → ℕ → ℕ → Table → Outcome
take_load q t m s = goes_to t q (Take (LoadHealth (cell_at s m).word.died)) s

-- a request that locks: queued; or made the owner, which is answered with no access for a stalled mutex, and is the
-- load of taking over for a robust one
unfoldable pub lock_queued : Request → ℕ → ℕ → Table → Outcome
lock_queued q t m s =
    if is_ready (status_at s t)
    then (if is_robust m s then take_load q t m s else answers t 0 s)
    else record { seen = Waits; after = s }

-- a request that locks: stop for good
unfoldable pub lock_stop : Request → ℕ → Table → Outcome
lock_stop q t s = waits_at t q StayStopped (with_kernel s.words (kernel_after_stop t s.kernel) s)

-- taking over: load the health word. An unusable mutex is left again; one whose last owner was seen to have ended is
-- inconsistent
unfoldable pub take_health : Request → Bool → ℕ → ℕ → Table → Outcome
take_health q died t m s =
    if (cell_at s m).health == 2 then goes_to t q (Give Release ToLeave) s else
    (if died then goes_to t q (Take StoreInconsistent) s else goes_to t q (Link WriteNext 0) s)

-- taking over: the mutex is inconsistent, by its health word and then without OWNER_DIED
unfoldable pub take_line : Request → TakeStep → ℕ → ℕ → Table → Outcome
take_line q LoadWord t m s = take_load q t m s
take_line q (LoadHealth died) t m s = take_health q died t m s
take_line q StoreInconsistent t m s = goes_to t q (Take ClearDied) (with_health_word m 1 s)
take_line q ClearDied t m s =
    goes_to t q (Link WriteNext EOWNERDEAD) (with_word m (record (cell_at s m).word { died = false }) s)

-- the mutex becomes the head of the caller's list in two writes, and the pending field is cleared next
unfoldable pub link_line : Request → LinkStep → ℕ → ℕ → ℕ → Table → Outcome
link_line q WriteNext a t m s = goes_to t q (Link WriteHead a) (with_lists (with_half_linked t m s.lists) s)
link_line q WriteHead a t m s = goes_to t q (Clear Linked a) (with_lists (with_listed t m s.lists) s)

-- the pending field is cleared, and the call answered
unfoldable pub clears : ℕ → ℕ → Table → Outcome
clears a t s = answers t a (nothing_pending t s)

-- GIVING A MUTEX UP

-- a mutex was given up: an unlock is answered 0, a wait parks, and who left an unusable mutex is answered
-- ENOTRECOVERABLE. Of a robust one the pending field is cleared first
abbrev pub given_up : Request → Purpose → ℕ → ℕ → Table → Outcome
given_up q ToUnlock t m s = ends_by t q m (Clear Unowned 0) 0 s
given_up q (ToPark v) t m s = goes_to t q (Park v) s
given_up q ToLeave t m s = goes_to t q (Clear Unowned ENOTRECOVERABLE) s

-- load the health word. An inconsistent mutex becomes unusable
unfoldable pub give_health : Request → Purpose → ℕ → ℕ → Table → Outcome
give_health q x t m s =
    if (cell_at s m).health == 1 then goes_to t q (Give StoreUnusable x) s else goes_to t q (Give Unlink x) s

-- compare-exchange from t to 0
unfoldable pub give_exchange : Request → Purpose → ℕ → ℕ → Table → Outcome
give_exchange q x t m s =
    after_exchange (release_word (cell_at s m).word t) m (given_up q x t m) (goes_to t q (Give CallUnlock x)) s

-- a kernel call that gave a mutex up leads to this outcome; an error is answered
unfoldable pub given_up_by : Result (record {}) Errno → ℕ → (Table → Outcome) → Table → Outcome
given_up_by (Ok x) t done s = done s
given_up_by (Err e) t done s = answers t (number_of e) s

-- the kernel call unlock_pi
unfoldable pub gives_up : ℕ → ℕ → (Table → Outcome) → Table → Outcome
gives_up t m done s =
    let r = unlock_answer t m s.words s.kernel in
    given_up_by r t done (with_kernel (words_after_unlock m r s.kernel s.words) (kernel_after_unlock m r s.kernel) s)

-- one step of giving a mutex up
unfoldable pub give_line : Request → GiveStep → Purpose → ℕ → ℕ → Table → Outcome
give_line q SetPending x t m s = goes_to t q (Give SeeHealth x) (with_pending_field t m s)
give_line q SeeHealth x t m s = give_health q x t m s
give_line q StoreUnusable x t m s = goes_to t q (Give Unlink x) (with_health_word m 2 s)
give_line q Unlink x t m s = goes_to t q (Give Release x) (with_lists (without_listed t m s.lists) s)
give_line q Release x t m s = give_exchange q x t m s
give_line q CallUnlock x t m s = gives_up t m (given_up q x t m) s

-- TRYLOCK, UNLOCK AND CONSISTENT

-- trylock: load the word. The owner holds the mutex once more, if a lock by it counts, and else is answered EBUSY
unfoldable pub try_load : ℕ → ℕ → Table → Outcome
try_load t m s =
    if (cell_at s m).word.number == t
    then elim (relock_of (cell_at s m).kind) [ Counts ↦ relocks t m s | _ ↦ answers t EBUSY s ]
    else goes_by t (TryLock m) m NamePending Exchange s

-- trylock, by what its kernel call answered: EAGAIN, that the mutex is held, becomes EBUSY
unfoldable pub try_by : Result (record {}) Errno → ℕ → ℕ → Table → Outcome
try_by (Ok x) t m s = ends_by t (TryLock m) m (Take LoadWord) 0 s
try_by (Err Again) t m s = ends_by t (TryLock m) m (Clear Unowned EBUSY) EBUSY s
try_by (Err e) t m s = answers t (number_of e) s

-- trylock: the kernel call trylock_pi
unfoldable pub try_kernel : ℕ → ℕ → Table → Outcome
try_kernel t m s =
    let r = try_lock_answer t m s.words s.kernel in
    try_by r t m (with_kernel (words_after_try_lock t m r s.words) s.kernel s)

-- unlock: load the word. Who isn't the owner is answered EPERM; an owner who holds it more than once holds it once less
unfoldable pub unlock_load : ℕ → ℕ → Table → Outcome
unlock_load t m s =
    if (cell_at s m).word.number == t
    then (if nat_lt 1 (cell_at s m).count then answers t 0 (with_count m ((cell_at s m).count - 1) s) else
    goes_by t (Unlock m) m (Give SetPending ToUnlock) (Give Release ToUnlock) s)
    else answers t EPERM s

-- consistent: a stalled mutex is answered EINVAL with no access. Else load the word; who isn't the owner is answered
-- EPERM
unfoldable pub consistent_load : ℕ → ℕ → Table → Outcome
consistent_load t m s =
    if is_robust m s
    then (if (cell_at s m).word.number == t then goes_to t (Consistent m) (Repair CheckHealth) s else answers t EPERM s)
    else answers t EINVAL s

-- consistent: load the health word. A mutex that isn't inconsistent is answered EINVAL
unfoldable pub consistent_health : ℕ → ℕ → Table → Outcome
consistent_health t m s =
    if (cell_at s m).health == 1 then goes_to t (Consistent m) (Repair StoreFine) s else answers t EINVAL s

-- one step of consistent after the load
unfoldable pub repair_line : RepairStep → ℕ → ℕ → Table → Outcome
repair_line CheckHealth t m s = consistent_health t m s
repair_line StoreFine t m s = answers t 0 (with_health_word m 0 s)

-- the call is closed by what its kernel call answered: 0, or the number of the error
unfoldable pub answered_by : Result (record {}) Errno → ℕ → Table → Outcome
answered_by (Ok x) t s = answers t 0 s
answered_by (Err e) t s = answers t (number_of e) s

-- setprio: the kernel call set_prio
unfoldable pub set_priority : ℕ → ℕ → ℕ → Table → Outcome
set_priority t u p s =
    let r = set_prio_answer u p s.kernel in
    answered_by r t (with_kernel s.words (kernel_after_set_prio u p r s.kernel) s)

-- CONDITION VARIABLES

-- wait: a mutex to which the variable isn't bound is answered EINVAL with no access. Else load the word: who isn't the
-- owner is answered EPERM, and an owner who holds it more than once EINVAL
unfoldable pub wait_load : ℕ → ℕ → ℕ → Table → Outcome
wait_load c m t s =
    if bound_to s c == m
    then (if (cell_at s m).word.number == t
    then (if nat_lt 1 (cell_at s m).count then answers t EINVAL s else goes_to t (Wait c m) LoadUses s)
    else answers t EPERM s)
    else answers t EINVAL s

-- wait: load the condition word
unfoldable pub wait_uses : ℕ → ℕ → ℕ → Table → Outcome
wait_uses c m t s =
    goes_by t (Wait c m) m (Give SetPending (ToPark (uses_of s c))) (Give Release (ToPark (uses_of s c))) s

-- wait, by what its kernel call answered. EAGAIN: the variable was used since, and the thread locks the mutex again
unfoldable pub wait_by : Result (record {}) Errno → ℕ → ℕ → ℕ → Table → Outcome
wait_by (Ok x) c m t s = waits_at t (Wait c m) StayParked s
wait_by (Err Again) c m t s = goes_to t (Wait c m) Exchange s
wait_by (Err e) c m t s = answers t (number_of e) s

-- wait: the kernel call wait_requeue_pi
unfoldable pub wait_park : ℕ → ℕ → ℕ → ℕ → Table → Outcome
wait_park v c m t s =
    let r = wait_requeue_answer c v m s.words in
    wait_by r c m t (with_kernel s.words (kernel_after_wait_requeue t c m r s.kernel) s)

-- wait: parked, or queued since; or woken to lock the mutex, which is the exchange of lock; or made the owner, which is
-- answered or is the load of taking over, as in lock
unfoldable pub wait_parked : ℕ → ℕ → ℕ → Table → Outcome
wait_parked c m t s =
    if is_woken_again (status_at s t) then own_exchange (Wait c m) t m s else lock_queued (Wait c m) t m s

-- signal and broadcast: the variable was used this often, as it was read. At its limit EOVERFLOW
unfoldable pub use_read : Request → ℕ → ℕ → Table → Outcome
use_read q n t s = if n == s.limits.signals then answers t EOVERFLOW s else goes_to t q (Wake (CountUse n)) s

-- signal and broadcast: compare-exchange the condition word from v to one more. If it fails, it goes on with what the
-- word is
unfoldable pub use_exchange : Request → ℕ → ℕ → ℕ → Table → Outcome
use_exchange q v c t s =
    if uses_of s c == v
    then goes_to t q (Wake (Requeue (v + 1))) (with_cond_word c (v + 1) s)
    else use_read q (uses_of s c) t s

-- how many threads a signal or a broadcast takes besides the first
abbrev pub more_in : Request → ℕ
more_in (Broadcast c) = 1024
more_in _ = 0

-- signal and broadcast, by what their kernel call answered. EAGAIN: the variable was used since
unfoldable pub use_by : Result ℕ Errno → Request → ℕ → Table → Outcome
use_by (Ok n) q t s = answers t 0 s
use_by (Err Again) q t s = goes_to t q (Wake ReadAgain) s
use_by (Err e) q t s = answers t (number_of e) s

-- signal and broadcast: the kernel call cmp_requeue_pi, for the mutex to which the variable is bound
unfoldable pub use_requeue : Request → ℕ → ℕ → ℕ → Table → Outcome
use_requeue q v c t s =
    let r = requeue_answer c (bound_to s c) 1 (more_in q) v s.words s.kernel in
    let x = after_requeue c (bound_to s c) (more_in q) r s.words s.kernel in
    use_by r q t (with_kernel x.words x.kernel s)

-- THE END OF A THREAD

-- what the library knows of mutexes once t has ended: those of these that it held are held once from now on
unfoldable pub library_after_end : ℕ → List ℕ → Words → List LibraryMutex → List LibraryMutex
library_after_end t [] ws ls = ls
library_after_end t (m ∷ ms) ws ls =
    library_after_end t ms ws
    (if (word_at ws m).number == t then set ls m (record (get_or ls m (new_mutex Normal false)) { count = 1 }) else ls)

-- t has ended: its call is gone, and what its robust list and its pending field name has passed on
unfoldable pub ended_table : ℕ → Table → Table
ended_table t s =
    let ms = walk_of (robust_at s.lists t) in
    let x = after_exit t ms s.words s.kernel in
    record s {
      words = x.words;
      kernel = x.kernel;
      lists = without_robust t s.lists;
      lines = set s.lines t Idle;
      mutexes = library_after_end t ms s.words s.mutexes;
    }

-- ONE STEP

-- one step of giving m up, and of clearing the pending field; at another place, which never comes, EINVAL
unfoldable pub giving_line : Request → Place → ℕ → ℕ → Table → Outcome
giving_line q (Give x y) t m s = give_line q x y t m s
giving_line q (Clear f a) t m s = clears a t s
giving_line q _ t m s = answers t EINVAL s

-- one step that all requests share which lock m: the exchange, taking over and leaving
unfoldable pub shared_line : Request → Place → ℕ → ℕ → Table → Outcome
shared_line q Exchange t m s = own_exchange q t m s
shared_line q (Take x) t m s = take_line q x t m s
shared_line q (Link x a) t m s = link_line q x a t m s
shared_line q p t m s = giving_line q p t m s

-- one step of a request that may queue for m, from the exchange on
unfoldable pub locking_line : Request → Place → ℕ → ℕ → Table → Outcome
locking_line q CallKernel t m s = lock_kernel q t m s
locking_line q StayQueued t m s = lock_queued q t m s
locking_line q Stop t m s = lock_stop q t s
locking_line q StayStopped t m s = record { seen = Waits; after = s }
locking_line q p t m s = shared_line q p t m s

-- one step of a signal or a broadcast of c
unfoldable pub use_line : Request → WakeStep → ℕ → ℕ → Table → Outcome
use_line q ReadUses c t s = use_read q (uses_of s c) t s
use_line q (CountUse v) c t s = use_exchange q v c t s
use_line q (Requeue v) c t s = use_requeue q v c t s
use_line q ReadAgain c t s = goes_to t q (Wake (Requeue (uses_of s c))) s

-- one step of the open call; at a place of another request, which never comes, EINVAL
unfoldable pub line_of : Request → Place → ℕ → Table → Outcome
line_of (Lock m) Load t s = lock_load (Lock m) t m s
line_of (Lock m) NamePending t s = goes_to t (Lock m) Exchange (with_pending_field t m s)
line_of (Lock m) p t s = locking_line (Lock m) p t m s
line_of (TryLock m) Load t s = try_load t m s
line_of (TryLock m) NamePending t s = goes_to t (TryLock m) Exchange (with_pending_field t m s)
line_of (TryLock m) CallKernel t s = try_kernel t m s
line_of (TryLock m) p t s = shared_line (TryLock m) p t m s
line_of (Unlock m) Load t s = unlock_load t m s
line_of (Unlock m) p t s = giving_line (Unlock m) p t m s
line_of (Consistent m) Load t s = consistent_load t m s
line_of (Consistent m) (Repair x) t s = repair_line x t m s
line_of (Wait c m) Load t s = wait_load c m t s
line_of (Wait c m) LoadUses t s = wait_uses c m t s
line_of (Wait c m) (Park v) t s = wait_park v c m t s
line_of (Wait c m) StayParked t s = wait_parked c m t s
line_of (Wait c m) p t s = locking_line (Wait c m) p t m s
line_of (Signal c) (Wake x) t s = use_line (Signal c) x c t s
line_of (Broadcast c) (Wake x) t s = use_line (Broadcast c) x c t s
line_of (SetPrio u p) SetPriority t s = set_priority t u p s
line_of _ _ t s = answers t EINVAL s

-- DEADLINES

-- whether the deadline of a call counts at this place, if it has one, by its thread's status: that of a lock while
-- it is queued or stopped, that of a wait while it is parked. Who was handed the mutex is ready; who was taken off its
-- variable is parked no more
abbrev pub counts_at : Request → Place → Status → Bool
counts_at (Lock m) StayQueued x = if is_ready x then false else true
counts_at (Lock m) StayStopped x = true
counts_at (Wait c m) StayParked x = is_parked x
counts_at _ _ x = false

-- whether t's call at this line is due: its deadline counts, and is reached
abbrev pub is_line_due : Line → ℕ → Table → Bool
is_line_due Idle t s = false
is_line_due (At q p) t s =
    if is_reached (timer_at s t).deadline s.time then counts_at q p (status_at s t) else false

-- whether t's open call is due
abbrev pub is_due_in : Table → ℕ → Bool
is_due_in s t = is_line_due (line_at s t) t s

-- where the lock of a robust mutex goes on that expires at this place
abbrev pub expired_place : Place → Place
expired_place StayQueued = Clear Unowned ETIMEDOUT
expired_place _ = Clear HadStopped ETIMEDOUT

-- the kernel call expire
unfoldable pub expired_in : ℕ → Table → Table
expired_in t s = with_kernel s.words (kernel_after_expire t s.kernel) s

-- a call that is due at this place expires. A lock of a stalled mutex is answered ETIMEDOUT, that of a robust one
-- clears its pending field first; a wait goes on to lock its mutex. Another request is never due: EINVAL
unfoldable pub expires_at : Request → Place → ℕ → Table → Outcome
expires_at (Lock m) p t s = ends_by t (Lock m) m (expired_place p) ETIMEDOUT (expired_in t s)
expires_at (Wait c m) p t s =
    goes_to t (Wait c m) Exchange (with_timer t (ran_out (timer_at s t)) (expired_in t s))
expires_at q p t s = answers t EINVAL s

-- what a call that has run out of time, or has not, shows of a step
abbrev pub reported_outcome : Request → Bool → Outcome → Outcome
reported_outcome q expired x = record x { seen = reported_seen q expired x.seen }

-- one step of the open call: one that is due expires, and does nothing else
unfoldable pub go_outcome : Line → ℕ → Table → Outcome
go_outcome Idle t s = record { seen = Waits; after = s }
go_outcome (At q p) t s =
    if is_line_due (At q p) t s then expires_at q p t s
    else reported_outcome q (timer_at s t).expired (line_of q p t s)

-- where a call begins
abbrev pub first_place : Request → Place
first_place (Signal c) = Wake ReadUses
first_place (Broadcast c) = Wake ReadUses
first_place (SetPrio u p) = SetPriority
first_place _ = Load

-- t begins this call: a timed one is its plain request, with a timer
abbrev pub begun_table : ℕ → Request → Table → Table
begun_table t q s = with_timer t (timer_of q) (with_line t (At (plain q) (first_place q)) s)

-- whether a call is open
abbrev pub is_open : Line → Bool
is_open Idle = false
is_open (At q p) = true

-- why an event is refused, if it is
abbrev pub table_refusal : Table → Event → Option Refusal
table_refusal s (Begin t q) =
    begin_refused (has_thread s t) (is_living s.kernel t) (is_open (line_at s t))
    (names_known (has_mutex s) (has_cond s) q)
table_refusal s (Go t) = go_refused (has_thread s t) (is_living s.kernel t) (is_open (line_at s t))
table_refusal s (End t) = end_refused (has_thread s t) (is_living s.kernel t)
table_refusal s (Tick n) = tick_refused s.time n

-- an event that is not refused
unfoldable pub accepted_outcome : Event → Table → Outcome
accepted_outcome (Begin t q) s = record { seen = Begun; after = begun_table t q s }
accepted_outcome (Go t) s = go_outcome (line_at s t) t s
accepted_outcome (End t) s = record { seen = Ended; after = ended_table t s }
accepted_outcome (Tick n) s = record { seen = Ticked; after = record s { time = n } }

-- an event by its refusal, if there is one
abbrev pub by_refusal : Option Refusal → Event → Table → Outcome
by_refusal (Some r) e s = record { seen = Refused r; after = s }
by_refusal None e s = accepted_outcome e s

-- one event: what it is answered, and the state after it
unfoldable pub event_outcome : Event → Table → Outcome
event_outcome e s = by_refusal (table_refusal s e) e s

-- a thread goes on, this often at most after a first time, up to the first answer that isn't Went
unfoldable pub goes_on : ℕ → ℕ → Table → Outcome
goes_on zero t s = event_outcome (Go t) s
goes_on (suc more) t s =
    elim (event_outcome (Go t) s).seen [
      | Went ↦ goes_on more t (event_outcome (Go t) s).after
      | _ ↦ event_outcome (Go t) s
    ]

-- an answer that closes the call, or says that its thread waits
abbrev pub ClosesOrWaits : Seen → Type 0
ClosesOrWaits x = (x ≡ Waits) ⊎ ((a : ℕ) × (x ≡ Answered a))
