-- Worked examples, computed on the definitions themselves.
use Rattle.std.proofs.Common.{◌≡◌, ℕ, zero, suc, false, List, [], ◌∷◌, ◌++◌, refl}
use Rattle.pif_types.specs.declared.requests.Kind.TheVariants.{Normal, ErrorCheck, Recursive}
use Rattle.pif_types.specs.declared.requests.Request.TheVariants.{Lock, TryLock, Unlock, SetPrio}
use Rattle.pif_types.specs.declared.errors.Refusal.TheVariants.{Busy, Idle, NoSuch}
use Rattle.pif_model.specs.declared.events.Event.{Event}
use Rattle.pif_model.specs.declared.events.Event.TheVariants.{Begin, Go}
use Rattle.pif_model.specs.declared.events.Seen.{Seen}
use Rattle.pif_model.specs.declared.events.Seen.TheVariants.{Begun, Went, Waits, Answered, Refused}
use Rattle.pif_model.specs.Graph.{reaches_within, greatest_where, effective_among, first_greatest, waited_by, next_waiter}
use Rattle.pif_model.specs.Word.{bits_of, word_of}
use Rattle.pif_model.specs.Table.{Table, new_table, thread_added, mutex_added, cell_at}
use Rattle.pif_model.specs.PiKernel.{effective_in, pick_in, numbers, levels_by, no_states, first_from, lock_answer, words_after_lock, kernel_after_lock, try_lock_answer, words_after_try_lock, kernel_after_queueing, unlock_answer, words_after_unlock, kernel_after_unlock, kernel_after_hand_over, set_prio_answer, kernel_after_set_prio, kernel_after_stop, wait_requeue_answer, kernel_after_parking, kernel_after_wait_requeue, kernel_after_waking, after_taking, after_takings, requeue_answer, after_requeue, kernel_left_as, kernel_after_expire, after_death, after_deaths}
use Rattle.pif_model.specs.Lines.{relocks, after_exchange, own_exchange, lock_load, lock_by, lock_kernel, take_load, lock_queued, lock_stop, take_health, take_line, link_line, clears, give_health, give_exchange, given_up_by, gives_up, give_line, try_load, try_by, try_kernel, unlock_load, consistent_load, consistent_health, repair_line, answered_by, set_priority, wait_load, wait_uses, wait_by, wait_park, wait_parked, use_read, use_exchange, use_by, use_requeue, library_after_end, ended_table, giving_line, shared_line, locking_line, use_line, line_of, expired_in, expires_at, go_outcome, accepted_outcome, event_outcome}

-- opens every definition of the table machine
unfoldable pub machine : ℕ
unfolding reaches_within greatest_where effective_among first_greatest waited_by next_waiter bits_of word_of numbers levels_by no_states first_from lock_answer words_after_lock kernel_after_lock try_lock_answer words_after_try_lock kernel_after_queueing unlock_answer words_after_unlock kernel_after_unlock kernel_after_hand_over set_prio_answer kernel_after_set_prio kernel_after_stop wait_requeue_answer kernel_after_parking kernel_after_wait_requeue kernel_after_waking after_taking after_takings requeue_answer after_requeue kernel_left_as kernel_after_expire after_death after_deaths relocks after_exchange own_exchange lock_load lock_by lock_kernel take_load lock_queued lock_stop take_health take_line link_line clears give_health give_exchange given_up_by gives_up give_line try_load try_by try_kernel unlock_load consistent_load consistent_health repair_line answered_by set_priority wait_load wait_uses wait_by wait_park wait_parked use_read use_exchange use_by use_requeue library_after_end ended_table giving_line shared_line locking_line use_line line_of expired_in expires_at go_outcome accepted_outcome event_outcome
machine = 0

-- a core for examples
unfoldable pub small : Table
unfolding machine
small = new_table (record { threads = 9; mutexes = 9; conds = 0; signals = 1 })

-- the table after some events
after : List Event → Table → Table
after [] s = s
after (e ∷ es) s = after es (event_outcome e s).after

-- what some events are answered
seen : List Event → Table → List Seen
seen [] s = []
seen (e ∷ es) s = (event_outcome e s).seen ∷ seen es (event_outcome e s).after

-- t locks m and is answered at once
locks : ℕ → ℕ → List Event
locks t m = Begin t (Lock m) ∷ Go t ∷ Go t ∷ []

-- threads of priority 10 and 50, one mutex
two : Table
unfolding machine small
two = mutex_added Normal false (thread_added 50 (thread_added 10 small))

-- t1 holds the mutex and t2 waits for it
contended : List Event
contended = locks 1 1 ++ Begin 2 (Lock 1) ∷ Go 2 ∷ Go 2 ∷ Go 2 ∷ []

-- the holder is boosted until it unlocks
boosted_seen : seen contended two ≡ Begun ∷ Went ∷ Answered 0 ∷ Begun ∷ Went ∷ Went ∷ Waits ∷ []
unfolding machine small two contended locks seen after
boosted_seen = refl

boosted_word : bits_of (cell_at (after contended two) 1).word ≡ 0x80000001
unfolding machine small two contended locks seen after
boosted_word = refl

boosted_priority : effective_in (after contended two).kernel 1 ≡ 50
unfolding machine small two contended locks seen after
boosted_priority = refl

-- t1 unlocks through the kernel, t2 notices, and unlocks by the kernel again since WAITERS is stale
released : List Event
released = Begin 1 (Unlock 1) ∷ Go 1 ∷ Go 1 ∷ Go 1 ∷ []

released_seen : seen (released ++ Go 2 ∷ Begin 2 (Unlock 1) ∷ Go 2 ∷ Go 2 ∷ Go 2 ∷ []) (after contended two)
    ≡ Begun ∷ Went ∷ Went ∷ Answered 0 ∷ Answered 0 ∷ Begun ∷ Went ∷ Went ∷ Answered 0 ∷ []
unfolding machine small two contended locks released seen after
released_seen = refl

released_word : bits_of (cell_at (after (contended ++ released) two) 1).word ≡ 0x80000002
unfolding machine small two contended locks released seen after
released_word = refl

released_priority : effective_in (after (contended ++ released) two).kernel 1 ≡ 10
unfolding machine small two contended locks released seen after
released_priority = refl

-- priorities 1, 2 and 99, two mutexes: t1 holds m1, t2 holds m2 and waits for m1, t3 waits for m2
three : Table
unfolding machine small
three = mutex_added Normal false (mutex_added Normal false (thread_added 99 (thread_added 2 (thread_added 1 small))))

chain : List Event
chain = locks 1 1 ++ locks 2 2 ++ Begin 2 (Lock 1) ∷ Go 2 ∷ Go 2 ∷ Go 2 ∷ Begin 3 (Lock 2) ∷ Go 3 ∷ Go 3 ∷ Go 3 ∷ []

-- the boost reaches through the chain
chain_priority : effective_in (after chain three).kernel 1 ≡ 99
unfolding machine small three chain locks seen after
chain_priority = refl

chain_pick : pick_in (after chain three).kernel ≡ 1
unfolding machine small three chain locks seen after
chain_pick = refl

-- closing a cycle is refused
cycle_seen : seen (Begin 1 (Lock 2) ∷ Go 1 ∷ Go 1 ∷ Go 1 ∷ []) (after chain three) ≡ Begun ∷ Went ∷ Went ∷ Answered 35 ∷ []
unfolding machine small three chain locks seen after
cycle_seen = refl

-- equals are served in order of arrival: priorities 10, 20, 20
equals : Table
unfolding machine small
equals = mutex_added Normal false (thread_added 20 (thread_added 20 (thread_added 10 small)))

equals_word : bits_of (cell_at (after (locks 1 1 ++ Begin 2 (Lock 1) ∷ Go 2 ∷ Go 2 ∷ Go 2 ∷ Begin 3 (Lock 1) ∷ Go 3 ∷ Go 3 ∷ Go 3 ∷ released) equals) 1).word ≡ 0x80000002
unfolding machine small equals locks released seen after
equals_word = refl

-- the owner follows a change of a waiter's priority, and equals keep their order after it: t2 goes to 30 and back to 20
wait_both : List Event
wait_both = locks 1 1 ++ Begin 2 (Lock 1) ∷ Go 2 ∷ Go 2 ∷ Go 2 ∷ Begin 3 (Lock 1) ∷ Go 3 ∷ Go 3 ∷ Go 3 ∷ []

changes : ℕ → List Event
changes p = Begin 1 (SetPrio 2 p) ∷ Go 1 ∷ []

changed_priority : effective_in (after (wait_both ++ changes 30) equals).kernel 1 ≡ 30
unfolding machine small equals locks wait_both changes after
changed_priority = refl

changed_back_priority : effective_in (after (wait_both ++ changes 30 ++ changes 20) equals).kernel 1 ≡ 20
unfolding machine small equals locks wait_both changes after
changed_back_priority = refl

changed_back_word : bits_of (cell_at (after (wait_both ++ changes 30 ++ changes 20 ++ released) equals) 1).word ≡ 0x80000002
unfolding machine small equals locks wait_both changes released after
changed_back_word = refl

-- no priority: EINVAL, also for a thread that was never added; such a thread: ESRCH
unchanged_seen : seen (Begin 1 (SetPrio 3 100) ∷ Go 1 ∷ Begin 1 (SetPrio 9 0) ∷ Go 1 ∷ Begin 1 (SetPrio 9 5) ∷ Go 1 ∷ []) equals
    ≡ Begun ∷ Answered 22 ∷ Begun ∷ Answered 22 ∷ Begun ∷ Answered 3 ∷ []
unfolding machine small equals seen after
unchanged_seen = refl

-- kinds answer their owner: normal waits for good, errorcheck answers EDEADLK; who isn't the owner is answered EPERM
kinds : Table
unfolding machine small
kinds = mutex_added ErrorCheck false (mutex_added Normal false (thread_added 10 (thread_added 10 small)))

kinds_seen : seen (locks 1 1 ++ locks 1 2 ++ Begin 1 (Lock 2) ∷ Go 1 ∷ Begin 2 (Unlock 1) ∷ Go 2 ∷ Begin 1 (Lock 1) ∷ Go 1 ∷ Go 1 ∷ Go 1 ∷ []) kinds
    ≡ Begun ∷ Went ∷ Answered 0 ∷ Begun ∷ Went ∷ Answered 0 ∷ Begun ∷ Answered 35 ∷ Begun ∷ Answered 1 ∷ Begun ∷ Went ∷ Waits ∷ Waits ∷ []
unfolding machine small kinds locks seen after
kinds_seen = refl

-- a RECURSIVE mutex: its owner locks it 255 times and then is answered EAGAIN, by lock and by trylock. The 255th unlock
-- gives it up
recursive : Table
unfolding machine small
recursive = mutex_added Recursive false (thread_added 10 small)

-- some events, this often
times : ℕ → List Event → List Event
times zero es = []
times (suc n) es = es ++ times n es

-- the owner of m1 locks it again, tries to, and unlocks it while it holds it more than once
lock_again : List Event
lock_again = Begin 1 (Lock 1) ∷ Go 1 ∷ []

try_again : List Event
try_again = Begin 1 (TryLock 1) ∷ Go 1 ∷ []

unlock_one : List Event
unlock_one = Begin 1 (Unlock 1) ∷ Go 1 ∷ []

held_255_times : Table
unfolding machine small recursive locks times lock_again try_again after
held_255_times = after (locks 1 1 ++ times 100 lock_again ++ times 154 try_again) recursive

limit_seen : seen (lock_again ++ try_again ++ unlock_one ++ try_again ++ lock_again) held_255_times
    ≡ Begun ∷ Answered 11 ∷ Begun ∷ Answered 11 ∷ Begun ∷ Answered 0 ∷ Begun ∷ Answered 0 ∷ Begun ∷ Answered 11 ∷ []
unfolding machine held_255_times lock_again try_again unlock_one seen
limit_seen = refl

unlocked_254_times : bits_of (cell_at (after (times 254 unlock_one) held_255_times) 1).word ≡ 0x00000001
unfolding machine held_255_times times unlock_one after
unlocked_254_times = refl

unlocked_255_times : bits_of (cell_at (after (times 254 unlock_one ++ unlock_one ++ Go 1 ∷ []) held_255_times) 1).word ≡ 0x00000000
unfolding machine held_255_times times unlock_one after
unlocked_255_times = refl

-- trylock: the owner of another kind is answered EBUSY, and so is another thread, after two steps that fail
tries : ℕ → ℕ → List Event
tries t m = Begin t (TryLock m) ∷ Go t ∷ Go t ∷ []

tried_seen : seen (tries 1 1 ++ Begin 1 (TryLock 1) ∷ Go 1 ∷ tries 2 1 ++ Go 2 ∷ tries 2 2) kinds
    ≡ Begun ∷ Went ∷ Answered 0 ∷ Begun ∷ Answered 16 ∷ Begun ∷ Went ∷ Went ∷ Answered 16 ∷ Begun ∷ Went ∷ Answered 0 ∷ []
unfolding machine small kinds tries seen after
tried_seen = refl

-- refusals: idle, a mutex that doesn't exist, a thread that was never added, busy
refused_seen : seen (Go 1 ∷ Begin 1 (Lock 9) ∷ Go 7 ∷ Begin 1 (Lock 1) ∷ Begin 1 (Lock 9) ∷ []) two
    ≡ Refused Idle ∷ Refused NoSuch ∷ Refused NoSuch ∷ Begun ∷ Refused Busy ∷ []
unfolding machine small two seen after
refused_seen = refl
