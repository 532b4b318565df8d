-- Worked examples of condition variables, computed on the definitions themselves: what a core is asked, and what it
-- shows.
use Rattle.std.proofs.Common.{◌≡◌, true, false, [], ◌∷◌, ◌++◌, None, Ok, Err, refl}
use Rattle.pif_types.specs.declared.errors.AddFault.TheVariants.{TooMany, BadPrio, NoSuch}
use Rattle.pif_types.specs.declared.errors.Errno.TheVariants.{NoSuchThread, Again, Fault, Invalid}
use Rattle.pif_types.specs.declared.errors.Refusal.TheVariants.{Dead, Idle, NoSuch as Unknown}
use Rattle.pif_types.specs.declared.requests.Kind.TheVariants.{Normal, Recursive}
use Rattle.pif_types.specs.declared.requests.Request.TheVariants.{Lock, Unlock, Wait, Signal, Broadcast}
use Rattle.pif_model.specs.declared.events.Event.TheVariants.{Begin, Go, End}
use Rattle.pif_model.specs.declared.events.Seen.TheVariants.{Begun, Waits, Answered, Ended, Refused}
use Rattle.pif_model.specs.declared.lines.Status.TheVariants.{Ready, Parked}
use Rattle.pif_model.specs.declared.lines.Woken.TheVariants.{Again as WokenAgain}
use Rattle.pif_model.specs.Word.{Words, bits_of, word_of, word_at, set_word, set_cond_word}
use Rattle.pif_model.specs.Table.{Table, new_table, thread_added, mutex_added, cond_added}
use Rattle.pif_model.specs.PiKernel.{Kernel, System, seat_at, set_prio_answer, wait_requeue_answer, kernel_after_wait_requeue, requeue_answer, after_requeue}
use Rattle.pif_model.specs.Calls.{add_thread_answer, add_cond_answer, effective_answer, pick_answer}
use Rattle.pif_model.specs.Lines.{goes_on}
use Rattle.pif_model.proofs.Worked.{machine}
use Rattle.pif_model.proofs.Asked.{shows, reply, next, finished, goes, wents}
use Rattle.pif_model.proofs.Asked.Ask.{Do, Call, Finish, Word, Uses, Priority}
use Rattle.pif_model.proofs.Asked.Shown.{Saw, Bits, CondWord, Effective}

-- a core that takes variables
unfoldable small : Table
unfolding machine
small = new_table (record { threads = 9; mutexes = 99; conds = 9; signals = 9 })

-- two threads of priority 10, a mutex, and a variable bound to it
pair : Table
unfolding machine small
pair = cond_added 1 (mutex_added Normal false (thread_added 10 (thread_added 10 small)))

-- who has given the mutex up and is not parked yet is woken by a signal
signal_between_release_and_parking :
    shows (Call 2 (Lock 1) ∷ Do (Begin 2 (Wait 1 1)) ∷ goes 2 3 ++ Word 1 ∷ Call 1 (Signal 1) ∷ Finish 2 ∷ Word 1
    ∷ []) pair
    ≡ Saw (Answered 0) ∷ Saw Begun ∷ wents 3 ++ Bits 0x00000000 ∷ Saw (Answered 0) ∷ Saw (Answered 0)
    ∷ Bits 0x00000002 ∷ []
unfolding machine small pair shows reply next finished goes wents goes_on
signal_between_release_and_parking = refl

-- threads of priority 5, 10, 30 and 20, a mutex, and a variable bound to it
four : Table
unfolding machine small
four =
    cond_added 1 (mutex_added Normal false (thread_added 20 (thread_added 30 (thread_added 10 (thread_added 5 small)))))

-- a broadcast by the owner queues all that are parked, the greatest priority first; each gets the mutex in turn
broadcast_wakes_by_priority :
    shows (Call 2 (Lock 1) ∷ Call 2 (Wait 1 1) ∷ Call 3 (Lock 1) ∷ Call 3 (Wait 1 1) ∷ Call 4 (Lock 1)
    ∷ Call 4 (Wait 1 1) ∷ Call 1 (Lock 1) ∷ Call 1 (Broadcast 1) ∷ Word 1 ∷ Priority 1 ∷ Call 1 (Unlock 1) ∷ Word 1
    ∷ Priority 1 ∷ Finish 3 ∷ Call 3 (Unlock 1) ∷ Word 1 ∷ Finish 4 ∷ Call 4 (Unlock 1) ∷ Word 1 ∷ Finish 2
    ∷ Call 2 (Unlock 1) ∷ Word 1 ∷ []) four
    ≡ Saw (Answered 0) ∷ Saw Waits ∷ Saw (Answered 0) ∷ Saw Waits ∷ Saw (Answered 0) ∷ Saw Waits
    ∷ Saw (Answered 0) ∷ Saw (Answered 0) ∷ Bits 0x80000001 ∷ Effective 30 ∷ Saw (Answered 0) ∷ Bits 0x80000003
    ∷ Effective 5 ∷ Saw (Answered 0) ∷ Saw (Answered 0) ∷ Bits 0x80000004 ∷ Saw (Answered 0) ∷ Saw (Answered 0)
    ∷ Bits 0x80000002 ∷ Saw (Answered 0) ∷ Saw (Answered 0) ∷ Bits 0x00000000 ∷ []
unfolding machine small four shows reply next finished goes_on
broadcast_wakes_by_priority = refl

-- a thread, a mutex, and a variable that may be used twice
twice : Table
unfolding machine
twice =
    cond_added 1 (mutex_added Normal false (thread_added 10
    (new_table (record { threads = 2; mutexes = 1; conds = 1; signals = 2 }))))

-- after its last use a variable is used no more
uses_of_a_variable_run_out :
    shows (Call 1 (Signal 1) ∷ Call 1 (Signal 1) ∷ Call 1 (Signal 1) ∷ Uses 1 ∷ Call 1 (Broadcast 1) ∷ []) twice
    ≡ Saw (Answered 0) ∷ Saw (Answered 0) ∷ Saw (Answered 75) ∷ CondWord 2 ∷ Saw (Answered 75) ∷ []
unfolding machine twice shows reply next finished goes_on
uses_of_a_variable_run_out = refl

-- the table after two uses
used_twice : Table
unfolding machine twice next finished goes_on
used_twice = next (Call 1 (Broadcast 1)) (next (Call 1 (Signal 1)) twice)

requeue_of_two_first_is_refused : requeue_answer 1 1 2 0 2 used_twice.words used_twice.kernel ≡ Err Invalid
unfolding machine twice used_twice next finished goes_on
requeue_of_two_first_is_refused = refl

requeue_after_another_use_is_refused : requeue_answer 1 1 1 0 1 used_twice.words used_twice.kernel ≡ Err Again
unfolding machine twice used_twice next finished goes_on
requeue_after_another_use_is_refused = refl

-- two threads of priority 10, two RECURSIVE mutexes, and a variable bound to the first
recursive : Table
unfolding machine small
recursive =
    cond_added 1 (mutex_added Recursive false (mutex_added Recursive false (thread_added 10 (thread_added 10 small))))

-- another mutex, then another owner, then a mutex that is held more than once
wait_is_refused_in_order :
    shows (Call 1 (Lock 1) ∷ Call 1 (Lock 1) ∷ Call 2 (Wait 1 2) ∷ Call 2 (Wait 1 1) ∷ Call 1 (Wait 1 1) ∷ []) recursive
    ≡ Saw (Answered 0) ∷ Saw (Answered 0) ∷ Saw (Answered 22) ∷ Saw (Answered 1) ∷ Saw (Answered 22) ∷ []
unfolding machine small recursive shows reply next finished goes_on
wait_is_refused_in_order = refl

-- a core that takes one of each
least : Table
unfolding machine
least = new_table (record { threads = 1; mutexes = 1; conds = 1; signals = 1 })

-- with its thread
one : Table
unfolding machine least
one = thread_added 99 least

refusals_in_order :
    shows (Do (Go 1) ∷ Do (Begin 1 (Lock 1)) ∷ Do (Go 2) ∷ Do (End 1) ∷ Do (Go 1) ∷ []) one
    ≡ Saw (Refused Idle) ∷ Saw (Refused Unknown) ∷ Saw (Refused Unknown) ∷ Saw Ended ∷ Saw (Refused Dead) ∷ []
unfolding machine least one shows reply next finished goes_on
refusals_in_order = refl

bad_priority_comes_first : add_thread_answer 100 one ≡ Err BadPrio
unfolding machine least one
bad_priority_comes_first = refl

thread_is_the_first : add_thread_answer 99 least ≡ Ok 1
unfolding machine least
thread_is_the_first = refl

threads_are_as_many_as_may_be : add_thread_answer 1 one ≡ Err TooMany
unfolding machine least one
threads_are_as_many_as_may_be = refl

mutex_of_a_variable_exists : add_cond_answer 1 one ≡ Err NoSuch
unfolding machine least one
mutex_of_a_variable_exists = refl

-- the table once the thread has ended
ended : Table
unfolding machine least one next
ended = next (Do (End 1)) one

ended_has_no_priority : effective_answer 1 ended ≡ None
unfolding machine least one next ended
ended_has_no_priority = refl

nobody_is_picked : pick_answer ended ≡ None
unfolding machine least one next ended
nobody_is_picked = refl

-- a request that names a variable that doesn't exist
unknown_variable_is_refused :
    shows (Do (Begin 1 (Signal 2)) ∷ Do (Begin 1 (Broadcast 2)) ∷ Do (Begin 1 (Wait 2 1)) ∷ Do (Begin 1 (Wait 1 2))
    ∷ []) pair
    ≡ Saw (Refused Unknown) ∷ Saw (Refused Unknown) ∷ Saw (Refused Unknown) ∷ Saw (Refused Unknown) ∷ []
unfolding machine small pair shows reply next
unknown_variable_is_refused = refl

-- threads of priority 10, 10 and 30, a mutex, and a variable bound to it
three : Table
unfolding machine small
three = cond_added 1 (mutex_added Normal false (thread_added 30 (thread_added 10 (thread_added 10 small))))

-- a signal takes the greatest priority, and not who was parked first
signal_takes_greatest_priority :
    shows (Call 2 (Lock 1) ∷ Call 2 (Wait 1 1) ∷ Call 3 (Lock 1) ∷ Call 3 (Wait 1 1) ∷ Call 1 (Signal 1) ∷ Word 1
    ∷ Finish 3 ∷ Finish 2 ∷ []) three
    ≡ Saw (Answered 0) ∷ Saw Waits ∷ Saw (Answered 0) ∷ Saw Waits ∷ Saw (Answered 0) ∷ Bits 0x00000003
    ∷ Saw (Answered 0) ∷ Saw Waits ∷ []
unfolding machine small three shows reply next finished goes_on
signal_takes_greatest_priority = refl

-- three threads of priority 10, two mutexes, and a variable bound to the first
closing : Table
unfolding machine small
closing =
    cond_added 1 (mutex_added Normal false (mutex_added Normal false
    (thread_added 10 (thread_added 10 (thread_added 10 small)))))

-- who is woken while its mutex is held by a thread that waits for it can't get the mutex back
wait_can_answer_deadlock :
    shows (Call 1 (Lock 1) ∷ Call 1 (Lock 2) ∷ Call 1 (Wait 1 1) ∷ Call 2 (Lock 1) ∷ Call 2 (Lock 2) ∷ Call 3 (Signal 1)
    ∷ Finish 1 ∷ Word 1 ∷ Word 2 ∷ []) closing
    ≡ Saw (Answered 0) ∷ Saw (Answered 0) ∷ Saw Waits ∷ Saw (Answered 0) ∷ Saw Waits ∷ Saw (Answered 0)
    ∷ Saw (Answered 35) ∷ Bits 0x00000002 ∷ Bits 0x80000001 ∷ []
unfolding machine small closing shows reply next finished goes_on
wait_can_answer_deadlock = refl

-- threads of priority 10, 10, 15 and 40, two mutexes, and a variable bound to the first
boosted : Table
unfolding machine small
boosted =
    cond_added 1 (mutex_added Normal false (mutex_added Normal false
    (thread_added 40 (thread_added 15 (thread_added 10 (thread_added 10 small))))))

-- a thread that is boosted while it is parked is taken before one that was above it
parked_thread_is_rekeyed :
    shows (Call 2 (Lock 2) ∷ Call 2 (Lock 1) ∷ Call 2 (Wait 1 1) ∷ Call 3 (Lock 1) ∷ Call 3 (Wait 1 1) ∷ Call 4 (Lock 2)
    ∷ Priority 2 ∷ Call 1 (Signal 1) ∷ Word 1 ∷ Finish 2 ∷ []) boosted
    ≡ Saw (Answered 0) ∷ Saw (Answered 0) ∷ Saw Waits ∷ Saw (Answered 0) ∷ Saw Waits ∷ Saw Waits ∷ Effective 40
    ∷ Saw (Answered 0) ∷ Bits 0x00000002 ∷ Saw (Answered 0) ∷ []
unfolding machine small boosted shows reply next finished goes_on
parked_thread_is_rekeyed = refl

-- two threads of priority 10, a robust mutex, and a variable bound to it
guarded : Table
unfolding machine small
guarded = cond_added 1 (mutex_added Normal true (thread_added 10 (thread_added 10 small)))

-- a thread that ends in a wait passes the mutex on if it has not given it up, and no longer then
death_inside_wait :
    shows (Call 2 (Lock 1) ∷ Do (Begin 2 (Wait 1 1)) ∷ goes 2 5 ++ Do (End 2) ∷ Word 1 ∷ Call 1 (Lock 1) ∷ []) guarded
    ≡ Saw (Answered 0) ∷ Saw Begun ∷ wents 5 ++ Saw Ended ∷ Bits 0x40000000 ∷ Saw (Answered 130) ∷ []
unfolding machine small guarded shows reply next finished goes wents goes_on
death_inside_wait = refl

death_after_a_wait_released :
    shows (Call 2 (Lock 1) ∷ Do (Begin 2 (Wait 1 1)) ∷ goes 2 6 ++ Do (End 2) ∷ Word 1 ∷ Call 1 (Lock 1)
    ∷ Call 1 (Signal 1) ∷ []) guarded
    ≡ Saw (Answered 0) ∷ Saw Begun ∷ wents 6 ++ Saw Ended ∷ Bits 0x00000000 ∷ Saw (Answered 0) ∷ Saw (Answered 0) ∷ []
unfolding machine small guarded shows reply next finished goes wents goes_on
death_after_a_wait_released = refl

-- THE KERNEL BY ITSELF

-- the condition word is 1, and the word of m1 has the number of a thread that was never added
stored : Words
unfolding machine small closing
stored = set_cond_word (set_word closing.words 1 (word_of 0x000003ff)) 1 1

-- the kernel once t1 is parked on the variable for m1
parked : Kernel
unfolding machine small closing
parked = kernel_after_wait_requeue 1 1 1 (Ok (record {})) closing.kernel

-- the system once one thread is taken from the variable for m1
taken : System
unfolding machine small closing stored parked
taken = after_requeue 1 1 0 (Ok 1) stored parked

-- a priority comes before its thread; a use since is found; a thread is parked for one mutex, and taken for no other;
-- if the mutex has the number of nobody, it is woken to lock the mutex itself, and the word stays
set_prio_and_requeue_refusals :
    (set_prio_answer 9 0 closing.kernel ≡ Err Invalid)
    × (set_prio_answer 9 10 closing.kernel ≡ Err NoSuchThread)
    × (wait_requeue_answer 1 0 1 stored ≡ Err Again)
    × (wait_requeue_answer 1 1 1 stored ≡ Ok (record {}))
    × ((seat_at parked 1).status ≡ Parked 1)
    × (requeue_answer 1 2 1 0 1 stored parked ≡ Err Invalid)
    × (requeue_answer 1 1 1 0 1 stored parked ≡ Ok 1)
    × ((seat_at taken.kernel 1).status ≡ Ready WokenAgain)
    × (bits_of (word_at taken.words 1) ≡ 0x000003ff)
unfolding machine small closing stored parked taken
set_prio_and_requeue_refusals = (refl, refl, refl, refl, refl, refl, refl, refl, refl)

-- a word or a condition word that is not there
requeue_finds_its_words :
    (wait_requeue_answer 10 0 1 stored ≡ Err Fault) × (requeue_answer 1 100 1 0 1 stored parked ≡ Err Fault)
unfolding machine small closing stored parked
requeue_finds_its_words = (refl, refl)
