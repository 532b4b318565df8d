-- Worked examples of deadlines, computed on the definitions themselves: what a core is asked, and what it shows.
use Rattle.std.proofs.Common.{◌≡◌, true, false, List, [], ◌∷◌, ◌++◌, Some, refl}
use Rattle.pif_types.specs.declared.errors.Refusal.TheVariants.{Past}
use Rattle.pif_types.specs.declared.requests.Kind.TheVariants.{Normal}
use Rattle.pif_types.specs.declared.requests.Request.TheVariants.{Lock, Unlock, Signal, TimedLock, TimedWait}
use Rattle.pif_model.specs.declared.events.Event.TheVariants.{Begin, Go, End, Tick}
use Rattle.pif_model.specs.declared.events.Seen.TheVariants.{Begun, Went, Waits, Answered, Ended, Ticked, Refused}
use Rattle.pif_model.specs.Table.{Table, new_table, thread_added, mutex_added, cond_added}
use Rattle.pif_model.specs.Calls.{waiting_answer, open_call_answer}
use Rattle.pif_model.specs.Lines.{goes_on}
use Rattle.pif_model.proofs.Worked.{machine}
use Rattle.pif_model.proofs.Asked.{Ask, Shown, shows, reply, next, finished, goes, wents}
use Rattle.pif_model.proofs.Asked.Ask.{Do, Call, Finish, Word, Priority}
use Rattle.pif_model.proofs.Asked.Shown.{Saw, Bits, Effective}

-- a core that takes variables
unfoldable small : Table
unfolding machine
small = new_table (record { threads = 9; mutexes = 9; conds = 9; signals = 9 })

-- threads of priority 10 and 50, and a mutex
boosting : Table
unfolding machine small
boosting = mutex_added Normal false (thread_added 50 (thread_added 10 small))

-- t1 holds the mutex, and t2 is queued on it until the time is 5; 4 is too early
queued_until_5 : List Ask
queued_until_5 =
    Call 1 (Lock 1) ∷ Do (Begin 2 (TimedLock 1 5)) ∷ goes 2 2 ++ Do (Go 2) ∷ Priority 1 ∷ Do (Tick 4) ∷ Do (Go 2) ∷ []

queued_until_5_shown : List Shown
queued_until_5_shown =
    Saw (Answered 0) ∷ Saw Begun ∷ wents 2 ++ Saw Waits ∷ Effective 50 ∷ Saw Ticked ∷ Saw Waits ∷ []

-- a lock whose deadline is reached waits no more and boosts nobody; time doesn't go back; and what can be had at once
-- is had, whatever the deadline
timed_lock_expires :
    shows (queued_until_5 ++ Do (Tick 5) ∷ Do (Go 2) ∷ Priority 1 ∷ Word 1 ∷ Do (Tick 4) ∷ Call 1 (Unlock 1) ∷ Word 1
    ∷ Call 2 (TimedLock 1 0) ∷ []) boosting
    ≡ queued_until_5_shown ++ Saw Ticked ∷ Saw (Answered 110) ∷ Effective 10 ∷ Bits 0x80000001 ∷ Saw (Refused Past)
    ∷ Saw (Answered 0) ∷ Bits 0x00000000 ∷ Saw (Answered 0) ∷ []
unfolding machine small boosting queued_until_5 queued_until_5_shown shows reply next finished goes wents goes_on
timed_lock_expires = refl

-- who was handed the mutex has it, also after its deadline
hand_over_beats_expiry :
    shows (queued_until_5 ++ Call 1 (Unlock 1) ∷ Do (Tick 5) ∷ Do (Go 2) ∷ Word 1 ∷ []) boosting
    ≡ queued_until_5_shown ++ Saw (Answered 0) ∷ Saw Ticked ∷ Saw (Answered 0) ∷ Bits 0x80000002 ∷ []
unfolding machine small boosting queued_until_5 queued_until_5_shown shows reply next finished goes wents goes_on
hand_over_beats_expiry = refl

-- two threads of priority 10, a stalled mutex, and a variable bound to it
stalled : Table
unfolding machine small
stalled = cond_added 1 (mutex_added Normal false (thread_added 10 (thread_added 10 small)))

-- the same with a robust mutex
robust : Table
unfolding machine small
robust = cond_added 1 (mutex_added Normal true (thread_added 10 (thread_added 10 small)))

-- a wait whose deadline is reached locks its mutex, for as long as that takes
timed_wait_expires :
    shows (Call 2 (Lock 1) ∷ Call 2 (TimedWait 1 1 3) ∷ Call 1 (Lock 1) ∷ Do (Tick 3) ∷ goes 2 2 ++ Do (Go 2)
    ∷ Call 1 (Unlock 1) ∷ Do (Go 2) ∷ Word 1 ∷ Call 1 (Signal 1) ∷ []) stalled
    ≡ Saw (Answered 0) ∷ Saw Waits ∷ Saw (Answered 0) ∷ Saw Ticked ∷ wents 2 ++ Saw Waits
    ∷ Saw (Answered 0) ∷ Saw (Answered 110) ∷ Bits 0x80000002 ∷ Saw (Answered 0) ∷ []
unfolding machine small stalled shows reply next finished goes wents goes_on
timed_wait_expires = refl

-- that an owner has ended is told also to a wait that has expired
timed_wait_meets_owner_death :
    shows (Call 2 (Lock 1) ∷ Call 2 (TimedWait 1 1 3) ∷ Call 1 (Lock 1) ∷ Do (End 1) ∷ Word 1 ∷ Do (Tick 3) ∷ Finish 2
    ∷ Word 1 ∷ []) robust
    ≡ Saw (Answered 0) ∷ Saw Waits ∷ Saw (Answered 0) ∷ Saw Ended ∷ Bits 0x40000000 ∷ Saw Ticked ∷ Saw (Answered 130)
    ∷ Bits 0x00000002 ∷ []
unfolding machine small robust shows reply next finished goes_on
timed_wait_meets_owner_death = refl

-- who locks its own NORMAL mutex waits until its deadline, and holds it as before
timed_relock_of_own_normal_mutex :
    shows (Call 1 (Lock 1) ∷ Do (Begin 1 (TimedLock 1 2)) ∷ Do (Go 1) ∷ Do (Go 1) ∷ Do (Tick 2) ∷ Do (Go 1)
    ∷ Call 1 (Unlock 1) ∷ []) stalled
    ≡ Saw (Answered 0) ∷ Saw Begun ∷ Saw Went ∷ Saw Waits ∷ Saw Ticked ∷ Saw (Answered 110) ∷ Saw (Answered 0) ∷ []
unfolding machine small stalled shows reply next finished goes_on
timed_relock_of_own_normal_mutex = refl

-- of a robust mutex a step follows the expiry, which clears the pending field
timed_relock_of_own_robust_mutex :
    shows (Call 1 (Lock 1) ∷ Do (Begin 1 (TimedLock 1 2)) ∷ Do (Go 1) ∷ Do (Go 1) ∷ Do (Tick 2) ∷ Do (Go 1) ∷ Do (Go 1)
    ∷ Word 1 ∷ Call 1 (Unlock 1) ∷ Word 1 ∷ []) robust
    ≡ Saw (Answered 0) ∷ Saw Begun ∷ Saw Went ∷ Saw Waits ∷ Saw Ticked ∷ Saw Went ∷ Saw (Answered 110)
    ∷ Bits 0x00000001 ∷ Saw (Answered 0) ∷ Bits 0x00000000 ∷ []
unfolding machine small robust shows reply next finished goes_on
timed_relock_of_own_robust_mutex = refl

queued_on_robust_mutex_expires :
    shows (Call 1 (Lock 1) ∷ Call 2 (TimedLock 1 2) ∷ Do (Tick 2) ∷ Do (Go 2) ∷ Do (Go 2) ∷ Word 1 ∷ []) robust
    ≡ Saw (Answered 0) ∷ Saw Waits ∷ Saw Ticked ∷ Saw Went ∷ Saw (Answered 110) ∷ Bits 0x80000001 ∷ []
unfolding machine small robust shows reply next finished goes_on
queued_on_robust_mutex_expires = refl

-- a wait with a robust mutex that nobody holds takes it after its expiry
wait_with_robust_mutex_expires :
    shows (Call 2 (Lock 1) ∷ Call 2 (TimedWait 1 1 3) ∷ Do (Tick 3) ∷ goes 2 5 ++ Do (Go 2) ∷ Word 1 ∷ []) robust
    ≡ Saw (Answered 0) ∷ Saw Waits ∷ Saw Ticked ∷ wents 5 ++ Saw (Answered 110) ∷ Bits 0x00000002 ∷ []
unfolding machine small robust shows reply next finished goes wents goes_on
wait_with_robust_mutex_expires = refl

-- the open call is shown as it was made; it waits until it is due
due : Table
unfolding machine small stalled next finished goes_on
due = next (Do (Tick 3)) (next (Call 2 (TimedWait 1 1 3)) (next (Call 2 (Lock 1)) stalled))

timed_call_is_open : open_call_answer 2 due ≡ Some (TimedWait 1 1 3)
unfolding machine small stalled due next finished goes_on
timed_call_is_open = refl

due_does_not_wait : waiting_answer 2 due ≡ Some false
unfolding machine small stalled due next finished goes_on
due_does_not_wait = refl
