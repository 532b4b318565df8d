-- Worked examples of robust mutexes and of threads that end, computed on the definitions themselves: what a core is
-- asked, and what it shows.
use Rattle.std.proofs.Common.{◌≡◌, ℕ, true, false, [], ◌∷◌, ◌++◌, refl}
use Rattle.pif_types.specs.declared.requests.Kind.TheVariants.{Normal, Recursive}
use Rattle.pif_types.specs.declared.requests.Request.TheVariants.{Lock, TryLock, Unlock, Consistent}
use Rattle.pif_model.specs.declared.events.Event.TheVariants.{Begin, Go, End}
use Rattle.pif_model.specs.declared.events.Seen.TheVariants.{Begun, Waits, Answered, Ended}
use Rattle.pif_model.specs.Word.{bits_of, word_of, word_at, set_word}
use Rattle.pif_model.specs.Table.{Table, thread_added, mutex_added}
use Rattle.pif_model.specs.PiKernel.{after_exit}
use Rattle.pif_model.specs.Lines.{goes_on}
use Rattle.pif_model.proofs.Worked.{machine, small}
use Rattle.pif_model.proofs.Asked.{shows, reply, next, finished, goes, wents}
use Rattle.pif_model.proofs.Asked.Ask.{Do, Call, Finish, Word, Health, Priority}
use Rattle.pif_model.proofs.Asked.Shown.{Saw, Bits, HealthWord, Effective}

-- three threads of priority 10, and a robust mutex
robust : Table
unfolding machine small
robust = mutex_added Normal true (thread_added 10 (thread_added 10 (thread_added 10 small)))

-- the next owner is told once that the last one ended
owner_death_is_reported_once :
    shows (Call 1 (Lock 1) ∷ Do (End 1) ∷ Word 1 ∷ Call 2 (Lock 1) ∷ Word 1 ∷ Health 1
    ∷ Call 2 (Consistent 1) ∷ Health 1 ∷ Call 2 (Unlock 1) ∷ Word 1 ∷ []) robust
    ≡ Saw (Answered 0) ∷ Saw Ended ∷ Bits 0x40000000 ∷ Saw (Answered 130) ∷ Bits 0x00000002 ∷ HealthWord 1
    ∷ Saw (Answered 0) ∷ HealthWord 0 ∷ Saw (Answered 0) ∷ Bits 0x00000000 ∷ []
unfolding machine small robust shows reply next finished goes_on
owner_death_is_reported_once = refl

-- threads of priority 10, 20 and 20, and a robust mutex
ranked : Table
unfolding machine small
ranked = mutex_added Normal true (thread_added 20 (thread_added 20 (thread_added 10 small)))

-- who unlocks a mutex that it wasn't made consistent leaves it unusable for good
unlock_while_inconsistent_makes_unusable :
    shows (Call 1 (Lock 1) ∷ Call 2 (Lock 1) ∷ Call 3 (Lock 1) ∷ Do (End 1) ∷ Word 1 ∷ Finish 2 ∷ Word 1
    ∷ Call 2 (Unlock 1) ∷ Word 1 ∷ Finish 3 ∷ Word 1 ∷ Call 2 (TryLock 1) ∷ Call 2 (Lock 1) ∷ Health 1 ∷ []) ranked
    ≡ Saw (Answered 0) ∷ Saw Waits ∷ Saw Waits ∷ Saw Ended ∷ Bits 0xc0000002 ∷ Saw (Answered 130) ∷ Bits 0x80000002
    ∷ Saw (Answered 0) ∷ Bits 0x80000003 ∷ Saw (Answered 131) ∷ Bits 0x00000000 ∷ Saw (Answered 131)
    ∷ Saw (Answered 131) ∷ HealthWord 2 ∷ []
unfolding machine small ranked shows reply next finished goes_on
unlock_while_inconsistent_makes_unusable = refl

-- a word that was taken, and is on no list yet, passes on by the pending field
death_between_taking_and_linking :
    shows (Do (Begin 1 (Lock 1)) ∷ goes 1 3 ++ Word 1 ∷ Do (End 1) ∷ Word 1 ∷ Call 2 (Lock 1) ∷ []) robust
    ≡ Saw Begun ∷ wents 3 ++ Bits 0x00000001 ∷ Saw Ended ∷ Bits 0x40000000 ∷ Saw (Answered 130) ∷ []
unfolding machine small robust shows reply next finished goes wents goes_on
death_between_taking_and_linking = refl

-- a mutex that is off the list, and not released yet, passes on; one that was released doesn't
death_inside_unlock :
    shows (Call 1 (Lock 1) ∷ Do (Begin 1 (Unlock 1)) ∷ goes 1 4 ++ Do (End 1) ∷ Word 1 ∷ Call 2 (Lock 1) ∷ []) robust
    ≡ Saw (Answered 0) ∷ Saw Begun ∷ wents 4 ++ Saw Ended ∷ Bits 0x40000000 ∷ Saw (Answered 130) ∷ []
unfolding machine small robust shows reply next finished goes wents goes_on
death_inside_unlock = refl

death_after_release :
    shows (Call 1 (Lock 1) ∷ Do (Begin 1 (Unlock 1)) ∷ goes 1 5 ++ Do (End 1) ∷ Word 1 ∷ Call 2 (Lock 1) ∷ []) robust
    ≡ Saw (Answered 0) ∷ Saw Begun ∷ wents 5 ++ Saw Ended ∷ Bits 0x00000000 ∷ Saw (Answered 0) ∷ []
unfolding machine small robust shows reply next finished goes wents goes_on
death_after_release = refl

-- three threads of priority 10, and a stalled mutex
stalled : Table
unfolding machine small
stalled = mutex_added Normal false (thread_added 10 (thread_added 10 (thread_added 10 small)))

-- a stalled mutex keeps its owner that ended, and who waits for it waits for good
stalled_mutex_stays_lost :
    shows (Call 1 (Lock 1) ∷ Call 2 (Lock 1) ∷ Do (End 1) ∷ Word 1 ∷ Finish 2 ∷ Call 3 (TryLock 1) ∷ Call 3 (Unlock 1)
    ∷ Call 3 (Lock 1) ∷ []) stalled
    ≡ Saw (Answered 0) ∷ Saw Waits ∷ Saw Ended ∷ Bits 0x80000001 ∷ Saw Waits ∷ Saw (Answered 16) ∷ Saw (Answered 1)
    ∷ Saw Waits ∷ []
unfolding machine small stalled shows reply next finished goes_on
stalled_mutex_stays_lost = refl

-- the word of m1 after exit of t1 with m1 on its list, if the word was this and nobody was queued
exit_word : ℕ → ℕ
exit_word bits =
    bits_of (word_at (after_exit 1 (1 ∷ []) (set_word stalled.words 1 (word_of bits)) stalled.kernel).words 1)

exit_leaves_words_of_others : exit_word 0x00000002 ≡ 0x00000002
unfolding machine small stalled exit_word
exit_leaves_words_of_others = refl

exit_marks_words_of_its_own : exit_word 0xc0000001 ≡ 0xc0000000
unfolding machine small stalled exit_word
exit_marks_words_of_its_own = refl

-- a thread that ends while it links what it took leaves it to the next owner, after any step of linking
death_while_linking :
    shows (Do (Begin 1 (Lock 1)) ∷ goes 1 4 ++ Do (End 1) ∷ Word 1 ∷ Call 2 (Lock 1) ∷ []) robust
    ≡ Saw Begun ∷ wents 4 ++ Saw Ended ∷ Bits 0x40000000 ∷ Saw (Answered 130) ∷ []
unfolding machine small robust shows reply next finished goes wents goes_on
death_while_linking = refl

death_with_half_a_link :
    shows (Do (Begin 1 (Lock 1)) ∷ goes 1 5 ++ Do (End 1) ∷ Word 1 ∷ Call 2 (Lock 1) ∷ []) robust
    ≡ Saw Begun ∷ wents 5 ++ Saw Ended ∷ Bits 0x40000000 ∷ Saw (Answered 130) ∷ []
unfolding machine small robust shows reply next finished goes wents goes_on
death_with_half_a_link = refl

death_after_linking :
    shows (Do (Begin 1 (Lock 1)) ∷ goes 1 6 ++ Do (End 1) ∷ Word 1 ∷ Call 2 (Lock 1) ∷ []) robust
    ≡ Saw Begun ∷ wents 6 ++ Saw Ended ∷ Bits 0x40000000 ∷ Saw (Answered 130) ∷ []
unfolding machine small robust shows reply next finished goes wents goes_on
death_after_linking = refl

-- a thread that ends before it notices that it was handed the mutex leaves it to the next waiter
death_after_hand_over :
    shows (Call 1 (Lock 1) ∷ Call 2 (Lock 1) ∷ Call 3 (Lock 1) ∷ Call 1 (Unlock 1) ∷ Word 1 ∷ Do (End 2) ∷ Word 1
    ∷ Finish 3 ∷ Word 1 ∷ Health 1 ∷ []) ranked
    ≡ Saw (Answered 0) ∷ Saw Waits ∷ Saw Waits ∷ Saw (Answered 0) ∷ Bits 0x80000002 ∷ Saw Ended ∷ Bits 0xc0000003
    ∷ Saw (Answered 130) ∷ Bits 0x80000003 ∷ HealthWord 1 ∷ []
unfolding machine small ranked shows reply next finished goes_on
death_after_hand_over = refl

-- a thread that ends while it leaves an unusable mutex leaves it unusable
death_while_leaving_unusable :
    shows (Call 1 (Lock 1) ∷ Do (End 1) ∷ Call 2 (Lock 1) ∷ Call 2 (Unlock 1) ∷ Do (Begin 2 (Lock 1)) ∷ goes 2 4
    ++ Word 1 ∷ Do (End 2) ∷ Word 1 ∷ Call 3 (Lock 1) ∷ Word 1 ∷ Health 1 ∷ []) robust
    ≡ Saw (Answered 0) ∷ Saw Ended ∷ Saw (Answered 130) ∷ Saw (Answered 0) ∷ Saw Begun ∷ wents 4
    ++ Bits 0x00000002 ∷ Saw Ended ∷ Bits 0x40000000 ∷ Saw (Answered 131) ∷ Bits 0x00000000 ∷ HealthWord 2 ∷ []
unfolding machine small robust shows reply next finished goes wents goes_on
death_while_leaving_unusable = refl

-- threads of priority 10 and 50, and a stalled mutex
boosting : Table
unfolding machine small
boosting = mutex_added Normal false (thread_added 50 (thread_added 10 small))

-- a waiter that ends boosts nobody any more
death_of_a_waiter_ends_its_boost :
    shows (Call 1 (Lock 1) ∷ Call 2 (Lock 1) ∷ Priority 1 ∷ Do (End 2) ∷ Priority 1 ∷ Word 1 ∷ Call 1 (Unlock 1)
    ∷ Word 1 ∷ []) boosting
    ≡ Saw (Answered 0) ∷ Saw Waits ∷ Effective 50 ∷ Saw Ended ∷ Effective 10 ∷ Bits 0x80000001 ∷ Saw (Answered 0)
    ∷ Bits 0x00000000 ∷ []
unfolding machine small boosting shows reply next finished goes_on
death_of_a_waiter_ends_its_boost = refl

-- the step after a robust mutex was handed over is its load
step_after_hand_over_is_a_load :
    shows (Call 1 (Lock 1) ∷ Call 2 (Lock 1) ∷ Call 1 (Unlock 1) ∷ goes 2 4 ++ Do (Go 2) ∷ []) robust
    ≡ Saw (Answered 0) ∷ Saw Waits ∷ Saw (Answered 0) ∷ wents 4 ++ Saw (Answered 0) ∷ []
unfolding machine small robust shows reply next finished goes wents goes_on
step_after_hand_over_is_a_load = refl

-- two threads of priority 10, and a robust RECURSIVE mutex
recursive : Table
unfolding machine small
recursive = mutex_added Recursive true (thread_added 10 (thread_added 10 small))

-- how often an owner held a mutex ends with it: the next owner unlocks it at once
hold_count_ends_with_its_owner :
    shows (Call 1 (Lock 1) ∷ Call 1 (Lock 1) ∷ Call 1 (Lock 1) ∷ Do (End 1) ∷ Call 2 (Lock 1) ∷ Call 2 (Unlock 1)
    ∷ Word 1 ∷ Health 1 ∷ []) recursive
    ≡ Saw (Answered 0) ∷ Saw (Answered 0) ∷ Saw (Answered 0) ∷ Saw Ended ∷ Saw (Answered 130) ∷ Saw (Answered 0)
    ∷ Bits 0x00000000 ∷ HealthWord 2 ∷ []
unfolding machine small recursive shows reply next finished goes_on
hold_count_ends_with_its_owner = refl
