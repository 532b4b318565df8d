-- Worked examples: what the table of calls comes to, for a call of each list of parameters.
use Rattle.std.proofs.Common.{◌≡◌, ℕ, [], ◌∷◌, ◌++◌, Some, None, refl, ap, append-nil, codes, decimal}
use Rattle.pif_types.specs.declared.requests.Request.TheVariants.{Lock, Wait, Signal, SetPrio, TimedLock, TimedWait}
use Rattle.pif_text_model.specs.Calls.{call_named, request_with}
use Rattle.pif_text_model.specs.Commands.{request_in, with_argument, with_arguments}
use Rattle.pif_text_model.specs.CommandTexts.{request_text}
use Rattle.pif_text_model.specs.Numbers.{cond_in, mutex_in, number_in, thread_in}
use Rattle.pif_text_model.specs.Replies.{cond_name, mutex_name, thread_name}

-- ---- how they are written

lock-written : (m : ℕ) → request_text (Lock m) ≡ codes "lock " ++ mutex_name m
unfolding request_text
lock-written m = ap (λ l. codes "lock " ++ l) (append-nil (mutex_name m))

signal-written : (c : ℕ) → request_text (Signal c) ≡ codes "signal " ++ cond_name c
unfolding request_text
signal-written c = ap (λ l. codes "signal " ++ l) (append-nil (cond_name c))

wait-written : (c m : ℕ) → request_text (Wait c m) ≡ codes "wait " ++ (cond_name c ++ (codes " " ++ mutex_name m))
unfolding request_text
wait-written c m = ap (λ l. codes "wait " ++ (cond_name c ++ (codes " " ++ l))) (append-nil (mutex_name m))

set_priority-written : (t p : ℕ)
    → request_text (SetPrio t p) ≡ codes "setprio " ++ (thread_name t ++ (codes " " ++ decimal p))
unfolding request_text
set_priority-written t p = ap (λ l. codes "setprio " ++ (thread_name t ++ (codes " " ++ l))) (append-nil (decimal p))

timed_lock-written : (m d : ℕ)
    → request_text (TimedLock m d) ≡ codes "timedlock " ++ (mutex_name m ++ (codes " " ++ decimal d))
unfolding request_text
timed_lock-written m d = ap (λ l. codes "timedlock " ++ (mutex_name m ++ (codes " " ++ l))) (append-nil (decimal d))

timed_wait-written : (c m d : ℕ)
    → request_text (TimedWait c m d)
    ≡ codes "timedwait " ++ (cond_name c ++ (codes " " ++ (mutex_name m ++ (codes " " ++ decimal d))))
unfolding request_text
timed_wait-written c m d =
    ap (λ l. codes "timedwait " ++ (cond_name c ++ (codes " " ++ (mutex_name m ++ (codes " " ++ l)))))
    (append-nil (decimal d))

-- ---- how they are read

lock-read : request_in (codes "lock" ∷ codes "m3" ∷ []) ≡ Some (Lock 3)
unfolding request_in call_named with_arguments with_argument request_with mutex_in number_in
lock-read = refl

timed_wait-read : request_in (codes "timedwait" ∷ codes "c1" ∷ codes "m2" ∷ codes "7" ∷ []) ≡ Some (TimedWait 1 2 7)
unfolding request_in call_named with_arguments with_argument request_with cond_in mutex_in number_in
timed_wait-read = refl

set_priority-read : request_in (codes "setprio" ∷ codes "t2" ∷ codes "10" ∷ []) ≡ Some (SetPrio 2 10)
unfolding request_in call_named with_arguments with_argument request_with thread_in number_in
set_priority-read = refl

-- a word too few, a word too many, and a name of another kind
lock_of_none-refused : request_in (codes "lock" ∷ []) ≡ None
unfolding request_in call_named with_arguments
lock_of_none-refused = refl

lock_of_two-refused : request_in (codes "lock" ∷ codes "m1" ∷ codes "m2" ∷ []) ≡ None
unfolding request_in call_named with_arguments with_argument mutex_in number_in
lock_of_two-refused = refl

lock_of_thread-refused : request_in (codes "lock" ∷ codes "t1" ∷ []) ≡ None
unfolding request_in call_named with_arguments with_argument mutex_in
lock_of_thread-refused = refl
