-- How long a call goes on: each step that is answered Went leaves it at a place of lower rank, so of any 24 steps of
-- one thread with nothing between one ends the call or waits. It holds of any table, sound or not.
use Rattle.std.proofs.Common.{Bool, false, ◌≡◌, ◌≢◌, ◌⊎◌, inl, inr, ◌<◌, ◌≤◌, ℕ, zero, suc, ◌+◌, ◌-◌, true, ◌==◌, length, Result, Ok, Err, Option, Some, None, refl, sym, ap, ◌∙◌, subst, if◌then◌else◌, arith, min, eq-eqb}
use Rattle.std.proofs.lemmas.Bool.{cases_lt, cases_eq, true≢false}
use Rattle.std.proofs.lemmas.List.{get_or-set_same, get_or_past}
use Rattle.pif_types.specs.declared.errors.Errno.{Errno}
use Rattle.pif_types.specs.declared.errors.Errno.TheVariants.{NoSuchThread, Deadlock, Again, Fault, Invalid}
use Rattle.pif_types.specs.declared.errors.Refusal.{Refusal}
use Rattle.pif_types.specs.declared.requests.Request.{Request}
use Rattle.pif_types.specs.declared.requests.Request.TheVariants.{Lock, TryLock, Unlock, Consistent, Wait, Signal, Broadcast, SetPrio}
use Rattle.pif_model.specs.declared.events.Event.TheVariants.{Go}
use Rattle.pif_model.specs.declared.events.Seen.{Seen}
use Rattle.pif_model.specs.declared.events.Seen.TheVariants.{Went, Answered, Refused}
use Rattle.pif_model.specs.declared.lines.Line.{Line}
use Rattle.pif_model.specs.declared.lines.Line.TheVariants.{Idle, At}
use Rattle.pif_model.specs.declared.lines.Place.{Place}
use Rattle.pif_model.specs.declared.lines.Place.TheVariants.{Load, NamePending, Exchange, CallKernel, StayQueued, Stop, StayStopped, Take, Link, Give, Clear, LoadUses, Park, StayParked, Repair, Wake, SetPriority}
use Rattle.pif_model.specs.declared.lines.TakeStep.{TakeStep}
use Rattle.pif_model.specs.declared.lines.TakeStep.TheVariants.{LoadWord, LoadHealth, StoreInconsistent, ClearDied}
use Rattle.pif_model.specs.declared.lines.LinkStep.{LinkStep}
use Rattle.pif_model.specs.declared.lines.LinkStep.TheVariants.{WriteNext, WriteHead}
use Rattle.pif_model.specs.declared.lines.GiveStep.{GiveStep}
use Rattle.pif_model.specs.declared.lines.GiveStep.TheVariants.{SetPending, SeeHealth, StoreUnusable, Unlink, Release, CallUnlock}
use Rattle.pif_model.specs.declared.lines.Purpose.{Purpose}
use Rattle.pif_model.specs.declared.lines.Purpose.TheVariants.{ToUnlock, ToPark, ToLeave}
use Rattle.pif_model.specs.declared.lines.Footing.TheVariants.{Linked, Unowned, HadStopped}
use Rattle.pif_model.specs.declared.lines.RepairStep.{RepairStep}
use Rattle.pif_model.specs.declared.lines.RepairStep.TheVariants.{CheckHealth, StoreFine}
use Rattle.pif_model.specs.declared.lines.WakeStep.{WakeStep}
use Rattle.pif_model.specs.declared.lines.WakeStep.TheVariants.{ReadUses, CountUse, Requeue, ReadAgain}
use Rattle.pif_model.specs.declared.lines.Took.{Took}
use Rattle.pif_model.specs.declared.lines.Took.TheVariants.{Owns as TookOwns, Queued as TookQueued}
use Rattle.pif_model.specs.Refusals.{go_refused}
use Rattle.pif_model.specs.Word.{free_word, held_by, word_at, has_word, has_cond_word}
use Rattle.pif_model.specs.Posix.{variable_of}
use Rattle.pif_model.specs.PiKernel.{Kernel, Seat, seat_at, has_seat, has_ended, state_at, next_in, is_living, lock_answer, words_after_lock, kernel_after_lock, try_lock_answer, words_after_try_lock, unlock_answer, words_after_unlock, kernel_after_unlock, kernel_after_hand_over, set_prio_answer, has_parked, parked_count, has_other_target, fits_state, wait_requeue_answer, kernel_after_wait_requeue, requeue_answer, after_requeue}
use Rattle.pif_model.specs.Table.{Table, cell_at, line_at, has_thread, bound_to, uses_of, with_line, with_word, with_cond_word, with_count, with_kernel, status_at, timer_at, with_timer}
use Rattle.pif_model.specs.Lines.{Outcome, goes_to, answers, ends_by, relocks, own_exchange, lock_load, lock_by, lock_kernel, lock_queued, lock_stop, take_load, take_health, take_line, link_line, clears, given_up, give_health, give_exchange, given_up_by, gives_up, give_line, try_load, try_by, try_kernel, unlock_load, consistent_load, consistent_health, repair_line, answered_by, set_priority, wait_load, wait_uses, wait_by, wait_park, wait_parked, use_read, use_exchange, more_in, use_by, use_requeue, giving_line, shared_line, locking_line, use_line, line_of, go_outcome, is_open, table_refusal, accepted_outcome, by_refusal, event_outcome, goes_on, ClosesOrWaits, counts_at, expired_in, expires_at, reported_outcome}
use Rattle.pif_model.specs.Deadlines.{ran_out, is_reached, reported_result, reported_seen}
use Rattle.pif_model_lemmas.proofs.kernel.Facts.{living-added}
use Rattle.pif_model_lemmas.proofs.kernel.Places.{handed_has, handed_seat_same, handed_seat_other}
use Rattle.pif_model_lemmas.proofs.kernel.LineCases.{ends_by_cases, locked_again_cases, own_exchange_cases, lock_load_cases, lock_queued_cases, take_health_cases, give_health_cases, give_exchange_cases, try_load_cases, unlock_load_cases, consistent_load_cases, consistent_health_cases, wait_load_cases, wait_uses_cases, wait_parked_cases, use_read_cases, answered_by_cases}
use Rattle.pif_model_lemmas.proofs.Waiting.{by_test}
use Rattle.pif_model_simulation.proofs.Shown.{go_allowed}
use Rattle.pif_model_lemmas.proofs.kernel.Expired.{living-expired_same}

-- how many steps at most a call may still go on, by its step
abbrev take_rank : TakeStep → ℕ
take_rank LoadWord = 6
take_rank (LoadHealth d) = 5
take_rank StoreInconsistent = 4
take_rank ClearDied = 3

abbrev link_rank : LinkStep → ℕ
link_rank WriteNext = 2
link_rank WriteHead = 1

abbrev give_rank : GiveStep → ℕ
give_rank SetPending = 6
give_rank SeeHealth = 5
give_rank StoreUnusable = 4
give_rank Unlink = 3
give_rank Release = 2
give_rank CallUnlock = 1

-- and after it has given its mutex up
abbrev rank_after : Purpose → ℕ
rank_after (ToPark v) = 9
rank_after _ = 0

abbrev repair_rank : RepairStep → ℕ
repair_rank CheckHealth = 1
repair_rank StoreFine = 0

abbrev wake_rank : WakeStep → ℕ
wake_rank ReadUses = 5
wake_rank ReadAgain = 2
wake_rank _ = 0

-- how many steps at most a call at this place may still go on
abbrev rank : Place → ℕ
rank Load = 17
rank NamePending = 9
rank Exchange = 8
rank CallKernel = 7
rank StayQueued = 6
rank StayStopped = 1
rank (Take x) = take_rank x
rank (Link x a) = link_rank x
rank (Give x y) = give_rank x + rank_after y
rank LoadUses = 16
rank (Park v) = 9
rank StayParked = 9
rank (Repair x) = repair_rank x
rank (Wake x) = wake_rank x
rank _ = 0

-- if it has read a condition word, by whether that is still what it was
abbrev rank_in : Table → Request → Place → ℕ
rank_in s q (Wake (CountUse v)) = if uses_of s (variable_of q) == v then 4 else 5
rank_in s q (Wake (Requeue v)) = if uses_of s (variable_of q) == v then 1 else 3
rank_in s q p = rank p

-- and at this line
abbrev line_rank : Table → Line → ℕ
line_rank s Idle = 0
line_rank s (At q p) = rank_in s q p

-- either of two numbers
of_two : (b : Bool) (i j n : ℕ) → i ≤ n → j ≤ n → (if b then i else j) ≤ n
of_two true i j n a b = a
of_two false i j n a b = b

-- no rank is above 23
low_take : (x : TakeStep) → take_rank x ≤ 23
low_take LoadWord = omega arith
low_take (LoadHealth d) = omega arith
low_take StoreInconsistent = omega arith
low_take ClearDied = omega arith

low_give : (x : GiveStep) → give_rank x ≤ 6
low_give SetPending = omega arith
low_give SeeHealth = omega arith
low_give StoreUnusable = omega arith
low_give Unlink = omega arith
low_give Release = omega arith
low_give CallUnlock = omega arith

low_after : (y : Purpose) → rank_after y ≤ 9
low_after ToUnlock = omega arith
low_after (ToPark v) = omega arith
low_after ToLeave = omega arith

low_wake : (x : WakeStep) → wake_rank x ≤ 23
low_wake ReadUses = omega arith
low_wake (CountUse v) = omega arith
low_wake (Requeue v) = omega arith
low_wake ReadAgain = omega arith

low_rank : (p : Place) → rank p ≤ 23
low_rank Load = omega arith
low_rank NamePending = omega arith
low_rank Exchange = omega arith
low_rank CallKernel = omega arith
low_rank StayQueued = omega arith
low_rank StayStopped = omega arith
low_rank (Take x) = low_take x
low_rank (Link WriteNext a) = omega arith
low_rank (Link WriteHead a) = omega arith
low_rank (Give x y) = omega (arith, low_give x, low_after y)
low_rank LoadUses = omega arith
low_rank (Park v) = omega arith
low_rank StayParked = omega arith
low_rank (Repair CheckHealth) = omega arith
low_rank (Repair StoreFine) = omega arith
low_rank (Wake x) = low_wake x
low_rank _ = omega arith

low_rank_in : (s : Table) (q : Request) (p : Place) → rank_in s q p ≤ 23
low_rank_in s q (Wake (CountUse v)) = of_two (uses_of s (variable_of q) == v) 4 5 23 (omega arith) (omega arith)
low_rank_in s q (Wake (Requeue v)) = of_two (uses_of s (variable_of q) == v) 1 3 23 (omega arith) (omega arith)
low_rank_in s q p = low_rank p

-- and none at a line
low_line : (s : Table) (l : Line) → line_rank s l ≤ 23
low_line s Idle = omega arith
low_line s (At q p) = low_rank_in s q p

-- an answer that closes the call or waits is not Went
ends-not_went : (x : Seen) → ClosesOrWaits x → x ≢ Went
ends-not_went x (inl e) h = cc
ends-not_went x (inr e) h = absurd (answered_not_went e.0 (sym e.1 ∙ h))
  where
    answered_not_went : (a : ℕ) → Answered a ≢ Went
    answered_not_went a h = absurd cc

-- a refusal is not Went
refused_not_went : (r : Refusal) → Refused r ≢ Went
refused_not_went r h = absurd cc

-- what a step of t leaves: it ends or waits, or its call is open at a line of lower rank
data Turns (t n : ℕ) (o : Outcome) : Type 0 where
  ends : ClosesOrWaits o.seen → Turns t n o
  goes : o.seen ≡ Went → is_living o.after.kernel t ≡ true → is_open (line_at o.after t) ≡ true
      → line_rank o.after (line_at o.after t) < n → Turns t n o

-- a line that is open is one of those that there are
lined : (s : Table) (t : ℕ) → is_open (line_at s t) ≡ true → t < length s.lines
lined s t e = go (cases_lt t (length s.lines))
  where
    go : (t < length s.lines) ⊎ (length s.lines ≤ t) → t < length s.lines
    go (inl l) = l
    go (inr m) = absurd (true≢false (sym e ∙ ap is_open (get_or_past s.lines t Idle m)))

-- to go on at a place of lower rank
goes-turns : (s : Table) (t : ℕ) → is_living s.kernel t ≡ true → t < length s.lines
    → (n : ℕ) (q : Request) (p : Place) → rank_in s q p < n
    → Turns t n (goes_to t q p s)
goes-turns s t known l n q p less = goes refl known (ap is_open here) (subst (λ k. line_rank s k < n) (sym here) less)
  where
    here : line_at (with_line t (At q p) s) t ≡ At q p
    here = get_or-set_same s.lines t (At q p) Idle l

-- to answer ends the call
answers-turns : (n t a : ℕ) (s : Table) → Turns t n (answers t a s)
answers-turns n t a s = ends (inr (a, refl))

-- and so does what a kernel call answers
answered_by-turns : (n t : ℕ) (r : Result (record {}) Errno) (s : Table) → Turns t n (answered_by r t s)
answered_by-turns n t r s = answered_by_cases (Turns t n) r t s (λ a. answers-turns n t a s)

-- a lock or a trylock by the owner of a RECURSIVE mutex ends
locked_again-turns : (n t m : ℕ) (s : Table) → Turns t n (relocks t m s)
locked_again-turns n t m s = locked_again_cases (Turns t n) t m s
    (λ e. answers-turns n t 0 (with_count m ((cell_at s m).count + 1) s)) (λ e. answers-turns n t 11 s)

-- who lives, lives after a mutex was handed over
lives-handed : (k : Kernel) (u m t : ℕ) → is_living k t ≡ true → is_living (kernel_after_hand_over u m k) t ≡ true
lives-handed k u m t l =
    (λ i. if handed_has u m k t i then (if has_ended (seat_at (kernel_after_hand_over u m k) t).status then false
    else true) else false)
    ∙ by_seat (cases_eq t u)
  where
    added : has_seat k t ≡ true
    added = living-added k t l

    by_seat : (t ≡ u) ⊎ (t ≢ u) → (if has_seat k t then (if has_ended
        (seat_at (kernel_after_hand_over u m k) t).status then false else true) else false) ≡ true
    by_seat (inl e) = rw (
      added,
      ap (λ j. (seat_at (kernel_after_hand_over u m k) j).status) e
          ∙ ap (λ (x : Seat). x.status) (handed_seat_same u m k (ap (has_seat k) (sym e) ∙ added)),
    ) refl
    by_seat (inr d) = ap (λ (x : Seat). if has_seat k t then (if has_ended x.status then false else true) else false)
        (handed_seat_other u m k t d) ∙ l

module _ (s : Table) (t m : ℕ) (known : is_living s.kernel t ≡ true) (l : t < length s.lines) where
  -- a call that goes on for a robust mutex, and answers for a stalled one
  ends_by-turns : (n : ℕ) (q : Request) (p : Place) (a : ℕ) → rank_in s q p < n → Turns t n (ends_by t q m p a s)
  ends_by-turns n q p a less = ends_by_cases (Turns t n) q p a t m s (λ r. goes-turns s t known l n q p less)
      (λ r. answers-turns n t a s)

  -- a mutex was given up
  given_up-turns : (n : ℕ) (q : Request) (y : Purpose) → rank_after y < n → Turns t n (given_up q y t m s)
  given_up-turns n q ToUnlock less = ends_by-turns n q (Clear Unowned 0) 0 less
  given_up-turns n q (ToPark v) less = goes-turns s t known l n q (Park v) less
  given_up-turns n q ToLeave less = goes-turns s t known l n q (Clear Unowned 131) less

module _ (s : Table) (t m : ℕ) (known : is_living s.kernel t ≡ true) (l : t < length s.lines) where
  -- lock and trylock: compare-exchange from 0 to t
  own_exchange-turns : (n : ℕ) (q : Request) → 7 < n → Turns t n (own_exchange q t m s)
  own_exchange-turns n q more = own_exchange_cases (Turns t n) q t m s
      (λ d free r. goes-turns (with_word m (held_by t) s) t known l n q (Take (LoadHealth false)) (omega arith))
      (λ d free r. answers-turns n t 0 (with_word m (held_by t) s)) (goes-turns s t known l n q CallKernel more)

  -- lock: load the word
  lock_load-turns : Turns t 17 (lock_load (Lock m) t m s)
  lock_load-turns = lock_load_cases (Turns t 17) (Lock m) t m s
      (λ own kind. goes-turns s t known l 17 (Lock m) Stop (omega arith)) (λ own kind. answers-turns 17 t 35 s)
      (λ own kind. locked_again-turns 17 t m s) (λ other r. goes-turns s t known l 17 (Lock m) NamePending
      (omega arith))
      (λ other r. goes-turns s t known l 17 (Lock m) Exchange (omega arith))

  -- lock: the kernel call lock_pi
  lock_kernel-turns : (q : Request) → Turns t 7 (lock_kernel q t m s)
  unfolding lock_kernel lock_by kernel_after_lock
  lock_kernel-turns q = by_answer (lock_answer t m s.words s.kernel)
    where
      by_answer : (a : Result Took Errno) → Turns t 7 (lock_by a q t m
          (with_kernel (words_after_lock t m a s.words) (kernel_after_lock t m a s.words s.kernel) s))
      by_answer (Ok TookOwns) = ends_by-turns (with_kernel (words_after_lock t m (Ok TookOwns) s.words) s.kernel s) t
          m known l 7 q (Take LoadWord) 0 (omega arith)
      by_answer (Ok TookQueued) = ends (inl refl)
      by_answer (Err Deadlock) = ends_by-turns (with_kernel (words_after_lock t m (Err Deadlock) s.words) s.kernel s)
          t m known l 7 q (Clear Unowned 35) 35 (omega arith)
      by_answer (Err NoSuchThread) = goes-turns (with_kernel
          (words_after_lock t m (Err NoSuchThread) s.words) s.kernel s) t known l 7 q Stop (omega arith)
      by_answer (Err _) = ends (inr (_, refl))

  -- lock: queued, or made the owner
  lock_queued-turns : (n : ℕ) (q : Request) → 5 < n → Turns t n (lock_queued q t m s)
  lock_queued-turns n q more = lock_queued_cases (Turns t n) q t m s
      (λ e r. goes-turns s t known l n q (Take (LoadHealth (cell_at s m).word.died)) more)
      (λ e r. answers-turns n t 0 s) (λ e. ends (inl refl))

  -- lock: stop for good
  lock_stop-turns : (q : Request) → Turns t 0 (lock_stop q t s)
  unfolding lock_stop
  lock_stop-turns q = ends (inl refl)

  -- taking over: load the health word
  take_health-turns : (q : Request) (d : Bool) → Turns t 5 (take_health q d t m s)
  take_health-turns q d = take_health_cases (Turns t 5) q d t m s
      (λ e. goes-turns s t known l 5 q (Give Release ToLeave) (omega arith))
      (λ n e. goes-turns s t known l 5 q (Take StoreInconsistent) (omega arith))
      (λ n e. goes-turns s t known l 5 q (Link WriteNext 0) (omega arith))

  -- the kernel call unlock_pi
  gives_up-turns : (n : ℕ) (done : Table → Outcome) → ((v : Table) → is_living v.kernel t ≡ true → t < length v.lines
      → Turns t n (done v)) → Turns t n (gives_up t m done s)
  unfolding gives_up given_up_by kernel_after_unlock
  gives_up-turns n done turns = by_answer (unlock_answer t m s.words s.kernel)
    where
      by_answer : (a : Result (record {}) Errno) → Turns t n
          (given_up_by a t done (with_kernel (words_after_unlock m a s.kernel s.words)
          (kernel_after_unlock m a s.kernel) s))
      by_answer (Ok x) = turns (with_kernel (words_after_unlock m (Ok x) s.kernel s.words)
          (if state_at s.kernel m == 0 then s.kernel else kernel_after_hand_over (next_in s.kernel m) m s.kernel) s)
          (by_test (λ b. is_living (if b then s.kernel else kernel_after_hand_over (next_in s.kernel m) m s.kernel) t
          ≡ true) (state_at s.kernel m == 0)
          (λ e. known) (λ e. lives-handed s.kernel (next_in s.kernel m) m t known)) l
      by_answer (Err e) = ends (inr (_, refl))

  -- wait: load the word
  wait_load-turns : (c : ℕ) → Turns t 17 (wait_load c m t s)
  wait_load-turns c = wait_load_cases (Turns t 17) c m t s (λ b own more. answers-turns 17 t 22 s)
      (λ b own few. goes-turns s t known l 17 (Wait c m) LoadUses (omega arith)) (λ b other. answers-turns 17 t 1 s)
      (λ apart. answers-turns 17 t 22 s)

  -- wait: load the condition word
  wait_uses-turns : (c : ℕ) → Turns t 16 (wait_uses c m t s)
  wait_uses-turns c = wait_uses_cases (Turns t 16) c m t s
      (λ r. goes-turns s t known l 16 (Wait c m) (Give SetPending (ToPark (uses_of s c))) (omega arith))
      (λ r. goes-turns s t known l 16 (Wait c m) (Give Release (ToPark (uses_of s c))) (omega arith))

  -- giving up: load the health word
  give_health-turns : (q : Request) (y : Purpose) → Turns t (5 + rank_after y) (give_health q y t m s)
  give_health-turns q y = give_health_cases (Turns t (5 + rank_after y)) q y t m s
      (λ e. goes-turns s t known l (5 + rank_after y) q (Give StoreUnusable y) (omega arith))
      (λ e. goes-turns s t known l (5 + rank_after y) q (Give Unlink y) (omega arith))

  -- giving up: compare-exchange from t to 0
  give_exchange-turns : (q : Request) (y : Purpose) → Turns t (2 + rank_after y) (give_exchange q y t m s)
  give_exchange-turns q y = give_exchange_cases (Turns t (2 + rank_after y)) q y t m s
      (λ w. given_up-turns (with_word m free_word s) t m known l (2 + rank_after y) q y (omega arith))
      (goes-turns s t known l (2 + rank_after y) q (Give CallUnlock y) (omega arith))

  -- wait: the kernel call wait_requeue_pi
  wait_park-turns : (v c : ℕ) → Turns t 9 (wait_park v c m t s)
  unfolding wait_park wait_by kernel_after_wait_requeue
  wait_park-turns v c = by_answer (wait_requeue_answer c v m s.words)
    where
      by_answer : (a : Result (record {}) Errno) → Turns t 9
          (wait_by a c m t (with_kernel s.words (kernel_after_wait_requeue t c m a s.kernel) s))
      by_answer (Ok x) = ends (inl refl)
      by_answer (Err Again) = goes-turns s t known l 9 (Wait c m) Exchange (omega arith)
      by_answer (Err _) = ends (inr (_, refl))

  -- wait: parked, or woken since
  wait_parked-turns : (c : ℕ) → Turns t 9 (wait_parked c m t s)
  wait_parked-turns c = wait_parked_cases (Turns t 9) c m t s
      (λ e. own_exchange-turns 9 (Wait c m) (omega arith))
      (λ e. lock_queued-turns 9 (Wait c m) (omega arith))

  -- trylock: load the word
  try_load-turns : Turns t 17 (try_load t m s)
  try_load-turns = try_load_cases (Turns t 17) t m s
      (λ own kind. locked_again-turns 17 t m s) (λ own kind. answers-turns 17 t 16 s)
      (λ other r. goes-turns s t known l 17 (TryLock m) NamePending (omega arith))
      (λ other r. goes-turns s t known l 17 (TryLock m) Exchange (omega arith))

  -- trylock: the kernel call trylock_pi
  try_kernel-turns : Turns t 7 (try_kernel t m s)
  unfolding try_kernel try_by
  try_kernel-turns = by_answer (try_lock_answer t m s.words s.kernel)
    where
      by_answer : (a : Result (record {}) Errno) → Turns t 7
          (try_by a t m (with_kernel (words_after_try_lock t m a s.words) s.kernel s))
      by_answer (Ok x) = ends_by-turns (with_kernel (words_after_try_lock t m (Ok x) s.words) s.kernel s) t m known l
          7 (TryLock m) (Take LoadWord) 0 (omega arith)
      by_answer (Err Again) = ends_by-turns (with_kernel (words_after_try_lock t m (Err Again) s.words) s.kernel s) t
          m known l 7 (TryLock m) (Clear Unowned 16) 16 (omega arith)
      by_answer (Err _) = ends (inr (_, refl))

  -- unlock: load the word
  unlock_load-turns : Turns t 17 (unlock_load t m s)
  unlock_load-turns = unlock_load_cases (Turns t 17) t m s
      (λ own more. answers-turns 17 t 0 (with_count m ((cell_at s m).count - 1) s))
      (λ own few r. goes-turns s t known l 17 (Unlock m) (Give SetPending ToUnlock) (omega arith))
      (λ own few r. goes-turns s t known l 17 (Unlock m) (Give Release ToUnlock) (omega arith))
      (λ other. answers-turns 17 t 1 s)

  -- consistent: load the word
  consistent_load-turns : Turns t 17 (consistent_load t m s)
  consistent_load-turns = consistent_load_cases (Turns t 17) t m s
      (λ r own. goes-turns s t known l 17 (Consistent m) (Repair CheckHealth) (omega arith))
      (λ r other. answers-turns 17 t 1 s) (λ r. answers-turns 17 t 22 s)

  -- consistent: load the health word
  consistent_health-turns : Turns t 1 (consistent_health t m s)
  consistent_health-turns = consistent_health_cases (Turns t 1) t m s
      (λ e. goes-turns s t known l 1 (Consistent m) (Repair StoreFine) (omega arith)) (λ e. answers-turns 1 t 22 s)

-- each step of taking over ends the call, or leaves it at a place of lower rank
take-turns : (q : Request) (x : TakeStep) (t m : ℕ) (s : Table) → is_living s.kernel t ≡ true → t < length s.lines
    → Turns t (take_rank x) (take_line q x t m s)
unfolding take_line take_load
take-turns q LoadWord t m s k l = goes-turns s t k l 6 q (Take (LoadHealth (cell_at s m).word.died)) (omega arith)
take-turns q (LoadHealth d) t m s k l = take_health-turns s t m k l q d
take-turns q StoreInconsistent t m s k l = goes-turns _ t k l 4 q (Take ClearDied) (omega arith)
take-turns q ClearDied t m s k l = goes-turns _ t k l 3 q (Link WriteNext 130) (omega arith)

-- and each of putting the mutex on the list
link-turns : (q : Request) (x : LinkStep) (a t m : ℕ) (s : Table) → is_living s.kernel t ≡ true → t < length s.lines
    → Turns t (link_rank x) (link_line q x a t m s)
unfolding link_line
link-turns q WriteNext a t m s k l = goes-turns _ t k l 2 q (Link WriteHead a) (omega arith)
link-turns q WriteHead a t m s k l = goes-turns _ t k l 1 q (Clear Linked a) (omega arith)

-- and each of giving it up
give-turns : (q : Request) (x : GiveStep) (y : Purpose) (t m : ℕ) (s : Table) → is_living s.kernel t ≡ true
    → t < length s.lines → Turns t (give_rank x + rank_after y) (give_line q x y t m s)
unfolding give_line
give-turns q SetPending y t m s k l = goes-turns _ t k l (6 + rank_after y) q (Give SeeHealth y) (omega arith)
give-turns q SeeHealth y t m s k l = give_health-turns s t m k l q y
give-turns q StoreUnusable y t m s k l = goes-turns _ t k l (4 + rank_after y) q (Give Unlink y) (omega arith)
give-turns q Unlink y t m s k l = goes-turns _ t k l (3 + rank_after y) q (Give Release y) (omega arith)
give-turns q Release y t m s k l = give_exchange-turns s t m k l q y
give-turns q CallUnlock y t m s k l = gives_up-turns s t m k l (1 + rank_after y) (given_up q y t m)
    (λ v e b. given_up-turns v t m e b (1 + rank_after y) q y (omega arith))

-- each step of giving a mutex up, or of clearing the pending field
giving-turns : (q : Request) (p : Place) (t m : ℕ) (s : Table) → is_living s.kernel t ≡ true → t < length s.lines
    → Turns t (rank_in s q p) (giving_line q p t m s)
unfolding giving_line clears
giving-turns q (Give x y) t m s k l = give-turns q x y t m s k l
giving-turns q (Clear f a) t m s k l = ends (inr (a, refl))
giving-turns q p t m s k l = answers-turns (rank_in s q p) t 22 s

-- each step that all requests share which lock
shared-turns : (q : Request) (p : Place) (t m : ℕ) (s : Table) → is_living s.kernel t ≡ true → t < length s.lines
    → Turns t (rank_in s q p) (shared_line q p t m s)
unfolding shared_line
shared-turns q Exchange t m s k l = own_exchange-turns s t m k l 8 q (omega arith)
shared-turns q (Take x) t m s k l = take-turns q x t m s k l
shared-turns q (Link x a) t m s k l = link-turns q x a t m s k l
shared-turns q p t m s k l = giving-turns q p t m s k l

-- cmp_requeue_pi answers EAGAIN only if the condition word is another
changed_since : (c m more v : ℕ) (s : Table) → requeue_answer c m 1 more v s.words s.kernel ≡ Err Again
    → (uses_of s c == v) ≡ false
unfolding requeue_answer
changed_since c m more v s e = go (if has_cond_word s.words c then has_word s.words m else false) (uses_of s c == v)
    (has_other_target s.kernel c m) (has_parked s.kernel c)
    (fits_state (word_at s.words m).number (state_at s.kernel m) s.kernel)
    (min (parked_count s.kernel c) (more + 1)) e
  where
    go : (there same other some fits : Bool) (n : ℕ) → (if there then (if same then (if other then Err Invalid else
        (if some then (if fits then Ok n else Err Invalid) else Ok 0)) else Err Again) else Err Fault) ≡ Err Again
        → same ≡ false
    go true false other some fits n e = refl
    go true true true some fits n e = absurd (cc)
    go true true false true true n e = absurd (cc)
    go true true false true false n e = absurd (cc)
    go true true false false fits n e = absurd (cc)
    go false same other some fits n e = absurd (cc)

-- each step of a request that may queue, from the exchange on
locking-turns : (q : Request) (p : Place) (t m : ℕ) (s : Table) → is_living s.kernel t ≡ true → t < length s.lines
    → Turns t (rank_in s q p) (locking_line q p t m s)
unfolding locking_line
locking-turns q CallKernel t m s k l = lock_kernel-turns s t m k l q
locking-turns q StayQueued t m s k l = lock_queued-turns s t m k l 6 q (omega arith)
locking-turns q Stop t m s k l = lock_stop-turns s t m k l q
locking-turns q StayStopped t m s k l = ends (inl refl)
locking-turns q p t m s k l = shared-turns q p t m s k l

-- how often a variable was used is read, before the exchange
use_read-turns : (s : Table) (t : ℕ) → is_living s.kernel t ≡ true → t < length s.lines → (n : ℕ) (q : Request) → 4 < n
    → Turns t n (use_read q (uses_of s (variable_of q)) t s)
use_read-turns s t known l n q more = use_read_cases (Turns t n) q (uses_of s (variable_of q)) t s
    (λ e. answers-turns n t 75 s)
    (λ e. goes-turns s t known l n q (Wake (CountUse (uses_of s (variable_of q))))
    (subst (λ b. (if b then 4 else 5) < n) (sym (eq-eqb (uses_of s (variable_of q)) (uses_of s (variable_of q)) refl))
    more))

-- each step of a signal or a broadcast
use-turns : (q : Request) (x : WakeStep) (t : ℕ) (s : Table) → is_living s.kernel t ≡ true → t < length s.lines
    → Turns t (rank_in s q (Wake x)) (use_line q x (variable_of q) t s)
unfolding use_line use_exchange use_requeue use_by after_requeue
use-turns q ReadUses t s k l = use_read-turns s t k l 5 q (omega arith)
use-turns q (CountUse v) t s k l = by_test (λ b. Turns t (if b then 4 else 5) (if b
    then goes_to t q (Wake (Requeue (v + 1))) (with_cond_word (variable_of q) (v + 1) s)
    else use_read q (uses_of s (variable_of q)) t s)) (uses_of s (variable_of q) == v)
    (λ e. goes-turns (with_cond_word (variable_of q) (v + 1) s) t k l 4 q (Wake (Requeue (v + 1)))
    (below_4 (uses_of (with_cond_word (variable_of q) (v + 1) s) (variable_of q) == v + 1)))
    (λ e. use_read-turns s t k l 5 q (omega arith))
  where
    below_4 : (b : Bool) → (if b then 1 else 3) < 4
    below_4 true = omega arith
    below_4 false = omega arith
use-turns q (Requeue v) t s k l = by_answer (requeue_answer (variable_of q) (bound_to s (variable_of q)) 1 (more_in q) v
    s.words s.kernel) refl
  where
    by_answer : (a : Result ℕ Errno)
        → requeue_answer (variable_of q) (bound_to s (variable_of q)) 1 (more_in q) v s.words s.kernel ≡ a
        → Turns t (if uses_of s (variable_of q) == v then 1 else 3) (use_by a q t (with_kernel
        (after_requeue (variable_of q) (bound_to s (variable_of q)) (more_in q) a s.words s.kernel).words
        (after_requeue (variable_of q) (bound_to s (variable_of q)) (more_in q) a s.words s.kernel).kernel s))
    by_answer (Ok n) e = ends (inr (0, refl))
    by_answer (Err Again) e = goes-turns s t k l _ q (Wake ReadAgain)
        (subst (λ b. 2 < (if b then 1 else 3)) (sym (changed_since (variable_of q) (bound_to s (variable_of q)) (more_in q)
        v s e)) (omega arith))
    by_answer (Err x) e = ends (inr (_, refl))
use-turns q ReadAgain t s k l = goes-turns s t k l 2 q (Wake (Requeue (uses_of s (variable_of q))))
    (subst (λ b. (if b then 1 else 3) < 2) (sym (eq-eqb (uses_of s (variable_of q)) (uses_of s (variable_of q)) refl))
    (omega arith))

-- each step of a call ends it, waits, or leaves it at a place of lower rank
line-turns : (q : Request) (p : Place) (t : ℕ) (s : Table) → is_living s.kernel t ≡ true → t < length s.lines
    → Turns t (rank_in s q p) (line_of q p t s)
unfolding line_of set_priority repair_line
line-turns (Lock m) Load t s k l = lock_load-turns s t m k l
line-turns (Lock m) NamePending t s k l = goes-turns _ t k l 9 (Lock m) Exchange (omega arith)
line-turns (Lock m) p t s k l = locking-turns (Lock m) p t m s k l
line-turns (TryLock m) Load t s k l = try_load-turns s t m k l
line-turns (TryLock m) NamePending t s k l = goes-turns _ t k l 9 (TryLock m) Exchange (omega arith)
line-turns (TryLock m) CallKernel t s k l = try_kernel-turns s t m k l
line-turns (TryLock m) p t s k l = shared-turns (TryLock m) p t m s k l
line-turns (Unlock m) Load t s k l = unlock_load-turns s t m k l
line-turns (Unlock m) p t s k l = giving-turns (Unlock m) p t m s k l
line-turns (Consistent m) Load t s k l = consistent_load-turns s t m k l
line-turns (Consistent m) (Repair CheckHealth) t s k l = consistent_health-turns s t m k l
line-turns (Consistent m) (Repair StoreFine) t s k l = ends (inr (0, refl))
line-turns (Wait c m) Load t s k l = wait_load-turns s t m k l c
line-turns (Wait c m) LoadUses t s k l = wait_uses-turns s t m k l c
line-turns (Wait c m) (Park v) t s k l = wait_park-turns s t m k l v c
line-turns (Wait c m) StayParked t s k l = wait_parked-turns s t m k l c
line-turns (Wait c m) p t s k l = locking-turns (Wait c m) p t m s k l
line-turns (Signal c) (Wake x) t s k l = use-turns (Signal c) x t s k l
line-turns (Broadcast c) (Wake x) t s k l = use-turns (Broadcast c) x t s k l
line-turns (SetPrio u n) SetPriority t s k l = answered_by-turns 0 t (set_prio_answer u n s.kernel) _
line-turns q p t s k l = answers-turns (rank_in s q p) t 22 s

-- who lives, lives after its call has expired
lives-expired : (s : Table) (t : ℕ) → is_living s.kernel t ≡ true → is_living (expired_in t s).kernel t ≡ true
unfolding expired_in
lives-expired s t known = living-expired_same t s.kernel (living-added s.kernel t known)

-- a call that is due expires, and so ends or goes on at a place of lower rank
expires-turns : (q : Request) (p : Place) (t : ℕ) (s : Table) → is_living s.kernel t ≡ true → t < length s.lines
    → counts_at q p (status_at s t) ≡ true → Turns t (rank_in s q p) (expires_at q p t s)
unfolding expires_at expired_in
expires-turns (Lock m) StayQueued t s k l e =
    ends_by-turns (expired_in t s) t m (lives-expired s t k) l 6 (Lock m) (Clear Unowned 110) 110 (omega arith)
expires-turns (Lock m) StayStopped t s k l e =
    ends_by-turns (expired_in t s) t m (lives-expired s t k) l 1 (Lock m) (Clear HadStopped 110) 110 (omega arith)
expires-turns (Lock m) _ t s k l e = absurd (true≢false (sym e))
expires-turns (Wait c m) StayParked t s k l e =
    goes-turns (with_timer t (ran_out (timer_at s t)) (expired_in t s)) t (lives-expired s t k) l 9 (Wait c m) Exchange
    (omega arith)
expires-turns (Wait c m) _ t s k l e = absurd (true≢false (sym e))
expires-turns q p t s k l e = answers-turns (rank_in s q p) t 22 s

-- a step turns as it is told
told-turns : (q : Request) (x : Bool) (t n : ℕ) (o : Outcome) → Turns t n o → Turns t n (reported_outcome q x o)
told-turns q x t n o (ends (inl e)) = ends (inl (ap (reported_seen q x) e))
told-turns q x t n o (ends (inr e)) = ends (inr (reported_result q x e.0, ap (reported_seen q x) e.1))
told-turns q x t n o (goes e known busy less) = goes (ap (reported_seen q x) e) known busy less

-- a step of t is not refused if its call is open
open_step : (s : Table) (t : ℕ) → is_living s.kernel t ≡ true → is_open (line_at s t) ≡ true
    → event_outcome (Go t) s ≡ go_outcome (line_at s t) t s
unfolding event_outcome accepted_outcome
open_step s t known busy = λ i. by_refusal (go_refused (living-added s.kernel t known i) (known i) (busy i)) (Go t) s

-- a step of what is open at a line
go_outcome-turns : (s : Table) (t : ℕ) (l : Line) → is_living s.kernel t ≡ true → t < length s.lines
    → is_open l ≡ true → Turns t (line_rank s l) (go_outcome l t s)
unfolding go_outcome
go_outcome-turns s t Idle known b e = absurd cc
go_outcome-turns s t (At q p) known b e = by_due (is_reached (timer_at s t).deadline s.time) (counts_at q p (status_at s t)) refl
  where
    undue : Turns t (rank_in s q p) (reported_outcome q (timer_at s t).expired (line_of q p t s))
    undue = told-turns q (timer_at s t).expired t (rank_in s q p) (line_of q p t s) (line-turns q p t s known b)

    by_due : (x y : Bool) → counts_at q p (status_at s t) ≡ y
        → Turns t (rank_in s q p) (if (if x then y else false) then expires_at q p t s
        else reported_outcome q (timer_at s t).expired (line_of q p t s))
    by_due true true e = expires-turns q p t s known b e
    by_due true false e = undue
    by_due false y e = undue

-- a step of an open call ends it, waits, or leaves it at a line of lower rank
step-turns : (s : Table) (t : ℕ) → is_living s.kernel t ≡ true → is_open (line_at s t) ≡ true
    → Turns t (line_rank s (line_at s t)) (event_outcome (Go t) s)
step-turns s t known busy = subst (Turns t (line_rank s (line_at s t))) (sym (open_step s t known busy))
    (go_outcome-turns s t (line_at s t) known (lined s t busy) busy)

-- if a step turns that went, the next one is not refused
turn-allows : (t n : ℕ) (o : Outcome) → Turns t n o → o.seen ≡ Went → table_refusal o.after (Go t) ≡ None
turn-allows t n o (ends e) went = absurd (ends-not_went o.seen e went)
turn-allows t n o (goes e known busy less) went =
    λ i. go_refused (living-added o.after.kernel t known i) (known i) (busy i)

-- after a step that is not refused, and went, to v, the next one is not refused either
pub went_on : (t : ℕ) (s v : Table) → table_refusal s (Go t) ≡ None → (event_outcome (Go t) s).seen ≡ Went
    → v ≡ (event_outcome (Go t) s).after → table_refusal v (Go t) ≡ None
went_on t s v allowed went after =
    let a = go_allowed (has_thread s t) (is_living s.kernel t) (is_open (line_at s t)) allowed in
    ap (λ (x : Table). table_refusal x (Go t)) after
    ∙ turn-allows t (line_rank s (line_at s t)) (event_outcome (Go t) s) (step-turns s t a.0 a.1) went

-- of a first step, which was answered x, and what follows it: the last one
abbrev last : Outcome → Outcome → Seen → Outcome
last first later x = elim x [ Went ↦ later | _ ↦ first ]

-- a first answer that ends the call or waits is the last
last-ends : (first later : Outcome) (x : Seen) → ClosesOrWaits x → last first later x ≡ first
last-ends first later x (inl e) = ap (last first later) e
last-ends first later x (inr e) = ap (last first later) e.1

-- a step of t that turns, with what follows it, ends the call or waits, if what follows does
turn-ends : (t n : ℕ) (first later : Outcome) → Turns t n first
    → (is_living first.after.kernel t ≡ true → is_open (line_at first.after t) ≡ true
    → line_rank first.after (line_at first.after t) < n → ClosesOrWaits later.seen)
    → ClosesOrWaits (last first later first.seen).seen
turn-ends t n first later (ends e) h = subst (λ (o : Outcome). ClosesOrWaits o.seen)
    (sym (last-ends first later first.seen e)) e
turn-ends t n first later (goes e known busy less) h = subst (λ (x : Seen). ClosesOrWaits (last first later x).seen)
    (sym e) (h known busy less)

-- a step of t that turns at rank 0 ends the call or waits
last_turn-ends : (t n : ℕ) (first : Outcome) → Turns t n first → n ≤ 0 → ClosesOrWaits first.seen
last_turn-ends t n first (ends e) low = e
last_turn-ends t n first (goes e known busy less) low = absurd (omega arith)

-- going on as often as the rank says ends the call or waits
ends_within : (n t : ℕ) (s : Table) → is_living s.kernel t ≡ true → is_open (line_at s t) ≡ true
    → line_rank s (line_at s t) ≤ n → ClosesOrWaits (goes_on n t s).seen
unfolding goes_on
ends_within zero t s known busy low = last_turn-ends t (line_rank s (line_at s t)) (event_outcome (Go t) s)
    (step-turns s t known busy) low
ends_within (suc n) t s known busy low = turn-ends t (line_rank s (line_at s t)) (event_outcome (Go t) s)
    (goes_on n t (event_outcome (Go t) s).after) (step-turns s t known busy)
    (λ k b less. ends_within n t (event_outcome (Go t) s).after k b (omega arith))

-- a refused step is the last
refused-last : (n t : ℕ) (s : Table) (r : Refusal) → table_refusal s (Go t) ≡ Some r
    → (goes_on (suc n) t s).seen ≡ Refused r
unfolding goes_on event_outcome
refused-last n t s r e = ap (λ (o : Option Refusal). (last (by_refusal o (Go t) s)
    (goes_on n t (by_refusal o (Go t) s).after) (by_refusal o (Go t) s).seen).seen) e

-- of 24 steps of a thread with a call open one closes it or waits
pub open_ends_within_24 : (t : ℕ) (s : Table) → is_living s.kernel t ≡ true → is_open (line_at s t) ≡ true
    → ClosesOrWaits (goes_on 23 t s).seen
open_ends_within_24 t s known busy = ends_within 23 t s known busy (low_line s (line_at s t))

-- of 24 steps of a thread one is not answered Went
pub ends_within_24 : (t : ℕ) (s : Table) → (goes_on 23 t s).seen ≢ Went
ends_within_24 t s = by_first (table_refusal s (Go t)) refl
  where
    by_first : (r : Option Refusal) → table_refusal s (Go t) ≡ r → (goes_on 23 t s).seen ≢ Went
    by_first None e = let a = go_allowed (has_thread s t) (is_living s.kernel t) (is_open (line_at s t)) e in
        ends-not_went (goes_on 23 t s).seen (open_ends_within_24 t s a.0 a.1)
    by_first (Some r) e = λ h. absurd (refused_not_went r (sym (refused-last 22 t s r e) ∙ h))
