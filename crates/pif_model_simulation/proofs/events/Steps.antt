-- A step of a thread, line by line: who owns a mutex after it and did not before holds it once.
use Rattle.std.proofs.Common.{◌≡◌, ◌≢◌, ◌⊎◌, inl, inr, ℕ, true, false, Bool, if◌then◌else◌, Result, Ok, Err, refl, sym, ap, ◌∙◌, subst}
use Rattle.pif_types.specs.declared.errors.Errno.{Errno}
use Rattle.pif_types.specs.declared.errors.Errno.TheVariants.{NoSuchThread, Again, Deadlock}
use Rattle.pif_types.specs.declared.requests.Request.{Request}
use Rattle.pif_types.specs.declared.requests.Request.TheVariants.{Lock, TryLock, Unlock, Consistent, Wait, Signal, Broadcast, SetPrio}
use Rattle.pif_model.specs.declared.lines.Line.TheVariants.{At}
use Rattle.pif_model.specs.declared.lines.Place.{Place}
use Rattle.pif_model.specs.declared.lines.Place.TheVariants.{Load, NamePending, Exchange, CallKernel, StayQueued, Stop, StayStopped, Take, Link, Give, Clear, LoadUses, Park, StayParked, Repair, Wake, SetPriority}
use Rattle.pif_model.specs.declared.lines.TakeStep.{TakeStep}
use Rattle.pif_model.specs.declared.lines.TakeStep.TheVariants.{LoadWord, LoadHealth, StoreInconsistent, ClearDied}
use Rattle.pif_model.specs.declared.lines.LinkStep.{LinkStep}
use Rattle.pif_model.specs.declared.lines.LinkStep.TheVariants.{WriteNext, WriteHead}
use Rattle.pif_model.specs.declared.lines.GiveStep.{GiveStep}
use Rattle.pif_model.specs.declared.lines.GiveStep.TheVariants.{SetPending, SeeHealth, StoreUnusable, Unlink, Release, CallUnlock}
use Rattle.pif_model.specs.declared.lines.Purpose.{Purpose}
use Rattle.pif_model.specs.declared.lines.Purpose.TheVariants.{ToUnlock, ToPark, ToLeave}
use Rattle.pif_model.specs.declared.lines.Footing.TheVariants.{Unowned}
use Rattle.pif_model.specs.declared.lines.RepairStep.TheVariants.{CheckHealth, StoreFine}
use Rattle.pif_model.specs.declared.lines.WakeStep.{WakeStep}
use Rattle.pif_model.specs.declared.lines.WakeStep.TheVariants.{ReadUses, CountUse, Requeue, ReadAgain}
use Rattle.pif_model.specs.declared.lines.Took.{Took}
use Rattle.pif_model.specs.declared.lines.Took.TheVariants.{Owns as TookOwns, Queued as TookQueued}
use Rattle.pif_model.specs.Word.{free_word, held_by, word_at, set_word}
use Rattle.pif_model.specs.PiKernel.{is_living, lock_answer, words_after_lock, kernel_after_lock, try_lock_answer, words_after_try_lock, unlock_answer, words_after_unlock, kernel_after_unlock, set_prio_answer, kernel_after_set_prio, wait_requeue_answer, kernel_after_wait_requeue, requeue_answer, after_requeue}
use Rattle.pif_model.specs.Posix.{named_by}
use Rattle.pif_model.specs.Table.{Table, has_mutex, has_cond, bound_to, uses_of, line_at, timer_at, library_at, cell_at, with_word, with_kernel}
use Rattle.pif_model.specs.Lines.{Outcome, goes_to, ends_by, answers, own_exchange, relocks, lock_load, lock_by, lock_kernel, lock_queued, lock_stop, take_load, take_health, take_line, link_line, clears, given_up, give_exchange, given_up_by, gives_up, give_line, try_load, try_by, try_kernel, unlock_load, consistent_load, consistent_health, repair_line, set_priority, wait_load, wait_uses, wait_by, wait_park, wait_parked, more_in, use_read, use_exchange, use_by, use_requeue, giving_line, shared_line, locking_line, use_line, line_of, is_line_due, expired_place, expired_in, expires_at, reported_outcome, go_outcome}
use Rattle.pif_model.specs.Soundness.{CallIsSound, LineIsSound, IsSound}
use Rattle.pif_model_lemmas.proofs.kernel.LineCases.{ends_by_cases, locked_again_cases, own_exchange_cases, lock_load_cases, lock_queued_cases, take_health_cases, give_health_cases, give_exchange_cases, try_load_cases, unlock_load_cases, consistent_load_cases, consistent_health_cases, wait_load_cases, wait_uses_cases, wait_parked_cases, use_read_cases, use_exchange_cases, answered_by_cases}
use Rattle.pif_model_lemmas.proofs.Waiting.{by_test}
use Rattle.pif_model_simulation.proofs.Facts.{call_once, call_own}
use Rattle.pif_model_simulation.proofs.WeakenedInvariant.{each_thread}
use Rattle.pif_model_simulation.proofs.Named.{second}
use Rattle.pif_model_simulation.proofs.events.Counts.{GoesOnce, words_go, word_goes, lock_owns_free, try_takes_free, lock_goes, try_goes, unlock_goes, requeue_goes}

-- the outcome has the words and the mutexes of v
abbrev Has : Table → Outcome → Type 0
Has v o = (o.after.words ≡ v.words) × (o.after.mutexes ≡ v.mutexes)

-- if a call goes on or answers
ends_has : (q : Request) (p : Place) (a t m : ℕ) (v : Table) → Has v (ends_by t q m p a v)
ends_has q p a t m v = ends_by_cases (Has v) q p a t m v (λ r. (refl, refl)) (λ r. (refl, refl))

-- after the answer of lock_pi
lock_has : (r : Result Took Errno) (q : Request) (t m : ℕ) (v : Table) → Has v (lock_by r q t m v)
unfolding lock_by
lock_has (Ok TookOwns) q t m v = ends_has q (Take LoadWord) 0 t m v
lock_has (Ok TookQueued) q t m v = (refl, refl)
lock_has (Err Deadlock) q t m v = ends_has q (Clear Unowned 35) 35 t m v
lock_has (Err NoSuchThread) q t m v = (refl, refl)
lock_has (Err _) q t m v = (refl, refl)

-- after that of trylock_pi
try_has : (r : Result (record {}) Errno) (t m : ℕ) (v : Table) → Has v (try_by r t m v)
unfolding try_by
try_has (Ok x) t m v = ends_has (TryLock m) (Take LoadWord) 0 t m v
try_has (Err Again) t m v = ends_has (TryLock m) (Clear Unowned 16) 16 t m v
try_has (Err _) t m v = (refl, refl)

-- after that of unlock_pi
give_has : (r : Result (record {}) Errno) (t : ℕ) (done : Table → Outcome) (v : Table) → Has v (done v)
    → Has v (given_up_by r t done v)
unfolding given_up_by
give_has (Ok x) t done v h = h
give_has (Err e) t done v h = (refl, refl)

-- after a mutex was given up
given_has : (q : Request) (y : Purpose) (t m : ℕ) (v : Table) → Has v (given_up q y t m v)
given_has q ToUnlock t m v = ends_has q (Clear Unowned 0) 0 t m v
given_has q (ToPark u) t m v = (refl, refl)
given_has q ToLeave t m v = (refl, refl)

-- after that of wait_requeue_pi
park_has : (r : Result (record {}) Errno) (c m t : ℕ) (v : Table) → Has v (wait_by r c m t v)
unfolding wait_by
park_has (Ok x) c m t v = (refl, refl)
park_has (Err Again) c m t v = (refl, refl)
park_has (Err _) c m t v = (refl, refl)

-- and after that of cmp_requeue_pi
use_has : (r : Result ℕ Errno) (q : Request) (t : ℕ) (v : Table) → Has v (use_by r q t v)
unfolding use_by
use_has (Ok n) q t v = (refl, refl)
use_has (Err Again) q t v = (refl, refl)
use_has (Err _) q t v = (refl, refl)

-- LINES

-- a call of t that locks m, which was added, in a sound table
module _ (s : Table) (t m : ℕ) (h : IsSound s) (known : has_mutex s m ≡ true) where
  -- m is held once if nobody owns it
  free_once : (word_at s.words m).number ≡ 0 → (library_at s m).count ≡ 1
  free_once e = (h.all.mutexes m known).count.unowned e

  -- the owner of a RECURSIVE mutex holds it once more
  locked_again_once : GoesOnce s (relocks t m s).after
  locked_again_once =
      locked_again_cases (λ o. GoesOnce s o.after) t m s (λ few k. inl refl) (λ full k. inl refl)

  -- compare-exchange from 0
  own_exchange_once : (q : Request) → GoesOnce s (own_exchange q t m s).after
  own_exchange_once q = own_exchange_cases (λ o. GoesOnce s o.after) q t m s
      (λ died free robust. taken (goes_to t q (Take (LoadHealth false)) (with_word m (held_by t) s)).after free refl refl)
      (λ died free stalled. taken (answers t 0 (with_word m (held_by t) s)).after free refl refl) (λ k. inl refl)
    where
      taken : (v : Table) → (word_at s.words m).number ≡ 0 → v.words ≡ set_word s.words m (held_by t)
          → v.mutexes ≡ s.mutexes → GoesOnce s v
      taken v free e f = words_go s v (set_word s.words m (held_by t))
          (word_goes m s (held_by t) (inr (free_once free))) e f

  -- lock: load the word
  lock_load_once : (q : Request) → GoesOnce s (lock_load q t m s).after
  lock_load_once q = lock_load_cases (λ o. GoesOnce s o.after) q t m s (λ own kind k. inl refl) (λ own kind k. inl refl)
      (λ own kind. locked_again_once) (λ other robust k. inl refl) (λ other stalled k. inl refl)

  -- lock: the kernel call lock_pi
  lock_kernel_once : (q : Request) → GoesOnce s (lock_kernel q t m s).after
  unfolding lock_kernel
  lock_kernel_once q =
      let r = lock_answer t m s.words s.kernel in
      let ws = words_after_lock t m r s.words in
      let v = with_kernel ws (kernel_after_lock t m r s.words s.kernel) s in
      let has = lock_has r q t m v in
      words_go s (lock_by r q t m v).after ws
      (lock_goes t m r s (λ e. free_once (lock_owns_free t m s.words s.kernel e))) has.0 has.1

  -- trylock: load the word
  try_load_once : GoesOnce s (try_load t m s).after
  try_load_once = try_load_cases (λ o. GoesOnce s o.after) t m s (λ own kind. locked_again_once)
      (λ own kind k. inl refl) (λ other robust k. inl refl) (λ other stalled k. inl refl)

  -- trylock: the kernel call trylock_pi
  try_kernel_once : GoesOnce s (try_kernel t m s).after
  unfolding try_kernel
  try_kernel_once =
      let r = try_lock_answer t m s.words s.kernel in
      let ws = words_after_try_lock t m r s.words in
      let v = with_kernel ws s.kernel s in
      let has = try_has r t m v in
      words_go s (try_by r t m v).after ws
      (try_goes t m r s (λ x e. free_once (try_takes_free t m s.words s.kernel x e))) has.0 has.1

-- a call that gives up m, which is held once
module _ (s : Table) (t m : ℕ) (once : (library_at s m).count ≡ 1) where
  -- compare-exchange to 0
  given_once : (v : Table) → v.words ≡ set_word s.words m free_word → v.mutexes ≡ s.mutexes → GoesOnce s v
  given_once v e f = words_go s v (set_word s.words m free_word) (word_goes m s free_word (inr once)) e f

  give_exchange_once : (q : Request) (y : Purpose) → GoesOnce s (give_exchange q y t m s).after
  give_exchange_once q y = give_exchange_cases (λ o. GoesOnce s o.after) q y t m s
      (λ flag. let has = given_has q y t m (with_word m free_word s) in
      given_once (given_up q y t m (with_word m free_word s)).after has.0 has.1) (λ k. inl refl)

  -- the kernel call unlock_pi
  gives_up_once : (done : Table → Outcome) → ((v : Table) → Has v (done v)) → GoesOnce s (gives_up t m done s).after
  unfolding gives_up
  gives_up_once done h =
      let r = unlock_answer t m s.words s.kernel in
      let ws = words_after_unlock m r s.kernel s.words in
      let v = with_kernel ws (kernel_after_unlock m r s.kernel) s in
      let has = give_has r t done v (h v) in
      words_go s (given_up_by r t done v).after ws (unlock_goes m r s once) has.0 has.1

  -- each step of giving it up
  give_once : (q : Request) (x : GiveStep) (y : Purpose) → GoesOnce s (give_line q x y t m s).after
  unfolding give_line
  give_once q SetPending y = λ k. inl refl
  give_once q SeeHealth y =
      give_health_cases (λ o. GoesOnce s o.after) q y t m s (λ disorder k. inl refl) (λ order k. inl refl)
  give_once q StoreUnusable y = λ k. inl refl
  give_once q Unlink y = λ k. inl refl
  give_once q Release y = give_exchange_once q y
  give_once q CallUnlock y = gives_up_once (given_up q y t m) (given_has q y t m)

-- OTHER LINES, WHICH CHANGE NO OWNER

module _ (s : Table) (t m : ℕ) where
  -- lock: queued, or made the owner
  lock_queued_once : (q : Request) → GoesOnce s (lock_queued q t m s).after
  lock_queued_once q = lock_queued_cases (λ o. GoesOnce s o.after) q t m s (λ ready robust k. inl refl)
      (λ ready stalled k. inl refl) (λ waits k. inl refl)

  -- taking over: load the health word
  take_health_once : (q : Request) (d : Bool) → GoesOnce s (take_health q d t m s).after
  take_health_once q d = take_health_cases (λ o. GoesOnce s o.after) q d t m s (λ unusable k. inl refl)
      (λ usable died k. inl refl) (λ usable lives k. inl refl)

  -- taking over: OWNER_DIED is taken off the word
  take_word_once : (q : Request) → GoesOnce s (take_line q ClearDied t m s).after
  unfolding take_line
  take_word_once q =
      let x = record (cell_at s m).word { died = false } in
      words_go s (goes_to t q (Link WriteNext 130) (with_word m x s)).after (set_word s.words m x)
      (word_goes m s x (inl refl)) refl refl

  -- each step of taking over
  take_once : (q : Request) (x : TakeStep) → GoesOnce s (take_line q x t m s).after
  unfolding take_line take_load
  take_once q LoadWord = λ k. inl refl
  take_once q (LoadHealth d) = take_health_once q d
  take_once q StoreInconsistent = λ k. inl refl
  take_once q ClearDied = take_word_once q

  -- and of putting the mutex on the list
  link_once : (q : Request) (x : LinkStep) (a : ℕ) → GoesOnce s (link_line q x a t m s).after
  unfolding link_line
  link_once q WriteNext a = λ k. inl refl
  link_once q WriteHead a = λ k. inl refl

  -- unlock: load the word
  unlock_load_once : GoesOnce s (unlock_load t m s).after
  unlock_load_once = unlock_load_cases (λ o. GoesOnce s o.after) t m s (λ own more k. inl refl)
      (λ own few robust k. inl refl) (λ own few stalled k. inl refl) (λ other k. inl refl)

  -- consistent: load the word, and the health word
  consistent_load_once : GoesOnce s (consistent_load t m s).after
  consistent_load_once = consistent_load_cases (λ o. GoesOnce s o.after) t m s (λ robust own k. inl refl)
      (λ robust other k. inl refl) (λ stalled k. inl refl)

  consistent_health_once : GoesOnce s (consistent_health t m s).after
  consistent_health_once =
      consistent_health_cases (λ o. GoesOnce s o.after) t m s (λ disorder k. inl refl) (λ order k. inl refl)

  -- setprio: the kernel call set_prio
  set_priority_once : (u p : ℕ) → GoesOnce s (set_priority t u p s).after
  unfolding set_priority
  set_priority_once u p =
      let r = set_prio_answer u p s.kernel in
      answered_by_cases (λ o. GoesOnce s o.after) r t (with_kernel s.words (kernel_after_set_prio u p r s.kernel) s)
      (λ a k. inl refl)

-- WAIT, SIGNAL AND BROADCAST

module _ (s : Table) (t c : ℕ) where
  -- wait: load the word, and the condition word
  wait_load_once : (m : ℕ) → GoesOnce s (wait_load c m t s).after
  wait_load_once m = wait_load_cases (λ o. GoesOnce s o.after) c m t s (λ bound own more k. inl refl)
      (λ bound own once k. inl refl) (λ bound other k. inl refl) (λ apart k. inl refl)

  wait_uses_once : (m : ℕ) → GoesOnce s (wait_uses c m t s).after
  wait_uses_once m =
      wait_uses_cases (λ o. GoesOnce s o.after) c m t s (λ robust k. inl refl) (λ stalled k. inl refl)

  -- wait: the kernel call wait_requeue_pi
  wait_park_once : (v m : ℕ) → GoesOnce s (wait_park v c m t s).after
  unfolding wait_park
  wait_park_once v m =
      let r = wait_requeue_answer c v m s.words in
      let x = with_kernel s.words (kernel_after_wait_requeue t c m r s.kernel) s in
      let has = park_has r c m t x in
      words_go s (wait_by r c m t x).after s.words (λ k. inl refl) has.0 has.1

  -- signal and broadcast: the condition word was read, and is exchanged
  use_read_once : (q : Request) (n : ℕ) → GoesOnce s (use_read q n t s).after
  use_read_once q n = use_read_cases (λ o. GoesOnce s o.after) q n t s (λ full k. inl refl) (λ some k. inl refl)

  use_exchange_once : (q : Request) (v : ℕ) → GoesOnce s (use_exchange q v c t s).after
  use_exchange_once q v = use_exchange_cases (λ o. GoesOnce s o.after) q v c t s (λ same k. inl refl)
      (λ other full k. inl refl) (λ other some k. inl refl)

-- signal and broadcast: the kernel call cmp_requeue_pi, on a variable that was added in a sound table
use_requeue_once : (s : Table) (t c : ℕ) (q : Request) (v : ℕ) → IsSound s → has_cond s c ≡ true
    → GoesOnce s (use_requeue q v c t s).after
unfolding use_requeue
use_requeue_once s t c q v h known =
    let m : ℕ = bound_to s c in
    let r = requeue_answer c m 1 (more_in q) v s.words s.kernel in
    let x = after_requeue c m (more_in q) r s.words s.kernel in
    let y = with_kernel x.words x.kernel s in
    let has = use_has r q t y in
    words_go s (use_by r q t y).after x.words
    (requeue_goes s m (free_once s t m h (h.all.conds c known).bound) c (more_in q) r) has.0 has.1

-- ANY LINE

-- a step of giving a mutex up, or of clearing the pending field
giving_once : (s : Table) (t : ℕ) (q : Request) (p : Place) → CallIsSound s t q p
    → GoesOnce s (giving_line q p t (named_by q) s).after
unfolding giving_line clears
giving_once s t q (Give x y) c = give_once s t (named_by q) (call_once c (call_own c)) q x y
giving_once s t q (Clear f a) c = λ k. inl refl
giving_once s t q _ c = λ k. inl refl

-- a step that all calls share which lock a mutex that was added
shared_once : (s : Table) (t : ℕ) (q : Request) (p : Place) → IsSound s → has_mutex s (named_by q) ≡ true
    → CallIsSound s t q p → GoesOnce s (shared_line q p t (named_by q) s).after
unfolding shared_line
shared_once s t q Exchange h k c = own_exchange_once s t (named_by q) h k q
shared_once s t q (Take x) h k c = take_once s t (named_by q) q x
shared_once s t q (Link x a) h k c = link_once s t (named_by q) q x a
shared_once s t q p h k c = giving_once s t q p c

-- a step of a call that locks a mutex that was added, from the exchange on
locking_once : (s : Table) (t : ℕ) (q : Request) (p : Place) → IsSound s → has_mutex s (named_by q) ≡ true
    → CallIsSound s t q p → GoesOnce s (locking_line q p t (named_by q) s).after
unfolding locking_line lock_stop
locking_once s t q CallKernel h k c = lock_kernel_once s t (named_by q) h k q
locking_once s t q StayQueued h k c = lock_queued_once s t (named_by q) q
locking_once s t q Stop h k c = λ i. inl refl
locking_once s t q StayStopped h k c = λ i. inl refl
locking_once s t q p h k c = shared_once s t q p h k c

-- a step of a wait that is parked, or was
parked_once : (s : Table) (t c m : ℕ) → IsSound s → has_mutex s m ≡ true → GoesOnce s (wait_parked c m t s).after
parked_once s t c m h k = wait_parked_cases (λ o. GoesOnce s o.after) c m t s
    (λ again. own_exchange_once s t m h k (Wait c m)) (λ rests. lock_queued_once s t m (Wait c m))

-- a step of a signal or a broadcast of a variable that was added
use_once : (s : Table) (t c : ℕ) (q : Request) (x : WakeStep) → IsSound s → has_cond s c ≡ true
    → GoesOnce s (use_line q x c t s).after
unfolding use_line
use_once s t c q ReadUses h k = use_read_once s t c q (uses_of s c)
use_once s t c q (CountUse v) h k = use_exchange_once s t c q v
use_once s t c q (Requeue v) h k = use_requeue_once s t c q v h k
use_once s t c q ReadAgain h k = λ i. inl refl

-- a step of a call
line_once : (s : Table) (t : ℕ) (q : Request) (p : Place) → IsSound s → CallIsSound s t q p
    → GoesOnce s (line_of q p t s).after
unfolding line_of repair_line
line_once s t (Lock m) Load h c = lock_load_once s t m h c.named (Lock m)
line_once s t (Lock m) NamePending h c = λ k. inl refl
line_once s t (Lock m) p h c = locking_once s t (Lock m) p h c.named c
line_once s t (TryLock m) Load h c = try_load_once s t m h c.named
line_once s t (TryLock m) NamePending h c = λ k. inl refl
line_once s t (TryLock m) CallKernel h c = try_kernel_once s t m h c.named
line_once s t (TryLock m) p h c = shared_once s t (TryLock m) p h c.named c
line_once s t (Unlock m) Load h c = unlock_load_once s t m
line_once s t (Unlock m) p h c = giving_once s t (Unlock m) p c
line_once s t (Consistent m) Load h c = consistent_load_once s t m
line_once s t (Consistent m) (Repair CheckHealth) h c = consistent_health_once s t m
line_once s t (Consistent m) (Repair StoreFine) h c = λ k. inl refl
line_once s t (Wait d m) Load h c = wait_load_once s t d m
line_once s t (Wait d m) LoadUses h c = wait_uses_once s t d m
line_once s t (Wait d m) (Park v) h c = wait_park_once s t d v m
line_once s t (Wait d m) StayParked h c = parked_once s t d m h (second (has_cond s d) (has_mutex s m) c.named)
line_once s t (Wait d m) p h c = locking_once s t (Wait d m) p h (second (has_cond s d) (has_mutex s m) c.named) c
line_once s t (Signal d) (Wake x) h c = use_once s t d (Signal d) x h c.named
line_once s t (Broadcast d) (Wake x) h c = use_once s t d (Broadcast d) x h c.named
line_once s t (SetPrio u p) SetPriority h c = set_priority_once s t 0 u p
line_once s t _ _ h c = λ k. inl refl

-- an expiry, which writes no word
expires_once : (s : Table) (t : ℕ) (q : Request) (p : Place) → GoesOnce s (expires_at q p t s).after
unfolding expires_at expired_in
expires_once s t (Lock m) p =
    ends_by_cases (λ o. GoesOnce s o.after) (Lock m) (expired_place p) 110 t m _ (λ r k. inl refl) (λ r k. inl refl)
expires_once s t (Wait c m) p = λ k. inl refl
expires_once s t _ p = λ k. inl refl

-- and one step of an open call
go_once : (s : Table) (t : ℕ) (q : Request) (p : Place) → IsSound s → CallIsSound s t q p
    → GoesOnce s (go_outcome (At q p) t s).after
unfolding go_outcome
go_once s t q p h c = by_test (λ b. GoesOnce s (if b then expires_at q p t s
    else reported_outcome q (timer_at s t).expired (line_of q p t s)).after) (is_line_due (At q p) t s)
    (λ e. expires_once s t q p) (λ e. line_once s t q p h c)

-- who owns a mutex after a step of a living thread, and did not before, holds it once
pub step_owns_once : (s old v : Table) (t : ℕ) (q : Request) (p : Place) → IsSound s → is_living s.kernel t ≡ true
    → line_at s t ≡ At q p → s ≡ old → v ≡ (go_outcome (At q p) t s).after
    → (m : ℕ) → (cell_at v m).word.number ≢ (cell_at old m).word.number → (cell_at v m).count ≡ 1
step_owns_once s old v t q p h k e before after m new =
    by_owner (subst (GoesOnce s) (sym after)
    (go_once s t q p h (subst (LineIsSound s t) e (each_thread h t k).line)) m)
  where
    by_owner : ((word_at v.words m).number ≡ (word_at s.words m).number) ⊎ ((library_at v m).count ≡ 1)
        → (library_at v m).count ≡ 1
    by_owner (inl same) = absurd (new (same ∙ ap (λ (x : Table). (cell_at x m).word.number) before))
    by_owner (inr once) = once
