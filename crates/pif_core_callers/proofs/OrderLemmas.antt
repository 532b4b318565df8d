-- A mutex that was locked in order by a thread that wasn't its owner is fine.
use Rattle.std.proofs.Common.{◌≡◌, ◌≢◌, ℕ, ◌<◌, ◌==◌, zero, suc, Bool, true, false, List, [], length, Option, Some, None, Result, Ok, Err, refl, sym, ap, ◌∙◌, subst, arith}
use Rattle.std.proofs.lemmas.Bool.{true≢false}
use Rattle.std.proofs.lemmas.Bool.Decides.{nat_tests}
use Rattle.std.proofs.lemmas.List.{get_or-set_same}
use Rattle.pif_types.specs.Numbers.{number_of}
use Rattle.pif_types.specs.declared.errors.Errno.{Errno}
use Rattle.pif_types.specs.declared.errors.Errno.TheVariants.{NotPermitted, NoSuchThread, Again, Fault, Busy, Invalid, Deadlock, Overflow, TimedOut, OwnerDead, NotRecoverable}
use Rattle.pif_types.specs.declared.errors.Refusal.{Refusal}
use Rattle.pif_types.specs.declared.requests.Request.{Request}
use Rattle.pif_types.specs.declared.requests.Request.TheVariants.{Lock}
use Rattle.pif_model.specs.declared.events.Event.TheVariants.{Begin, Go}
use Rattle.pif_model.specs.declared.events.Seen.TheVariants.{Went, Answered}
use Rattle.pif_model.specs.declared.lines.Line.TheVariants.{At, Idle}
use Rattle.pif_model.specs.declared.lines.Place.{Place}
use Rattle.pif_model.specs.declared.lines.Place.TheVariants.{Load, NamePending, Exchange, CallKernel, StayQueued, Stop, StayStopped, Take, Link, Give, Clear}
use Rattle.pif_model.specs.declared.lines.TakeStep.TheVariants.{LoadWord, LoadHealth, StoreInconsistent, ClearDied}
use Rattle.pif_model.specs.declared.lines.LinkStep.TheVariants.{WriteNext, WriteHead}
use Rattle.pif_model.specs.declared.lines.GiveStep.TheVariants.{Release, CallUnlock}
use Rattle.pif_model.specs.declared.lines.Purpose.TheVariants.{ToUnlock, ToPark, ToLeave}
use Rattle.pif_model.specs.declared.lines.Footing.TheVariants.{Linked, Unowned}
use Rattle.pif_model.specs.declared.lines.Took.{Took}
use Rattle.pif_model.specs.declared.lines.Took.TheVariants.{Owns as TookOwns, Queued as TookQueued}
use Rattle.pif_model.specs.declared.events.Entry.{Entry}
use Rattle.pif_model.specs.Posix.{Mutex, World, mutex_at}
use Rattle.pif_model.specs.World.Health.{Fine}
use Rattle.pif_model.specs.PiKernel.{is_living, lock_answer, words_after_lock, kernel_after_lock, unlock_answer, words_after_unlock, kernel_after_unlock}
use Rattle.pif_model.specs.Table.{Table, cell_at, has_mutex, has_thread, line_at, with_kernel, with_word}
use Rattle.pif_model.specs.Word.{held_by, free_word, word_at}
use Rattle.pif_model.specs.Lines.{Outcome, accepted_outcome, answers, by_refusal, clears, event_outcome, expired_in, expired_place, expires_at, gives_up, given_up_by, go_outcome, goes_on, goes_to, is_open, give_line, given_up, giving_line, line_of, link_line, lock_by, lock_kernel, lock_stop, locking_line, shared_line, table_refusal, take_line, take_load}
use Rattle.pif_model.specs.Projection.{health_at, health_of}
use Rattle.pif_model.specs.Soundness.{CallIsSound, IsSound, LineIsSound}
use Rattle.pif_model.specs.Standing.{Stands}
use Rattle.pif_model_lemmas.proofs.kernel.LineCases.{ends_by_cases, give_exchange_cases, lock_load_cases, lock_queued_cases, own_exchange_cases, take_health_cases}
use Rattle.pif_model_simulation.proofs.Facts.{call_own, call_behind, call_died}
use Rattle.pif_model_simulation.proofs.Lined.{tl}
use Rattle.pif_model_simulation.proofs.Shown.{go_allowed, mutex_seen}
use Rattle.pif_model_simulation.proofs.Simulation.{event_kept}
use Rattle.pif_model_simulation.specs.Calls.{call_outcome}
use Rattle.pif_core_callers.specs.Holding.{IsFineIn}
use Rattle.pif_model_simulation.proofs.CallLemmas.{call_other, goes_on-other, goes_on-went, goes_on-zero}
use Rattle.pif_core_callers.proofs.FineLemmas.{begin_line, shown_fine}
use Rattle.pif_core_callers.proofs.GoCases.{go_cases}
use Rattle.pif_core_callers.proofs.HoldLemmas.{allowed, begun, rest}

-- what holds at a place of t's lock of m: it isn't the owner at first, and once it is to be answered 0 m is fine
abbrev OnWay : ℕ → ℕ → Table → Place → Type 0
OnWay t m s Load = (word_at s.words m).number ≢ t
OnWay t m s (Link x a) = a ≡ 0 → health_at s m ≡ Fine
OnWay t m s (Clear f a) = a ≡ 0 → health_at s m ≡ Fine
OnWay t m s _ = Unit {0}

-- what a step leaves: the call is open still, is answered otherwise than 0, or m is fine, or is stalled, and so fine
data Takes (t m : ℕ) (o : Outcome) : Type 0 where
  goes : o.seen ≡ Went → (p : Place) → line_at o.after t ≡ At (Lock m) p → OnWay t m o.after p → Takes t m o
  other : (o.seen ≡ Went → ⊥) → (o.seen ≡ Answered 0 → ⊥) → Takes t m o
  orderly : (o.seen ≡ Went → ⊥) → health_at o.after m ≡ Fine → Takes t m o
  plain : (o.seen ≡ Went → ⊥) → has_mutex o.after m ≡ true → (cell_at o.after m).robust ≡ false → Takes t m o

-- the number of an error isn't 0
some_error : (e : Errno) → number_of e ≢ 0
some_error NotPermitted = λ d. omega (arith, d)
some_error NoSuchThread = λ d. omega (arith, d)
some_error Again = λ d. omega (arith, d)
some_error Fault = λ d. omega (arith, d)
some_error Busy = λ d. omega (arith, d)
some_error Invalid = λ d. omega (arith, d)
some_error Deadlock = λ d. omega (arith, d)
some_error Overflow = λ d. omega (arith, d)
some_error TimedOut = λ d. omega (arith, d)
some_error OwnerDead = λ d. omega (arith, d)
some_error NotRecoverable = λ d. omega (arith, d)

-- the same answer has the same number
number_same : (a b : ℕ) → Answered a ≡ Answered b → a ≡ b
number_same a b e = cc

-- a table that has these lines goes on at a place
module _ (t m : ℕ) (v : Table) (l : t < length v.lines) where
  goes_on_at : (p : Place) → OnWay t m v p → Takes t m (goes_to t (Lock m) p v)
  goes_on_at p w = goes refl p (get_or-set_same v.lines t (At (Lock m) p) Idle l) w

-- it is answered otherwise
away : (t m a : ℕ) (v : Table) → a ≢ 0 → Takes t m (answers t a v)
away t m a v n = other (λ e. cc) (λ e. n (number_same a 0 e))

-- if an expired lock goes on, its answer is not 0
expired_on : (t m : ℕ) (v : Table) (p : Place) → OnWay t m v (expired_place p)
expired_on t m v StayQueued = λ d. absurd (omega (arith, d))
expired_on t m v _ = λ d. absurd (omega (arith, d))

-- a mutex that nothing tells of is fine
fine_of : (h : ℕ) (died : Bool) → h ≢ 2 → h ≢ 1 → died ≡ false → health_of h died ≡ Fine
fine_of h died n k d = rw (eq_no h 2 n, eq_no h 1 k, d) refl
  where
    eq_no : (a b : ℕ) → a ≢ b → (a == b) ≡ false
    eq_no a b n = grind (arith, nat_tests)

module _ (t m : ℕ) (s : Table) (k : IsSound s) (known : is_living s.kernel t ≡ true) where
  here : t < length s.lines
  here = tl s t Idle k known

  -- what the call knows
  knows : (p : Place) → line_at s t ≡ At (Lock m) p → CallIsSound s t (Lock m) p
  knows p e = subst (LineIsSound s t) e (k.all.threads t known (λ x. x)).line

  -- a stalled mutex is taken
  stalled : (p : Place) (v : Table) → line_at s t ≡ At (Lock m) p → has_mutex s m ≡ has_mutex v m
      → (cell_at v m).robust ≡ false → Takes t m (answers t 0 v)
  stalled p v e same r = plain (λ d. cc) (sym same ∙ (knows p e).named) r

  -- the kernel call
  kernel_takes : (p : Place) → line_at s t ≡ At (Lock m) p → Takes t m (lock_kernel (Lock m) t m s)
  unfolding lock_kernel lock_by kernel_after_lock words_after_lock
  kernel_takes p e = by_answer (lock_answer t m s.words s.kernel)
    where
      by_answer : (a : Result Took Errno) → Takes t m (lock_by a (Lock m) t m
          (with_kernel (words_after_lock t m a s.words) (kernel_after_lock t m a s.words s.kernel) s))
      by_answer (Ok TookOwns) =
          let v = with_kernel (words_after_lock t m (Ok TookOwns) s.words) s.kernel s in
          ends_by_cases (Takes t m) (Lock m) (Take LoadWord) 0 t m v (λ r. goes_on_at t m v here (Take LoadWord) tt)
          (λ r. stalled p v e refl r)
      by_answer (Ok TookQueued) = other (λ d. cc) (λ d. cc)
      by_answer (Err Deadlock) =
          let v = with_kernel (words_after_lock t m (Err Deadlock) s.words) s.kernel s in
          ends_by_cases (Takes t m) (Lock m) (Clear Unowned 35) 35 t m v (λ r. goes_on_at t m v here (Clear Unowned 35) (λ d. absurd (omega (arith, d))))
          (λ r. away t m 35 v (λ d. omega (arith, d)))
      by_answer (Err NoSuchThread) = goes_on_at t m _ here Stop tt
      by_answer (Err x) = away t m (number_of x) _ (some_error x)

  -- who left an unusable mutex isn't answered 0
  leaves_on : (v : Table) → t < length v.lines → Takes t m (given_up (Lock m) ToLeave t m v)
  leaves_on v l = goes_on_at t m v l (Clear Unowned 131) (λ d. absurd (omega (arith, d)))

  -- the kernel call of leaving
  leave_takes : Takes t m (gives_up t m (given_up (Lock m) ToLeave t m) s)
  unfolding gives_up given_up_by
  leave_takes = by_answer (unlock_answer t m s.words s.kernel)
    where
      by_answer : (a : Result (record {}) Errno) → Takes t m (given_up_by a t (given_up (Lock m) ToLeave t m)
          (with_kernel (words_after_unlock m a s.kernel s.words) (kernel_after_unlock m a s.kernel) s))
      by_answer (Ok x) = leaves_on _ here
      by_answer (Err x) = away t m (number_of x) _ (some_error x)

  -- the health word is read: without OWNER_DIED the mutex is fine
  health_takes : (died : Bool) → line_at s t ≡ At (Lock m) (Take (LoadHealth died))
      → Takes t m (line_of (Lock m) (Take (LoadHealth died)) t s)
  unfolding line_of locking_line shared_line take_line
  health_takes died e =
      let call = knows (Take (LoadHealth died)) e in
      let owns = call_own call in
      take_health_cases (Takes t m) (Lock m) died t m s (λ h. goes_on_at t m s here (Give Release ToLeave) tt)
      (λ n d. goes_on_at t m s here (Take StoreInconsistent) tt)
      (λ n d. goes_on_at t m s here (Link WriteNext 0)
      (λ z. fine_of (cell_at s m).health (cell_at s m).word.died n
      (λ h. true≢false (sym (call_behind call owns h) ∙ call_died call owns ∙ d))
      (call_died call owns ∙ d)))

  -- it expires
  expires_takes : (p : Place) → Takes t m (expires_at (Lock m) p t s)
  unfolding expires_at expired_in
  expires_takes p =
      let v = expired_in t s in
      ends_by_cases (Takes t m) (Lock m) (expired_place p) 110 t m v
      (λ r. goes_on_at t m v here (expired_place p) (expired_on t m v p))
      (λ r. away t m 110 v (λ d. omega (arith, d)))

  -- each step
  step_takes : (p : Place) → line_at s t ≡ At (Lock m) p → OnWay t m s p → Takes t m (line_of (Lock m) p t s)
  unfolding line_of locking_line shared_line giving_line take_line link_line give_line take_load clears lock_stop
  step_takes Load e w =
      lock_load_cases (Takes t m) (Lock m) t m s (λ own kind. absurd (w own)) (λ own kind. absurd (w own))
      (λ own kind. absurd (w own)) (λ apart r. goes_on_at t m s here NamePending tt)
      (λ apart r. goes_on_at t m s here Exchange tt)
  step_takes NamePending e w = goes_on_at t m _ here Exchange tt
  step_takes Exchange e w =
      own_exchange_cases (Takes t m) (Lock m) t m s
      (λ d free r. goes_on_at t m (with_word m (held_by t) s) here (Take (LoadHealth false)) tt)
      (λ d free r. stalled Exchange (with_word m (held_by t) s) e refl r)
      (goes_on_at t m s here CallKernel tt)
  step_takes CallKernel e w = kernel_takes CallKernel e
  step_takes StayQueued e w =
      lock_queued_cases (Takes t m) (Lock m) t m s
      (λ ready r. goes_on_at t m s here (Take (LoadHealth (cell_at s m).word.died)) tt)
      (λ ready r. stalled StayQueued s e refl r) (λ rests. other (λ d. cc) (λ d. cc))
  step_takes Stop e w = other (λ d. cc) (λ d. cc)
  step_takes StayStopped e w = other (λ d. cc) (λ d. cc)
  step_takes (Take LoadWord) e w = goes_on_at t m s here (Take (LoadHealth (cell_at s m).word.died)) tt
  step_takes (Take (LoadHealth died)) e w = health_takes died e
  step_takes (Take StoreInconsistent) e w = goes_on_at t m _ here (Take ClearDied) tt
  step_takes (Take ClearDied) e w = goes_on_at t m _ here (Link WriteNext 130) (λ d. absurd (omega (arith, d)))
  step_takes (Link WriteNext a) e w = goes_on_at t m _ here (Link WriteHead a) w
  step_takes (Link WriteHead a) e w = goes_on_at t m _ here (Clear Linked a) w
  step_takes (Clear f zero) e w = orderly (λ d. cc) (w refl)
  step_takes (Clear f (suc a)) e w = away t m (suc a) _ (λ d. omega (arith, d))
  step_takes (Give Release ToLeave) e w =
      give_exchange_cases (Takes t m) (Lock m) ToLeave t m s (λ f. leaves_on (with_word m free_word s) here)
      (goes_on_at t m s here (Give CallUnlock ToLeave) tt)
  step_takes (Give CallUnlock ToLeave) e w = leave_takes
  step_takes (Give x ToUnlock) e w = absurd (true≢false (sym (knows (Give x ToUnlock) e).belongs))
  step_takes (Give x (ToPark v)) e w = absurd (true≢false (sym (knows (Give x (ToPark v)) e).belongs))
  step_takes (Give x ToLeave) e w = absurd (true≢false (sym (knows (Give x ToLeave) e).belongs))
  step_takes p e w = away t m 22 s (λ d. omega (arith, d))

-- a step, refused or not
event_takes : (t m : ℕ) (s : Table) (p : Place) → IsSound s → line_at s t ≡ At (Lock m) p → OnWay t m s p
    → Takes t m (event_outcome (Go t) s)
unfolding event_outcome accepted_outcome
event_takes t m s p k e w = by_refusal_of (table_refusal s (Go t)) refl
  where
    by_refusal_of : (r : Option Refusal) → table_refusal s (Go t) ≡ r → Takes t m (by_refusal r (Go t) s)
    by_refusal_of None f =
        let living = go_allowed (has_thread s t) (is_living s.kernel t) (is_open (line_at s t)) f in
        subst (λ l. Takes t m (go_outcome l t s)) (sym e)
        (go_cases (Takes t m) (Lock m) p t s (λ x a. refl) (λ due. expires_takes t m s k living.0 p)
        (step_takes t m s k living.0 p e w))
    by_refusal_of (Some r) f = other (λ d. cc) (λ d. cc)

-- one step is the last, and is answered 0
last_orderly : (t m : ℕ) (s : Table) (n : ℕ) (o : Outcome) → IsSound o.after → Takes t m o → goes_on n t s ≡ o
    → (o.seen ≡ Went → ⊥) → (goes_on n t s).seen ≡ Answered 0 → health_at (goes_on n t s).after m ≡ Fine
last_orderly t m s n o k (goes w p l x) same still e = absurd (still w)
last_orderly t m s n o k (other w z) same still e = absurd (z (ap (λ (x : Outcome). x.seen) (sym same) ∙ e))
last_orderly t m s n o k (orderly w f) same still e = subst (λ (x : Outcome). health_at x.after m ≡ Fine) (sym same) f
last_orderly t m s n o k (plain w named r) same still e =
    let none = (k.all.mutexes m named).stalled r in
    subst (λ (x : Outcome). health_at x.after m ≡ Fine) (sym same)
    (ap (λ h. health_of h (word_at o.after.words m).died) none.1 ∙ ap (health_of 0) none.0)

-- a lock that goes on to the answer 0
going_orderly : (n t m : ℕ) (s : Table) (p : Place) → IsSound s → line_at s t ≡ At (Lock m) p → OnWay t m s p
    → (goes_on n t s).seen ≡ Answered 0 → health_at (goes_on n t s).after m ≡ Fine
going_orderly zero t m s p k l x e =
    last_orderly t m s 0 (event_outcome (Go t) s) (event_kept s (Go t) k).sound (event_takes t m s p k l x)
    (goes_on-zero t s)
    (λ w. went_not_answered (sym w ∙ ap (λ (z : Outcome). z.seen) (sym (goes_on-zero t s)) ∙ e)) e
  where
    went_not_answered : Went ≡ Answered 0 → ⊥
    went_not_answered d = cc
going_orderly (suc n) t m s p k l x e =
    let o = event_outcome (Go t) s in
    let sound = (event_kept s (Go t) k).sound in
    elim (event_takes t m s p k l x) [
      | goes w y z on ↦
          let same = goes_on-went n t s w in
          subst (λ (v : Outcome). health_at v.after m ≡ Fine) (sym same)
          (going_orderly n t m o.after y sound z on (ap (λ (v : Outcome). v.seen) (sym same) ∙ e))
      | other w z ↦ last_orderly t m s (suc n) o sound (other w z) (goes_on-other (suc n) t s w) w e
      | orderly w f ↦ last_orderly t m s (suc n) o sound (orderly w f) (goes_on-other (suc n) t s w) w e
      | plain w f r ↦ last_orderly t m s (suc n) o sound (plain w f r) (goes_on-other (suc n) t s w) w e
    ]

-- a begin writes no word
begin_words : (t : ℕ) (q : Request) (s : Table) → (event_outcome (Begin t q) s).after.words ≡ s.words
unfolding event_outcome accepted_outcome
begin_words t q s = by_refusal_of (table_refusal s (Begin t q))
  where
    by_refusal_of : (r : Option Refusal) → (by_refusal r (Begin t q) s).after.words ≡ s.words
    by_refusal_of None = refl
    by_refusal_of (Some r) = refl

-- a whole lock that is answered 0, of a thread that wasn't the owner
call_orderly : (s : Table) (t m : ℕ) → IsSound s → (word_at s.words m).number ≢ t
    → (call_outcome t (Lock m) s).seen ≡ Answered 0 → health_at (call_outcome t (Lock m) s).after m ≡ Fine
call_orderly s t m k apart e =
    let q = Lock m in
    let o = event_outcome (Begin t q) s in
    let fine = going_orderly 23 t m o.after Load (event_kept s (Begin t q) k).sound
    (begin_line t q s k (begun t 0 q s [] e))
    (λ own. apart (ap (λ ws. (word_at ws m).number) (sym (begin_words t q s)) ∙ own)) (rest t 0 q s [] e) in
    subst (λ (x : Outcome). health_at x.after m ≡ Fine) (sym (call_other t q s (allowed t 0 q s [] e))) fine

-- and so it is in each state in which the core stands then
pub lock_fine : (s v : Table) (t m : ℕ) (h : List Entry) (r : List World) (w : World) → Stands s h r w
    → (mutex_at w m).owner ≢ t → (call_outcome t (Lock m) s).seen ≡ Answered 0
    → v ≡ (call_outcome t (Lock m) s).after → IsFineIn m v
lock_fine s v t m h r w st apart e after =
    let owner = ap (λ (x : World). (mutex_at x m).owner) st.shows
    ∙ ap (λ (x : Mutex). x.owner) (mutex_seen st.sound.all.shape st.history_variables m) in
    shown_fine v m (subst (λ u. health_at u m ≡ Fine) (sym after)
    (call_orderly s t m st.sound (λ own. apart (owner ∙ own)) e))
