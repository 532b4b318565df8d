-- The invariant of the table: what each open call rests on at its place, and what holds of threads, mutexes, variables
-- and robust lists.
use Rattle.std.specs.Prelude.{ℕ, ◌≡◌, ◌≢◌, ◌<◌, ◌≤◌, ◌+◌, ⊤, Bool, true, false, ◌==◌, List, [], ◌∷◌, length, if◌then◌else◌}
use Rattle.std.specs.List.{list_any}
use Rattle.pif_types.specs.Bounds.{IsWithin}
use Rattle.pif_types.specs.declared.requests.Kind.{Kind}
use Rattle.pif_types.specs.declared.requests.Kind.TheVariants.{Normal}
use Rattle.pif_model.specs.declared.lines.Relock.TheVariants.{Deadlocks, Counts}
use Rattle.pif_model.specs.Kinds.{relock_of}
use Rattle.pif_types.specs.declared.requests.Request.{Request}
use Rattle.pif_types.specs.declared.requests.Request.TheVariants.{Lock, TryLock, Unlock, Consistent, Wait, Signal, Broadcast, SetPrio}
use Rattle.pif_model.specs.NamedNumbers.{most_holds}
use Rattle.pif_model.specs.declared.lines.Line.{Line}
use Rattle.pif_model.specs.declared.lines.Line.TheVariants.{Idle, At}
use Rattle.pif_model.specs.declared.lines.Place.{Place}
use Rattle.pif_model.specs.declared.lines.Place.TheVariants.{Load, NamePending, Exchange, CallKernel, StayQueued, Stop, StayStopped, Take, Link, Give, Clear, LoadUses, Park, StayParked, Repair, Wake, SetPriority}
use Rattle.pif_model.specs.declared.lines.TakeStep.{TakeStep}
use Rattle.pif_model.specs.declared.lines.TakeStep.TheVariants.{LoadWord, LoadHealth, StoreInconsistent, ClearDied}
use Rattle.pif_model.specs.declared.lines.LinkStep.TheVariants.{WriteHead}
use Rattle.pif_model.specs.declared.lines.GiveStep.{GiveStep}
use Rattle.pif_model.specs.declared.lines.GiveStep.TheVariants.{SetPending, SeeHealth, StoreUnusable, Unlink, Release, CallUnlock}
use Rattle.pif_model.specs.declared.lines.Purpose.{Purpose}
use Rattle.pif_model.specs.declared.lines.Purpose.TheVariants.{ToUnlock, ToPark, ToLeave}
use Rattle.pif_model.specs.declared.lines.Footing.{Footing}
use Rattle.pif_model.specs.declared.lines.Footing.TheVariants.{Linked, Unowned, HadStopped}
use Rattle.pif_model.specs.declared.lines.RepairStep.{RepairStep}
use Rattle.pif_model.specs.declared.lines.RepairStep.TheVariants.{CheckHealth, StoreFine}
use Rattle.pif_model.specs.declared.lines.WakeStep.{WakeStep}
use Rattle.pif_model.specs.declared.lines.WakeStep.TheVariants.{CountUse}
use Rattle.pif_model.specs.declared.lines.Status.{Status}
use Rattle.pif_model.specs.declared.lines.Status.TheVariants.{Queued, Parked, Stopped, Ended}
use Rattle.pif_model.specs.Graph.{has_waiter}
use Rattle.pif_model.specs.Word.{free_word, word_at, health_word_at}
use Rattle.pif_model.specs.PiKernel.{IsKernel, Parking, is_ready, is_woken_again, is_living}
use Rattle.pif_model.specs.Posix.{named_by, variable_of, names_known}
use Rattle.pif_model.specs.RobustList.{no_robust_row, robust_at, is_listed}
use Rattle.pif_model.specs.Table.{Table, Cell, new_mutex, has_thread, has_mutex, has_cond, bound_to, uses_of, status_at, line_at, library_at, cell_at}

-- THE INVARIANT

-- why t may stop for good in a lock of a mutex
pub data MayStopFor (living : ℕ → Bool) (t : ℕ) (c : Cell) : Type 0 where
  -- t locks a mutex of its own that stops it, a NORMAL one
  own_normal : c.word.number ≡ t → relock_of c.kind ≡ Deadlocks → MayStopFor living t c
  -- the mutex is orphaned: it is stalled, and its owner has ended
  orphaned : c.robust ≡ false → c.word.number ≢ 0 → living c.word.number ≡ false → MayStopFor living t c

-- what a call has of the variable that it names
pub record Use : Type 0 where
  -- it is bound to the mutex that the call names
  pub bound : Bool
  -- how often it was used
  pub uses : ℕ
  -- how often it may be
  pub signals : ℕ

-- what a call of this request has of its variable
abbrev pub use_at : Table → Request → Use
use_at s q = record {
  bound = bound_to s (variable_of q) == named_by q;
  uses = uses_of s (variable_of q);
  signals = s.limits.signals;
}

-- a fact on which a call rests at a place: of its thread's status, of its mutex and its variable, and of who lives. No
-- step of another thread ends it, but for one that hands the mutex to this thread, or takes it off its variable
pub data Need : Type 0 where
  -- the thread may run
  MayRun : Need
  -- the thread is stopped for good
  HasStopped : Need
  -- the thread is not stopped, and has not ended
  NotStopped : Need
  -- the thread owns the mutex
  Owns : Need
  -- the thread doesn't own the mutex
  OwnsNot : Need
  -- the thread owns the mutex as soon as it may run: it was handed over
  OwnsOnceReady : Need
  -- the thread owns the mutex exactly if it may run and wasn't woken to lock it again: it was handed over
  OwnsOnceHanded : Need
  -- the thread holds the mutex once, if it owns it
  HoldsOnce : Need
  -- the thread may stop for good
  MayStop : Need
  -- the mutex is robust
  OfRobust : Need
  -- if the thread owns the mutex: its health word is this, or is not; OWNER_DIED is set, or is not; its health word
  -- says that it is inconsistent only if OWNER_DIED is set
  HealthIs : ℕ → Need
  HealthIsNot : ℕ → Need
  DiedIs : Bool → Need
  DiedBehindDisorder : Need
  -- the variable is bound to the mutex
  IsBound : Need
  -- the variable was used at least this often
  UsedAtLeast : ℕ → Need
  -- this is less often than the variable may be used
  BelowLimit : ℕ → Need

-- whether a thread of this status may run, and wasn't woken to lock its mutex itself
abbrev pub is_handed : Status → Bool
is_handed x = if is_woken_again x then false else is_ready x

-- whether a thread of this status and its call's mutex and variable meet a need
abbrev pub Meets : (ℕ → Bool) → ℕ → Status → Cell → Use → Need → Type 0
Meets living t x c z MayRun = is_ready x ≡ true
Meets living t x c z HasStopped = x ≡ Stopped
Meets living t x c z NotStopped = (x ≢ Stopped) × (x ≢ Ended)
Meets living t x c z Owns = c.word.number ≡ t
Meets living t x c z OwnsNot = c.word.number ≢ t
Meets living t x c z OwnsOnceReady = is_ready x ≡ true → c.word.number ≡ t
Meets living t x c z OwnsOnceHanded =
    (is_handed x ≡ true → c.word.number ≡ t) × (is_handed x ≡ false → c.word.number ≢ t)
Meets living t x c z HoldsOnce = c.word.number ≡ t → c.count ≡ 1
Meets living t x c z MayStop = MayStopFor living t c
Meets living t x c z OfRobust = c.robust ≡ true
Meets living t x c z (HealthIs h) = c.word.number ≡ t → c.health ≡ h
Meets living t x c z (HealthIsNot h) = c.word.number ≡ t → c.health ≢ h
Meets living t x c z (DiedIs b) = c.word.number ≡ t → c.word.died ≡ b
Meets living t x c z DiedBehindDisorder = c.word.number ≡ t → c.health ≡ 1 → c.word.died ≡ true
Meets living t x c z IsBound = z.bound ≡ true
Meets living t x c z (UsedAtLeast v) = v ≤ z.uses
Meets living t x c z (BelowLimit v) = v < z.signals

-- they meet all of some needs
abbrev pub MeetsAll : (ℕ → Bool) → ℕ → Status → Cell → Use → List Need → Type 0
MeetsAll living t x c z [] = ⊤
MeetsAll living t x c z (n ∷ ns) = Meets living t x c z n × MeetsAll living t x c z ns

-- what a call rests on at a step of taking over, besides that it owns a robust mutex, and holds it once
abbrev pub take_needs : TakeStep → List Need
take_needs LoadWord = DiedBehindDisorder ∷ []
take_needs (LoadHealth b) = DiedBehindDisorder ∷ DiedIs b ∷ []
take_needs StoreInconsistent = HealthIsNot 2 ∷ DiedIs true ∷ []
take_needs ClearDied = HealthIs 1 ∷ DiedIs true ∷ []

-- what an unlock or a wait rests on at a step of giving up, besides that it owns the mutex, and holds it once
abbrev pub give_needs : GiveStep → List Need
give_needs SetPending = OfRobust ∷ []
give_needs SeeHealth = OfRobust ∷ []
give_needs StoreUnusable = OfRobust ∷ HealthIs 1 ∷ []
give_needs Unlink = OfRobust ∷ HealthIsNot 1 ∷ DiedIs false ∷ []
give_needs Release = HealthIsNot 1 ∷ DiedIs false ∷ []
give_needs CallUnlock = HealthIsNot 1 ∷ DiedIs false ∷ []

-- the same by why it is given up: a wait knows of its variable, and who leaves knows that the mutex is unusable, while
-- OWNER_DIED may be set
abbrev pub purpose_needs : GiveStep → Purpose → List Need
purpose_needs x ToUnlock = give_needs x
purpose_needs x (ToPark v) = IsBound ∷ UsedAtLeast v ∷ give_needs x
purpose_needs x ToLeave = OfRobust ∷ HealthIs 2 ∷ []

-- what a call rests on that clears its pending field
abbrev pub clear_needs : Footing → List Need
clear_needs Linked = Owns ∷ HoldsOnce ∷ OfRobust ∷ []
clear_needs Unowned = OwnsNot ∷ OfRobust ∷ []
clear_needs HadStopped = OfRobust ∷ []

-- what a consistent rests on after its load, besides that it owns a robust mutex
abbrev pub repair_needs : RepairStep → List Need
repair_needs CheckHealth = []
repair_needs StoreFine = HealthIs 1 ∷ []

-- what a signal or a broadcast rests on
abbrev pub wake_needs : WakeStep → List Need
wake_needs (CountUse v) = BelowLimit v ∷ []
wake_needs _ = []

-- what a call rests on at each place
abbrev pub needs : Place → List Need
needs Load = MayRun ∷ []
needs NamePending = MayRun ∷ OwnsNot ∷ OfRobust ∷ []
needs Exchange = MayRun ∷ OwnsNot ∷ []
needs CallKernel = MayRun ∷ OwnsNot ∷ []
needs StayQueued = NotStopped ∷ OwnsOnceReady ∷ HoldsOnce ∷ DiedBehindDisorder ∷ []
needs Stop = MayRun ∷ MayStop ∷ []
needs StayStopped = HasStopped ∷ []
needs (Take x) = MayRun ∷ Owns ∷ HoldsOnce ∷ OfRobust ∷ take_needs x
needs (Link x a) = MayRun ∷ Owns ∷ HoldsOnce ∷ OfRobust ∷ []
needs (Give x y) = MayRun ∷ Owns ∷ HoldsOnce ∷ purpose_needs x y
needs (Clear f a) = MayRun ∷ clear_needs f
needs LoadUses = MayRun ∷ Owns ∷ HoldsOnce ∷ IsBound ∷ []
needs (Park v) = MayRun ∷ OwnsNot ∷ IsBound ∷ UsedAtLeast v ∷ []
needs StayParked = NotStopped ∷ OwnsOnceHanded ∷ HoldsOnce ∷ DiedBehindDisorder ∷ IsBound ∷ []
needs (Repair x) = MayRun ∷ Owns ∷ OfRobust ∷ repair_needs x
needs (Wake x) = MayRun ∷ wake_needs x
needs SetPriority = MayRun ∷ []

-- whether a mutex that is given up is off its list at this step: the exchange, and the kernel call
abbrev pub is_last : GiveStep → Bool
is_last Release = true
is_last CallUnlock = true
is_last _ = false

-- whether a call that locks comes to this step of giving its mutex up: it leaves it
abbrev pub leaves_by : GiveStep → Purpose → Bool
leaves_by x ToLeave = is_last x
leaves_by x _ = false

-- whether every call that locks comes to this place: the exchange, taking over, leaving, and clearing the pending field
abbrev pub is_shared : Place → Bool
is_shared Exchange = true
is_shared (Take x) = true
is_shared (Link x a) = true
is_shared (Give x y) = leaves_by x y
is_shared (Clear f a) = true
is_shared _ = false

-- whether lock and wait come to this place: the steps of lock from the exchange on
abbrev pub is_locking : Place → Bool
is_locking CallKernel = true
is_locking StayQueued = true
is_locking Stop = true
is_locking StayStopped = true
is_locking p = is_shared p

-- whether signal and broadcast come to this place
abbrev pub is_using : Place → Bool
is_using (Wake x) = true
is_using _ = false

-- whether a call of this request comes to this place
abbrev pub belongs : Request → Place → Bool
belongs (Lock m) Load = true
belongs (Lock m) NamePending = true
belongs (Lock m) p = is_locking p
belongs (TryLock m) Load = true
belongs (TryLock m) NamePending = true
belongs (TryLock m) CallKernel = true
belongs (TryLock m) p = is_shared p
belongs (Unlock m) Load = true
belongs (Unlock m) (Give x ToUnlock) = true
belongs (Unlock m) (Clear f a) = true
belongs (Consistent m) Load = true
belongs (Consistent m) (Repair x) = true
belongs (Wait c m) Load = true
belongs (Wait c m) LoadUses = true
belongs (Wait c m) (Give x (ToPark v)) = true
belongs (Wait c m) (Park v) = true
belongs (Wait c m) StayParked = true
belongs (Wait c m) p = is_locking p
belongs (Signal c) p = is_using p
belongs (Broadcast c) p = is_using p
belongs (SetPrio u p) SetPriority = true
belongs _ _ = false

-- the mutex for which a call of this request may wait; 0 if it waits for none
abbrev pub waited_in : Request → ℕ
waited_in (Lock m) = m
waited_in (Wait c m) = m
waited_in _ = 0

-- what an open call of t at a place knows: the mutex and the variable that it names exist, the place is one of the
-- request's, and what the call rests on there holds
pub record CallIsSound (s : Table) (t : ℕ) (q : Request) (p : Place) : Type 0 where
  pub named : names_known (has_mutex s) (has_cond s) q ≡ true
  pub belongs : belongs q p ≡ true
  pub needs : MeetsAll (is_living s.kernel) t (status_at s t) (cell_at s (named_by q)) (use_at s q) (needs p)

-- what a thread at this line knows: with no call open it may run
abbrev pub LineIsSound : Table → ℕ → Line → Type 0
LineIsSound s t Idle = is_ready (status_at s t) ≡ true
LineIsSound s t (At q p) = CallIsSound s t q p

-- whether a thread may be queued at this place: by lock_pi, or since it was taken from its variable
abbrev pub is_queued_place : Place → Bool
is_queued_place StayQueued = true
is_queued_place StayParked = true
is_queued_place _ = false

-- a thread that is queued on m is in a call that waits for m, at a place where it may be queued
pub record IsQueuedLine (m : ℕ) (l : Line) : Type 0 where
  pub request : Request
  pub place : Place
  pub line : l ≡ At request place
  pub queued : is_queued_place place ≡ true
  pub waits : waited_in request ≡ m

-- a thread that is parked on c is in a wait on c, at the place where it is parked
pub record IsParkedLine (c : ℕ) (l : Line) : Type 0 where
  pub mutex : ℕ
  pub line : l ≡ At (Wait c mutex) StayParked

-- ROBUST LISTS

-- whether the pending field names a mutex that is given up at this step
abbrev pub is_named_giving : GiveStep → Bool
is_named_giving SetPending = false
is_named_giving _ = true

-- whether a mutex that is given up may be unusable at this step
abbrev pub is_loose_giving : GiveStep → Bool
is_loose_giving Unlink = true
is_loose_giving Release = true
is_loose_giving CallUnlock = true
is_loose_giving _ = false

-- whether the pending field names the mutex of a call that clears it
abbrev pub is_named_clearing : Footing → Bool
is_named_clearing HadStopped = false
is_named_clearing _ = true

-- whether the pending field names the call's mutex at this place, if that is robust
abbrev pub is_pending : Place → Bool
is_pending Exchange = true
is_pending CallKernel = true
is_pending StayQueued = true
is_pending (Take x) = true
is_pending (Link x a) = true
is_pending (Give x y) = is_named_giving x
is_pending (Clear f a) = is_named_clearing f
is_pending (Park v) = true
is_pending StayParked = true
is_pending _ = false

-- whether the call's mutex, if its thread owns it, is not on the list at this place: handed over and not noticed,
-- while it is taken over, left, or given up by an unlock or a wait
abbrev pub is_unlinked : Place → Bool
is_unlinked StayQueued = true
is_unlinked (Take x) = true
is_unlinked (Link x a) = true
is_unlinked (Give x y) = is_last x
is_unlinked StayParked = true
is_unlinked _ = false

-- whether only the link of the call's mutex is written at this place
abbrev pub is_half_linked : Place → Bool
is_half_linked (Link WriteHead a) = true
is_half_linked _ = false

-- whether at this place the call's mutex, if its thread owns it, may have OWNER_DIED or be unusable
abbrev pub is_unsettled : Place → Bool
is_unsettled StayQueued = true
is_unsettled (Take x) = true
is_unsettled (Give x y) = is_loose_giving x
is_unsettled StayParked = true
is_unsettled _ = false

-- the mutex of the call at a line, if its place passes this test; 0 else
abbrev pub mutex_by : (Place → Bool) → Line → ℕ
mutex_by test Idle = 0
mutex_by test (At q p) = if test p then named_by q else 0

-- the mutex that the pending field, or the half-linked one, is at a line: such a mutex, if it is robust
abbrev pub robust_by : (Place → Bool) → Table → Line → ℕ
robust_by test s l = if (library_at s (mutex_by test l)).robust then mutex_by test l else 0

-- whether t owns m, which was added and is robust
abbrev pub holds_robust : Table → ℕ → ℕ → Bool
holds_robust s t m = if has_mutex s m then (if (library_at s m).robust then (word_at s.words m).number == t else false) else false

-- the robust list of a thread, by its line: what it owns of robust mutexes is on it, save for the mutex of an unlinked
-- place; and its pending field and its half-linked mutex are as the place has them
pub record ListIsSound (s : Table) (t : ℕ) (l : Line) : Type 0 where
  pub pending : (robust_at s.lists t).pending ≡ robust_by is_pending s l
  pub half_linked : (robust_at s.lists t).half_linked ≡ robust_by is_half_linked s l
  pub listed : (m : ℕ) → is_listed s.lists t m ≡ (if holds_robust s t m then (if m == mutex_by is_unlinked l then false else true) else false)

-- what holds of a living thread
pub record ThreadIsSound (s : Table) (t : ℕ) : Type 0 where
  pub line : LineIsSound s t (line_at s t)
  pub queue : (m : ℕ) → status_at s t ≡ Queued m → IsQueuedLine m (line_at s t)
  pub parked : (c : ℕ) → status_at s t ≡ Parked c → IsParkedLine c (line_at s t)
  pub list : ListIsSound s t (line_at s t)
  -- what it owns is in order, save for the mutex of an unsettled place
  pub settled : (m : ℕ) → has_mutex s m ≡ true → (word_at s.words m).number ≡ t → m ≢ mutex_by is_unsettled (line_at s t)
      → ((word_at s.words m).died ≡ false) × (health_word_at s.words m ≢ 2)

-- what holds of a number that is no living thread's: it has no call, and nothing on a list
pub record AbsentIsSound (s : Table) (t : ℕ) : Type 0 where
  pub line : line_at s t ≡ Idle
  pub list : robust_at s.lists t ≡ no_robust_row

-- how often its owner, 0 for none, holds a mutex of this kind: once to 255 times, and once if it has no owner or
-- no lock by the owner counts
pub record CountIsSound (kind : Kind) (owner count : ℕ) : Type 0 where
  pub some : 1 ≤ count
  pub few : count ≤ most_holds
  pub unowned : owner ≡ 0 → count ≡ 1
  pub single : relock_of kind ≢ Counts → count ≡ 1

-- a mutex that was added, by which threads were added and whether one waits for it
pub record CellIsSound (added : ℕ → Bool) (waited : Bool) (c : Cell) : Type 0 where
  pub count : CountIsSound c.kind c.word.number c.count
  -- of a stalled mutex nothing tells that an owner has ended
  pub stalled : c.robust ≡ false → (c.word.died ≡ false) × (c.health ≡ 0)
  -- who owns it was added
  pub owner : c.word.number ≢ 0 → added c.word.number ≡ true
  -- nobody waits for a free mutex; without OWNER_DIED its word has no flag, and its health word says no disorder
  pub free : c.word.number ≡ 0 → waited ≡ false
  pub clean : c.word.number ≡ 0 → c.word.died ≡ false → (c.word.waiters ≡ false) × (c.health ≢ 1)
  -- there is an owner state exactly while threads are queued, and it names the word's owner; WAITERS is set then
  pub state : c.state_owner ≡ (if waited then c.word.number else 0)
  pub contended : waited ≡ true → c.word.waiters ≡ true

-- a variable that was added: it is bound to a mutex that was, and was used as often as it may be at most
pub record CondIsSound (s : Table) (c : ℕ) : Type 0 where
  pub bound : has_mutex s (bound_to s c) ≡ true
  pub uses : uses_of s c ≤ s.limits.signals

-- the parts fit together: each thread of the kernel has a line and a timer, and each that can be a robust list, and
-- nobody is at place 0; there are a word and a health word for each mutex that the limits allow, and of those that were
-- not added they are free and fine, and nobody waits for them; there is a condition word for each variable that the
-- limits allow, and of those that were not added it is 0
pub record IsShaped (s : Table) : Type 0 where
  pub limits : s.kernel.limits ≡ s.limits
  pub within : IsWithin s.limits
  pub lines : length s.lines ≡ length s.kernel.seats
  pub timers : length s.timers ≡ length s.lines
  pub nobody : line_at s 0 ≡ Idle
  pub lists : length s.lists.threads ≡ s.limits.threads + 1
  pub some_mutex : 1 ≤ length s.mutexes
  pub few_mutexes : length s.mutexes ≤ s.limits.mutexes + 1
  pub no_mutex : library_at s 0 ≡ new_mutex Normal false
  pub words : length s.words.mutexes ≡ s.limits.mutexes + 1
  pub healths : length s.words.healths ≡ s.limits.mutexes + 1
  pub no_word : word_at s.words 0 ≡ free_word
  pub no_health : health_word_at s.words 0 ≡ 0
  pub unmade : (m : ℕ) → length s.mutexes ≤ m → (word_at s.words m ≡ free_word) × (health_word_at s.words m ≡ 0) × (has_waiter s.kernel.waiters m ≡ false)
  pub some_cond : 1 ≤ length s.conds
  pub few_conds : length s.conds ≤ s.limits.conds + 1
  pub no_cond : bound_to s 0 ≡ 0
  pub cond_words : length s.words.conds ≡ s.limits.conds + 1
  pub no_cond_word : uses_of s 0 ≡ 0
  pub unmade_conds : (c : ℕ) → length s.conds ≤ c → uses_of s c ≡ 0

-- the invariant of the table, save for what holds of exempt threads and for what its kernel keeps
pub record SoundExcept (Exempt : ℕ → Type 0) (s : Table) : Type 0 where
  pub shape : IsShaped s
  pub mutexes : (m : ℕ) → has_mutex s m ≡ true → CellIsSound (has_thread s) (has_waiter s.kernel.waiters m) (cell_at s m)
  pub conds : (c : ℕ) → has_cond s c ≡ true → CondIsSound s c
  -- who is parked is to get the mutex to which the variable is bound
  pub targets : (c m : ℕ)
      → list_any (λ (p : Parking). if p.cond == c then p.target == m else false) s.kernel.parked ≡ true
      → bound_to s c ≡ m
  -- who owns a robust mutex lives
  pub alive : (m : ℕ) → has_mutex s m ≡ true → (library_at s m).robust ≡ true → (word_at s.words m).number ≢ 0
      → (Exempt (word_at s.words m).number → ⊥) → is_living s.kernel (word_at s.words m).number ≡ true
  pub threads : (t : ℕ) → is_living s.kernel t ≡ true → (Exempt t → ⊥) → ThreadIsSound s t
  pub absent : (t : ℕ) → is_living s.kernel t ≡ false → (Exempt t → ⊥) → AbsentIsSound s t

-- the invariant of the table: nobody is exempt, and its kernel is one
pub record IsSound (s : Table) : Type 0 where
  pub all : SoundExcept (λ t. ⊥) s
  pub kernel : IsKernel s.kernel
