-- A delay: what one processor does while a thread is held up, and who may run there.
use Rattle.std.specs.Prelude.{ℕ, ◌≡◌, ◌≢◌, ◌<◌, Bool, true, false, ◌==◌, nat_lt, List, [], ◌∷◌, if◌then◌else◌}
use Rattle.std.specs.List.{list_any, count_by, AllByRecursion}
use Rattle.pif_types.specs.Bounds.{Bounds}
use Rattle.pif_types.specs.declared.requests.Kind.{Kind}
use Rattle.pif_types.specs.declared.requests.Request.{Request}
use Rattle.pif_types.specs.declared.requests.Request.TheVariants.{SetPrio}
use Rattle.pif_model.specs.declared.events.Event.TheVariants.{Begin, Go, End, Tick}
use Rattle.pif_model.specs.declared.events.Seen.{Seen}
use Rattle.pif_model.specs.declared.events.Entry.{Entry}
use Rattle.pif_model.specs.declared.events.Entry.TheVariants.{Thread as AddThread, Mutex as AddMutex, Cond as AddCond, Step as Happened}
use Rattle.pif_model.specs.Graph.{Reaches}
use Rattle.pif_model.specs.Posix.{Progress, Mutex, World, Step, WaitsFor, HasCome, IsOwner, IsBlocked, IsResting, thread_at}
use Rattle.pif_model.specs.World.Progress.{Stuck}
use Rattle.pif_model.specs.Standing.{IsPick}
use Rattle.pif_model_simulation.specs.Waiters.{is_waiter}
use Rattle.pif_model_inversion.specs.Inversion.{IsReady, IsHighestAwake, is_one_of}

-- t is engaged: it owns a mutex, is among the waiters of one, waits for good, or is blocked on a variable. A living
-- thread that isn't is ready and owns nothing
pub data IsEngaged (w : World) (t : ℕ) : Type 0 where
  owns : (m : ℕ) → t ≢ 0 → IsOwner w t m → IsEngaged w t
  waits_for_mutex : (m : ℕ) → is_waiter w t m ≡ true → IsEngaged w t
  waits_for_good : (q : Request) → HasCome w t q Stuck → IsEngaged w t
  waits_on_variable : (c : ℕ) → IsBlocked w c t → IsEngaged w t

-- h is held up: it rests, and waits through some chain for a ready thread
pub record IsHeldUp (w : World) (h : ℕ) : Type 0 where
  pub rests : IsResting w h
  pub end : ℕ
  pub chain : Reaches (WaitsFor w) h end
  pub ready : IsReady w end

-- an entry of p alone: it begins a call, or goes on with one, whatever it is answered
pub data IsEntryOf (p : ℕ) (e : Entry) : Type 0 where
  begins : (q : Request) (x : Seen) → e ≡ Happened (Begin p q) x → IsEntryOf p e
  goes : (x : Seen) → e ≡ Happened (Go p) x → IsEntryOf p e

-- an entry for which no thread needs the processor: the time changes; a thread that rests takes a step, at which its
-- call may expire; a thread ends, or something is added
pub data IsBeside (w : World) (e : Entry) : Type 0 where
  ticks : (n : ℕ) (x : Seen) → e ≡ Happened (Tick n) x → IsBeside w e
  expires : (t : ℕ) (x : Seen) → IsResting w t → e ≡ Happened (Go t) x → IsBeside w e
  ends : (t : ℕ) (x : Seen) → e ≡ Happened (End t) x → IsBeside w e
  adds_thread : (t p : ℕ) → e ≡ AddThread t p → IsBeside w e
  adds_mutex : (m : ℕ) (k : Kind) (r : Bool) → e ≡ AddMutex m k r → IsBeside w e
  adds_cond : (c m : ℕ) → e ≡ AddCond c m → IsBeside w e

-- From w to v one processor goes on while h is held up, by entries that may come where they do. The list has the
-- threads that ran, newest first, one for each entry of a thread, each with the state in which it ran. Each is the one
-- that runs next there. In between come entries for which no thread needs the processor
pub data IsDelayBy (MayCome : World → Entry → Type 0) (l : Bounds) (h : ℕ) (w : World) : List (ℕ × World) → World → Type 0 where
  starts : {v : World} → v ≡ w → IsDelayBy MayCome l h w [] v
  runs : {turns : List (ℕ × World)} {v z : World} (p : ℕ) (e : Entry) → IsDelayBy MayCome l h w turns v → IsHeldUp v h
      → IsPick v p → IsEntryOf p e → MayCome v e → Step l v e z → IsDelayBy MayCome l h w ((p, v) ∷ turns) z
  beside : {turns : List (ℕ × World)} {v z : World} (e : Entry) → IsDelayBy MayCome l h w turns v → IsBeside v e
      → MayCome v e → Step l v e z → IsDelayBy MayCome l h w turns z

-- a delay of h, in which any entry may come
abbrev pub IsDelay : Bounds → ℕ → World → List (ℕ × World) → World → Type 0
IsDelay l h w turns v = IsDelayBy (λ (x : World) (e : Entry). Unit {0}) l h w turns v

-- WHO RAN

-- whether t ran
abbrev pub has_run : List (ℕ × World) → ℕ → Bool
has_run turns t = list_any (λ x. x.0 == t) turns

-- whether t owns a mutex
abbrev pub owns_any : World → ℕ → Bool
owns_any w t = list_any (λ (m : Mutex). m.owner == t) w.mutexes

-- how often t ran while it owned a mutex
abbrev pub times_owning : List (ℕ × World) → ℕ → ℕ
times_owning turns t = count_by (λ x. if x.0 == t then owns_any x.1 t else false) turns

-- whether this was a turn of t, and its base priority was that of h or more
abbrev pub is_high : ℕ → ℕ → ℕ × World → Bool
is_high h t x = if x.0 == t then (if nat_lt (thread_at x.1 t).base (thread_at x.1 h).base then false else true) else false

-- whether t ever ran with the base priority of h or more. Who ran and never did so is a lower thread
abbrev pub ran_high : ℕ → List (ℕ × World) → ℕ → Bool
ran_high h turns t = list_any (is_high h t) turns

-- how many turns were of lower threads
abbrev pub lower_turns : ℕ → List (ℕ × World) → ℕ
lower_turns h turns = count_by (λ x. if ran_high h turns x.0 then false else true) turns

-- whoever is engaged in w, and never ran with the base priority of h or more, is among ts
abbrev pub AreAllLowerEngaged : World → ℕ → List (ℕ × World) → List ℕ → Type 0
AreAllLowerEngaged w h turns ts = (t : ℕ) → IsEngaged w t → ran_high h turns t ≡ false → is_one_of ts t ≡ true

-- IF THE THREAD IS THE HIGHEST

-- whenever somebody ran, h had the greatest base priority of all that didn't sleep
abbrev pub IsAlwaysHighestAwake : ℕ → List (ℕ × World) → Type 0
IsAlwaysHighestAwake h turns = AllByRecursion (λ x. IsHighestAwake x.1 h) turns

-- h waited, through some chain, for each one that ran
abbrev pub AreOnItsChain : ℕ → List (ℕ × World) → Type 0
AreOnItsChain h turns = AllByRecursion (λ x. Reaches (WaitsFor x.1) h x.0) turns

-- no entry at w raises anybody to the base priority of h: it is no step of a setprio, and adds no thread of that
-- priority or more
pub record RaisesNobody (h : ℕ) (w : World) (e : Entry) : Type 0 where
  pub sets : (t u p : ℕ) (x : Seen) (a : Progress) → e ≡ Happened (Go t) x → HasCome w t (SetPrio u p) a → ⊥
  pub adds : (t p : ℕ) → e ≡ AddThread t p → p < (thread_at w h).base

-- a delay of h in which no entry raises anybody
abbrev pub IsCalmDelay : Bounds → ℕ → World → List (ℕ × World) → World → Type 0
IsCalmDelay l h w turns v = IsDelayBy (RaisesNobody h) l h w turns v
