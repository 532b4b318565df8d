-- The POSIX machine with one effect at a time. A Go of Posix.antt may have several effects, and locks by which others
-- reacquire their mutexes. Here a move is one of these, of one thread. A history's hidden entries are moves, and the
-- others need none but before an answer.
use Rattle.std.specs.Prelude.{ℕ, ◌≡◌, ◌⊎◌, Bool, true, false, ◌==◌, List, [], ◌∷◌}
use Rattle.std.specs.List.{list_any}
use Rattle.pif_types.specs.Bounds.{Bounds}
use Rattle.pif_types.specs.declared.requests.Request.{Request}
use Rattle.pif_types.specs.declared.requests.Request.TheVariants.{Wait}
use Rattle.pif_model.specs.declared.events.Event.TheVariants.{Go}
use Rattle.pif_model.specs.declared.events.Seen.{Seen}
use Rattle.pif_model.specs.declared.events.Seen.TheVariants.{Went, Waits, Answered, Refused}
use Rattle.pif_model.specs.declared.events.Entry.{Entry}
use Rattle.pif_model.specs.declared.events.Entry.TheVariants.{Step as Happened}
use Rattle.pif_model.specs.Posix.{World, IsAllowed, IsNotResting, IsBlocked, HasCome, Comes, Effect, Expires, Step, is_due, with_call_by, without_call, thread_at}
use Rattle.pif_model.specs.World.Progress.{Has, Blocked}
use Rattle.pif_model.specs.Deadlines.{reported_result}

-- MOVES

-- t's open call does one thing that no line of a history shows
pub data Acts (t : ℕ) (w v : World) : Type 0 where
  -- it has one effect
  effect : Effect t w v → Acts t w v
  -- it is due, and expires
  expires : is_due w t ≡ true → Expires t w v → Acts t w v
  -- it is blocked, and it is noted that its thread was told to wait: from now on its deadline counts
  notes : (c m : ℕ) → HasCome w t (Wait c m) (Blocked false) → Comes t (Blocked true) w v → Acts t w v

-- a move of t: a Go of it is allowed, and it does one thing
pub record MovesOnce (t : ℕ) (w v : World) : Type 0 where
  pub allowed : IsAllowed w (Go t)
  pub acts : Acts t w v

-- moves from w on, by these threads, the last one first
pub data AreMoves (w : World) : List ℕ → World → Type 0 where
  no_move : {v : World} → v ≡ w → AreMoves w [] v
  one_more : {ts : List ℕ} {t : ℕ} {u v : World} → AreMoves w ts u → MovesOnce t u v → AreMoves w (t ∷ ts) v

-- each of these threads is t, or was blocked on a variable in w: it may have to reacquire a mutex later
abbrev pub AreOfOrBlocked : ℕ → World → List ℕ → Type 0
AreOfOrBlocked t w ts = (u : ℕ) → list_any (λ x. x == u) ts ≡ true → (u ≡ t) ⊎ ((c : ℕ) × IsBlocked w c u)

-- ENTRIES

-- t's open call, which has its result, is answered a and closes, and nothing else happens
pub record Answers (t a : ℕ) (w v : World) : Type 0 where
  pub request : Request
  pub result : ℕ
  pub call : HasCome w t request (Has result)
  pub told : a ≡ reported_result request (thread_at w t).timer.expired result
  pub allowed : IsAllowed w (Go t)
  pub goes_on : IsNotResting v t
  pub closes : v ≡ with_call_by t without_call w

-- whether an entry is a Go
abbrev pub is_go : Entry → Bool
is_go (Happened (Go t) seen) = true
is_go _ = false

-- whether an entry is a Go that closes no call: no line of a history shows it
abbrev pub is_hidden : Entry → Bool
is_hidden (Happened (Go t) Went) = true
is_hidden (Happened (Go t) Waits) = true
is_hidden _ = false

-- whether an entry is a refused event
abbrev pub is_refused : Entry → Bool
is_refused (Happened x (Refused r)) = true
is_refused _ = false

-- one entry that a line of a history shows, from w to v: nothing moves beside it
pub data Enters (l : Bounds) (w : World) (e : Entry) (v : World) : Type 0 where
  -- an answer
  answered : (t a : ℕ) → e ≡ Happened (Go t) (Answered a) → Answers t a w v → Enters l w e v
  -- an addition, the begin of a call, the end of a thread, or a tick
  other : is_go e ≡ false → is_refused e ≡ false → Step l w e v → Enters l w e v

-- WHAT THE LAWS SAY

-- t goes on from w to v by one entry that no line shows
pub record GoesHidden (l : Bounds) (t : ℕ) (w v : World) : Type 0 where
  pub seen : Seen
  pub hidden : is_hidden (Happened (Go t) seen) ≡ true
  pub step : Step l w (Happened (Go t) seen) v

-- the entry e from w to v is a Go, which some moves make up: of its own thread, or of threads that were blocked before
pub record IsByMoves (w : World) (e : Entry) (v : World) : Type 0 where
  pub thread : ℕ
  pub seen : Seen
  pub entry : e ≡ Happened (Go thread) seen
  pub threads : List ℕ
  pub moves : AreMoves w threads v
  pub whose : AreOfOrBlocked thread w threads

-- the entry e leads from w to v by some moves, and then by the entry alone
pub record IsByMovesAndEntry (l : Bounds) (w : World) (e : Entry) (v : World) : Type 0 where
  pub threads : List ℕ
  pub before : World
  pub moves : AreMoves w threads before
  pub enters : Enters l before e v
