-- The facts on which a call rests at its place, each found among the needs of the place by what it is.
use Rattle.std.specs.Prelude.{ℕ, Bool, true, false, ⊤, List, [], ◌∷◌}
use Rattle.pif_types.specs.declared.requests.Request.{Request}
use Rattle.pif_model.specs.declared.lines.Place.{Place}
use Rattle.pif_model.specs.declared.lines.Status.{Status}
use Rattle.pif_model.specs.Posix.{named_by}
use Rattle.pif_model.specs.PiKernel.{is_living}
use Rattle.pif_model.specs.Table.{Table, Cell, status_at, cell_at}
use Rattle.pif_model.specs.Soundness.{Need, Use, Meets, MeetsAll, needs, use_at, CallIsSound}
use Rattle.pif_model.specs.Soundness.Need.{MayRun, HasStopped, NotStopped, Owns, OwnsNot, OwnsOnceReady, OwnsOnceHanded, HoldsOnce, MayStop, OfRobust, HealthIs, HealthIsNot, DiedIs, DiedBehindDisorder, IsBound, UsedAtLeast, BelowLimit}

-- one of two facts
abbrev pub Either : Bool → Type 0 → Type 0 → Type 0
Either true A B = A
Either false A B = B

either : (b : Bool) (A B : Type 0) → A → B → Either b A B
either true A B x y = x
either false A B x y = y

-- the first of some needs that passes a test, as a fact; nothing if none does
abbrev pub Fact : (Need → Bool) → (ℕ → Bool) → ℕ → Status → Cell → Use → List Need → Type 0
Fact test living t x c z [] = ⊤
Fact test living t x c z (n ∷ ns) = Either (test n) (Meets living t x c z n) (Fact test living t x c z ns)

-- it is met if all are
pub fact : (test : Need → Bool) (living : ℕ → Bool) (t : ℕ) (x : Status) (c : Cell) (z : Use) (ns : List Need)
    → MeetsAll living t x c z ns → Fact test living t x c z ns
fact test living t x c z [] h = tt
fact test living t x c z (n ∷ ns) h =
    either (test n) (Meets living t x c z n) (Fact test living t x c z ns) h.0 (fact test living t x c z ns h.1)

-- WHAT IT IS

abbrev pub is_ready_need : Need → Bool
is_ready_need MayRun = true
is_ready_need _ = false

abbrev pub is_stopped_need : Need → Bool
is_stopped_need HasStopped = true
is_stopped_need _ = false

abbrev pub is_unstopped_need : Need → Bool
is_unstopped_need NotStopped = true
is_unstopped_need _ = false

abbrev pub is_own_need : Need → Bool
is_own_need Owns = true
is_own_need _ = false

abbrev pub is_other_need : Need → Bool
is_other_need OwnsNot = true
is_other_need _ = false

abbrev pub is_own_ready_need : Need → Bool
is_own_ready_need OwnsOnceReady = true
is_own_ready_need _ = false

abbrev pub is_own_handed_need : Need → Bool
is_own_handed_need OwnsOnceHanded = true
is_own_handed_need _ = false

abbrev pub is_once_need : Need → Bool
is_once_need HoldsOnce = true
is_once_need _ = false

abbrev pub is_stop_need : Need → Bool
is_stop_need MayStop = true
is_stop_need _ = false

abbrev pub is_robust_need : Need → Bool
is_robust_need OfRobust = true
is_robust_need _ = false

abbrev pub is_health_need : Need → Bool
is_health_need (HealthIs a) = true
is_health_need (HealthIsNot a) = true
is_health_need _ = false

abbrev pub is_died_need : Need → Bool
is_died_need (DiedIs b) = true
is_died_need _ = false

abbrev pub is_behind_need : Need → Bool
is_behind_need DiedBehindDisorder = true
is_behind_need _ = false

abbrev pub is_bound_need : Need → Bool
is_bound_need IsBound = true
is_bound_need _ = false

abbrev pub is_used_need : Need → Bool
is_used_need (UsedAtLeast v) = true
is_used_need _ = false

abbrev pub is_below_need : Need → Bool
is_below_need (BelowLimit v) = true
is_below_need _ = false

-- WHAT A CALL KNOWS

-- what the call q of t knows of this at a place
abbrev pub Known : (Need → Bool) → Table → ℕ → Request → Place → Type 0
Known test s t q p =
    Fact test (is_living s.kernel) t (status_at s t) (cell_at s (named_by q)) (use_at s q) (needs p)

module _ {s : Table} {t : ℕ} {q : Request} {p : Place} (c : CallIsSound s t q p) where
  known_by : (test : Need → Bool) → Known test s t q p
  known_by test =
      fact test (is_living s.kernel) t (status_at s t) (cell_at s (named_by q)) (use_at s q) (needs p) c.needs

  -- t may run
  pub call_ready : Known is_ready_need s t q p
  call_ready = known_by is_ready_need

  -- t has stopped for good
  pub call_stopped : Known is_stopped_need s t q p
  call_stopped = known_by is_stopped_need

  -- t has not stopped, nor ended
  pub call_unstopped : Known is_unstopped_need s t q p
  call_unstopped = known_by is_unstopped_need

  -- t owns the mutex
  pub call_own : Known is_own_need s t q p
  call_own = known_by is_own_need

  -- t doesn't own the mutex
  pub call_other : Known is_other_need s t q p
  call_other = known_by is_other_need

  -- t owns the mutex once it may run
  pub call_own_ready : Known is_own_ready_need s t q p
  call_own_ready = known_by is_own_ready_need

  -- t owns the mutex exactly if it was handed over
  pub call_own_handed : Known is_own_handed_need s t q p
  call_own_handed = known_by is_own_handed_need

  -- t holds the mutex once
  pub call_once : Known is_once_need s t q p
  call_once = known_by is_once_need

  -- t may stop for good
  pub call_stop : Known is_stop_need s t q p
  call_stop = known_by is_stop_need

  -- the mutex is robust
  pub call_robust : Known is_robust_need s t q p
  call_robust = known_by is_robust_need

  -- what the health word is, or is not
  pub call_health : Known is_health_need s t q p
  call_health = known_by is_health_need

  -- whether OWNER_DIED is set
  pub call_died : Known is_died_need s t q p
  call_died = known_by is_died_need

  -- the health word says that the mutex is inconsistent only if OWNER_DIED is set
  pub call_behind : Known is_behind_need s t q p
  call_behind = known_by is_behind_need

  -- the variable is bound to the mutex
  pub call_bound : Known is_bound_need s t q p
  call_bound = known_by is_bound_need

  -- the variable was used so often
  pub call_used : Known is_used_need s t q p
  call_used = known_by is_used_need

  -- that is less often than it may be
  pub call_limited : Known is_below_need s t q p
  call_limited = known_by is_below_need
