-- What becomes of a robust mutex once its owner has ended, and of a lock of it that one thread makes alone
-- (POSIX.1-2017, the pages pthread_mutexattr_setrobust, pthread_mutex_lock and pthread_mutex_consistent).
use Rattle.std.specs.Prelude.{ℕ, ◌≡◌, true, false}
use Rattle.pif_types.specs.Bounds.{Bounds}
use Rattle.pif_types.specs.declared.requests.Request.{Request}
use Rattle.pif_types.specs.declared.requests.Request.TheVariants.{Lock, Unlock, Consistent}
use Rattle.pif_model.specs.NamedNumbers.{EOWNERDEAD, ENOTRECOVERABLE}
use Rattle.pif_model.specs.declared.events.Event.TheVariants.{Begin, Go}
use Rattle.pif_model.specs.declared.events.Seen.{Seen}
use Rattle.pif_model.specs.declared.events.Seen.TheVariants.{Begun, Went, Answered}
use Rattle.pif_model.specs.declared.events.Entry.TheVariants.{Step as Happened}
use Rattle.pif_model.specs.Posix.{Health, World, Step, mutex_at, next_of, on_death, after_end}
use Rattle.pif_model.specs.World.Health.{Fine, Inconsistent, Unusable}
use Rattle.pif_model.specs.Lines.{is_open}
use Rattle.pif_model.specs.PiKernel.{is_living}
use Rattle.pif_model.specs.Table.{Table, line_at}
use Rattle.pif_model_simulation.specs.Calls.{call_outcome}

-- m has passed on from w to v, since its owner t has ended. Its owner is its next waiter at the moment at which t has
-- left all, or nobody if it has none. It is held once, and its health is what the end of an owner leaves: Inconsistent,
-- or Unusable if it was
pub record HasPassedOn (w v : World) (t m : ℕ) : Type 0 where
  pub owner : (mutex_at v m).owner ≡ next_of (after_end t w) m
  pub count : (mutex_at v m).count ≡ 1
  pub health : (mutex_at v m).health ≡ on_death (mutex_at w m).health

-- what a lock of a mutex that nobody owns is answered, by the health of the mutex
abbrev pub answer_of_free : Health → ℕ
answer_of_free Fine = 0
answer_of_free Inconsistent = EOWNERDEAD
answer_of_free Unusable = ENOTRECOVERABLE

-- from w to v t alone goes on: its steps are answered Went, and no other entry comes between
pub data GoesOnAlone (l : Bounds) (t : ℕ) (w : World) : World → Type 0 where
  starts : {v : World} → v ≡ w → GoesOnAlone l t w v
  steps : {u v : World} → GoesOnAlone l t w u → Step l u (Happened (Go t) Went) v → GoesOnAlone l t w v

-- from w to v t alone makes a call of this request: it begins it, goes on, and its last step is answered x
pub record CallsAlone (l : Bounds) (t : ℕ) (q : Request) (w : World) (x : Seen) (v : World) : Type 0 where
  pub first : World
  pub last : World
  pub begins : Step l w (Happened (Begin t q) Begun) first
  pub goes : GoesOnAlone l t first last
  pub ends : Step l last (Happened (Go t) x) v

-- t, which has just locked m, goes on alone: its consistent is answered 0, and then its unlock is. Whichever living
-- thread with no call open then locks m is answered 0, if it goes on alone as well. Each is a whole call of a core, of
-- 24 steps at most
pub record RepairedBy (t m : ℕ) (s : Table) : Type 0 where
  pub made_fine : (call_outcome t (Consistent m) s).seen ≡ Answered 0
  pub given_up : (call_outcome t (Unlock m) (call_outcome t (Consistent m) s).after).seen ≡ Answered 0
  pub taken_again : (u : ℕ)
      → is_living (call_outcome t (Unlock m) (call_outcome t (Consistent m) s).after).after.kernel u ≡ true
      → is_open (line_at (call_outcome t (Unlock m) (call_outcome t (Consistent m) s).after).after u) ≡ false
      → (call_outcome u (Lock m) (call_outcome t (Unlock m) (call_outcome t (Consistent m) s).after).after).seen ≡ Answered 0
