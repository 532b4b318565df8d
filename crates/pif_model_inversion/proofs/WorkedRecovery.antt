-- A worked recovery: t1 owns m1, which is robust, and ends. t2 locks m1 alone, and is answered EOWNERDEAD; it makes m1
-- consistent, unlocks it and locks it again, each time answered 0. So what the law asks can be met.
use Rattle.std.proofs.Common.{◌≡◌, ℕ, zero, suc, Bool, true, false, [], ◌∷◌, Option, Some, None, refl, arith}
use Rattle.pif_types.specs.Bounds.{Bounds}
use Rattle.pif_types.specs.declared.requests.Kind.TheVariants.{Normal}
use Rattle.pif_types.specs.declared.requests.Request.{Request}
use Rattle.pif_types.specs.declared.requests.Request.TheVariants.{Lock, Unlock, Consistent}
use Rattle.pif_model.specs.declared.events.Event.TheVariants.{Begin, Go, End}
use Rattle.pif_model.specs.declared.events.Seen.TheVariants.{Begun, Answered, Ended}
use Rattle.pif_model.specs.declared.events.Entry.TheVariants.{Thread as AddThread, Mutex as AddMutex, Step as Happened}
use Rattle.pif_model.specs.Graph.{reaches_within, greatest_where, effective_among, first_greatest, waited_by, next_waiter}
use Rattle.pif_model.specs.Posix.{Health, Progress, Call, World, nobody, no_mutex, no_variable, no_memory, mutex_at, Step, IsLegal}
use Rattle.pif_model.specs.World.Health.{Fine, Inconsistent}
use Rattle.pif_model.specs.World.Progress.{Fresh, Has}
use Rattle.pif_model.specs.Posix.Locks.{free}
use Rattle.pif_model.specs.Posix.Passes.{to_nobody}
use Rattle.pif_model.specs.Posix.Unlocks.{released}
use Rattle.pif_model.specs.Posix.MakesConsistent.{made_fine}
use Rattle.pif_model.specs.Posix.Releases.{none_left, one_more}
use Rattle.pif_model.specs.Posix.Effect.{lock, unlock, consistent}
use Rattle.pif_model.specs.Posix.Moves.{acts}
use Rattle.pif_model.specs.Deadlines.{no_timer}
use Rattle.pif_model.specs.Posix.Effects.{none as no_effect, then as effect_then}
use Rattle.pif_model.specs.Posix.Step.{thread_added, mutex_added, begun, answered, ended}
use Rattle.pif_model.specs.Posix.IsRun.{start, next}
use Rattle.pif_model_inversion.specs.Recovery.{CallsAlone}
use Rattle.pif_model_inversion.specs.Recovery.GoesOnAlone.{starts}

abbrev small : Bounds
small = record { threads = 9; mutexes = 9; conds = 0; signals = 1 }

-- t1 of priority 10, which lives or not, and t2 of priority 20, with these calls; and m1 with this owner and this
-- health
abbrev world : Bool → Option Call → Option Call → ℕ → Health → World
world living one two owner health = record {
  threads =
      nobody ∷ record { base = 10; living = living; call = one; timer = no_timer; memory = no_memory }
      ∷ record { base = 20; living = true; call = two; timer = no_timer; memory = no_memory } ∷ [];
  mutexes = no_mutex ∷ record { kind = Normal; robust = true; owner = owner; count = 1; health = health } ∷ [];
  variables = no_variable ∷ [];
  waiters = [];
  signals = 1;
  time = 0;
}

-- a call of this request that has come this far
abbrev at : Request → Progress → Option Call
at q p = Some (record { request = q; progress = p })

-- t1 has ended; t2 has this call, or none, and m1 this owner and this health
abbrev alone : Option Call → ℕ → Health → World
alone two owner health = world false None two owner health

-- t1 ends, and m1 passes on to nobody
ends : Step small (world true None None 1 Fine) (Happened (End 1) Ended) (alone None 0 Inconsistent)
unfolding reaches_within greatest_where effective_among first_greatest waited_by next_waiter
ends = ended 1 refl (record { allowed = refl; releases = one_more 1 refl refl (to_nobody refl refl) (none_left stalled refl) })
  where
    stalled : (m : ℕ) → (mutex_at (alone None 0 Inconsistent) m).owner ≡ 1
        → (mutex_at (alone None 0 Inconsistent) m).robust ≡ false
    stalled zero e = absurd (omega arith)
    stalled (suc zero) e = absurd (omega arith)
    stalled (suc (suc n)) e = absurd (omega arith)

-- a run comes there
legal : IsLegal small (Happened (End 1) Ended ∷ Happened (Go 1) (Answered 0) ∷ Happened (Begin 1 (Lock 1)) Begun
    ∷ AddMutex 1 Normal true ∷ AddThread 2 20 ∷ AddThread 1 10 ∷ [])
legal = record {
  states = _;
  last = alone None 0 Inconsistent;
  run =
      next (next (next (next (next (next (start refl)
      (thread_added 1 10 refl refl (omega arith) (omega arith) (omega arith) refl))
      (thread_added 2 20 refl refl (omega arith) (omega arith) (omega arith) refl))
      (mutex_added 1 Normal true refl refl (omega arith) refl))
      (begun 1 (Lock 1) refl refl refl))
      (answered 1 0 (Lock 1) (world true (at (Lock 1) (Has 0)) None 1 Fine) refl
      (record {
        allowed = refl;
        moves = acts refl (effect_then (lock 1 refl (free (λ e. omega arith) refl refl)) (no_effect refl));
      })
      refl refl refl))
      ends;
}

-- a call of t2 on m1 that has one effect, in one step, from one owner and health of m1 to others
call : (q : Request) (a o p : ℕ) (x y : Health) → Step small (alone None o x) (Happened (Begin 2 q) Begun) (alone (at q Fresh) o x)
    → Step small (alone (at q Fresh) o x) (Happened (Go 2) (Answered a)) (alone None p y)
    → CallsAlone small 2 q (alone None o x) (Answered a) (alone None p y)
call q a o p x y begins goes = record {
  first = alone (at q Fresh) o x;
  last = alone (at q Fresh) o x;
  begins = begins;
  goes = starts refl;
  ends = goes;
}

locks : CallsAlone small 2 (Lock 1) (alone None 0 Inconsistent) (Answered 130) (alone None 2 Inconsistent)
locks = call (Lock 1) 130 0 2 Inconsistent Inconsistent (begun 2 (Lock 1) refl refl refl)
    (answered 2 130 (Lock 1) (alone (at (Lock 1) (Has 130)) 2 Inconsistent) refl
    (record { allowed = refl; moves = acts refl (effect_then (lock 1 refl (free (λ e. omega arith) refl refl)) (no_effect refl)) })
    refl refl refl)

repairs : CallsAlone small 2 (Consistent 1) (alone None 2 Inconsistent) (Answered 0) (alone None 2 Fine)
repairs = call (Consistent 1) 0 2 2 Inconsistent Fine (begun 2 (Consistent 1) refl refl refl)
    (answered 2 0 (Consistent 1) (alone (at (Consistent 1) (Has 0)) 2 Fine) refl
    (record { allowed = refl; moves = acts refl (effect_then (consistent 1 refl (made_fine (refl, refl) refl refl)) (no_effect refl)) })
    refl refl refl)

unlocks : CallsAlone small 2 (Unlock 1) (alone None 2 Fine) (Answered 0) (alone None 0 Fine)
unfolding reaches_within greatest_where effective_among first_greatest waited_by next_waiter
unlocks = call (Unlock 1) 0 2 0 Fine Fine (begun 2 (Unlock 1) refl refl refl)
    (answered 2 0 (Unlock 1) (alone (at (Unlock 1) (Has 0)) 0 Fine) refl
    (record { allowed = refl; moves = acts refl (effect_then (unlock 1 refl (released refl refl (λ e. absurd (cc)) (to_nobody refl refl))) (no_effect refl)) })
    refl refl refl)

locks_again : CallsAlone small 2 (Lock 1) (alone None 0 Fine) (Answered 0) (alone None 2 Fine)
locks_again = call (Lock 1) 0 0 2 Fine Fine (begun 2 (Lock 1) refl refl refl)
    (answered 2 0 (Lock 1) (alone (at (Lock 1) (Has 0)) 2 Fine) refl
    (record { allowed = refl; moves = acts refl (effect_then (lock 1 refl (free (λ e. omega arith) refl refl)) (no_effect refl)) })
    refl refl refl)
