-- A worked history of the POSIX machine, which is legal: a thread ends while another waits for its robust mutex, which
-- is told so; it unlocks that without making it consistent, and locks it again in vain.
use Rattle.std.proofs.Common.{◌≡◌, ℕ, zero, suc, Bool, true, false, List, [], ◌∷◌, Option, Some, None, refl, arith}
use Rattle.pif_types.specs.Bounds.{Bounds}
use Rattle.pif_types.specs.declared.requests.Kind.TheVariants.{Normal}
use Rattle.pif_types.specs.declared.requests.Request.{Request}
use Rattle.pif_types.specs.declared.requests.Request.TheVariants.{Lock, Unlock}
use Rattle.pif_model.specs.declared.events.Event.TheVariants.{Begin, Go, End}
use Rattle.pif_model.specs.declared.events.Seen.TheVariants.{Begun, Waits, Answered, Ended}
use Rattle.pif_model.specs.declared.events.Entry.{Entry}
use Rattle.pif_model.specs.declared.events.Entry.TheVariants.{Thread as AddThread, Mutex as AddMutex, Step as Happened}
use Rattle.pif_model.specs.Graph.{reaches_within, greatest_where, effective_among, first_greatest, waited_by, next_waiter}
use Rattle.pif_model.specs.Posix.{Health, Progress, Call, World, nobody, no_mutex, no_variable, no_memory, mutex_at, Step, IsLegal}
use Rattle.pif_model.specs.World.Health.{Fine, Inconsistent, Unusable}
use Rattle.pif_model.specs.World.Progress.{Fresh, Waiting, Leaving, Has}
use Rattle.pif_model.specs.Posix.Locks.{free, joins}
use Rattle.pif_model.specs.Posix.Passes.{to_nobody, to_next}
use Rattle.pif_model.specs.Posix.Unlocks.{becomes_unusable, released}
use Rattle.pif_model.specs.Posix.Effect.{lock, unlock, leave}
use Rattle.pif_model.specs.Posix.Moves.{acts}
use Rattle.pif_model.specs.Deadlines.{no_timer}
use Rattle.pif_model.specs.Posix.Effects.{none as no_effect, then as effect_then}
use Rattle.pif_model.specs.Posix.Releases.{none_left, one_more}
use Rattle.pif_model.specs.Posix.Step.{thread_added, mutex_added, begun, waits, answered, ended}
use Rattle.pif_model.specs.Posix.IsRun.{start, next}

abbrev small : Bounds
small = record { threads = 9; mutexes = 9; conds = 0; signals = 1 }

-- t1 of priority 10, living or not, and t2 of priority 20, with these calls; m1 with this owner and health; and waiters
abbrev world : Bool → Option Call → Option Call → ℕ → Health → List (ℕ × ℕ) → World
world living one two owner health ws = record {
  threads =
      nobody ∷ record { base = 10; living = living; call = one; timer = no_timer; memory = no_memory }
      ∷ record { base = 20; living = true; call = two; timer = no_timer; memory = no_memory } ∷ [];
  mutexes = no_mutex ∷ record { kind = Normal; robust = true; owner = owner; count = 1; health = health } ∷ [];
  variables = no_variable ∷ [];
  waiters = ws;
  signals = 1;
  time = 0;
}

-- a call of this request that has come this far
abbrev at : Request → Progress → Option Call
at q p = Some (record { request = q; progress = p })

-- t1 owns m1, t2 waits
abbrev t2_waits : World
t2_waits = world true None (at (Lock 1) Waiting) 1 Fine ((2, 1) ∷ [])

-- t1 has ended, t2 owns m1 and doesn't know it yet
abbrev handed_over : World
handed_over = world false None (at (Lock 1) (Has 130)) 2 Inconsistent []

-- t1 has ended, t2 has called this, or nothing, and nobody waits
abbrev alone : Option Call → ℕ → Health → World
alone call owner health = world false None call owner health []

-- t1 ends, and m1 passes on to t2
ends : Step small t2_waits (Happened (End 1) Ended) handed_over
unfolding reaches_within greatest_where effective_among first_greatest waited_by next_waiter
ends = ended 1 refl (record {
  allowed = refl;
  releases = one_more 1 refl refl (to_next 2 refl (λ e. omega arith) refl) (none_left stalled refl);
})
  where
    stalled : (m : ℕ) → (mutex_at handed_over m).owner ≡ 1 → (mutex_at handed_over m).robust ≡ false
    stalled zero e = refl
    stalled (suc zero) e = absurd (omega arith)
    stalled (suc (suc n)) e = refl

-- t2 unlocks m1, which wasn't made consistent: it is Unusable then
unlocks : Step small (alone (at (Unlock 1) Fresh) 2 Inconsistent) (Happened (Go 2) (Answered 0)) (alone None 0 Unusable)
unfolding reaches_within greatest_where effective_among first_greatest waited_by next_waiter
unlocks = answered 2 0 (Unlock 1) (alone (at (Unlock 1) (Has 0)) 0 Unusable) refl
    (record {
      allowed = refl;
      moves =
          acts refl (effect_then {u = alone (at (Unlock 1) Fresh) 2 Unusable}
          (unlock 1 refl (becomes_unusable refl refl refl refl))
          (effect_then (unlock 1 refl (released refl refl (λ e. absurd (cc)) (to_nobody refl refl))) (no_effect refl)));
    })
    refl refl refl

-- t2 locks it again: it takes it and leaves it
locks_in_vain : Step small (alone (at (Lock 1) Fresh) 0 Unusable) (Happened (Go 2) (Answered 131))
    (alone None 0 Unusable)
unfolding reaches_within greatest_where effective_among first_greatest waited_by next_waiter
locks_in_vain = answered 2 131 (Lock 1) (alone (at (Lock 1) (Has 131)) 0 Unusable) refl
    (record {
      allowed = refl;
      moves =
          acts refl (effect_then {u = alone (at (Lock 1) Leaving) 2 Unusable}
          (lock 1 refl (free (λ e. omega arith) refl refl))
          (effect_then (leave (Lock 1) refl (to_nobody refl refl)) (no_effect refl)));
    })
    refl refl refl

-- t1 takes m1
takes : Step small (world true (at (Lock 1) Fresh) None 0 Fine []) (Happened (Go 1) (Answered 0))
    (world true None None 1 Fine [])
takes = answered 1 0 (Lock 1) (world true (at (Lock 1) (Has 0)) None 1 Fine []) refl
    (record {
      allowed = refl;
      moves = acts refl (effect_then (lock 1 refl (free (λ e. omega arith) refl refl)) (no_effect refl));
    })
    refl refl refl

-- t2 waits for it
queues : Step small (world true None (at (Lock 1) Fresh) 1 Fine []) (Happened (Go 2) Waits) t2_waits
unfolding reaches_within greatest_where effective_among first_greatest waited_by next_waiter
queues = waits 2 t2_waits refl
    (record {
      allowed = refl;
      moves =
          acts refl (effect_then (lock 1 refl (joins ((λ e. omega arith), (λ e. omega arith), refl) refl refl))
          (no_effect refl));
    })
    refl refl

-- the history, newest entry first
abbrev history : List Entry
history =
    Happened (Go 2) (Answered 131) ∷ Happened (Begin 2 (Lock 1)) Begun ∷ Happened (Go 2) (Answered 0)
    ∷ Happened (Begin 2 (Unlock 1)) Begun ∷ Happened (Go 2) (Answered 130) ∷ Happened (End 1) Ended
    ∷ Happened (Go 2) Waits ∷ Happened (Begin 2 (Lock 1)) Begun ∷ Happened (Go 1) (Answered 0)
    ∷ Happened (Begin 1 (Lock 1)) Begun
    ∷ AddMutex 1 Normal true ∷ AddThread 2 20 ∷ AddThread 1 10 ∷ []

-- it is legal
legal : IsLegal small history
legal = record {
  states = _;
  last = alone None 0 Unusable;
  run =
      next (next (next (next (next (next (next (next (next (next (next (next (next (start refl)
      (thread_added 1 10 refl refl (omega arith) (omega arith) (omega arith) refl))
      (thread_added 2 20 refl refl (omega arith) (omega arith) (omega arith) refl))
      (mutex_added 1 Normal true refl refl (omega arith) refl))
      (begun 1 (Lock 1) refl refl refl)) takes)
      (begun 2 (Lock 1) refl refl refl)) queues) ends)
      (answered 2 130 (Lock 1) handed_over refl (record { allowed = refl; moves = acts refl (no_effect refl) })
      refl refl refl))
      (begun 2 (Unlock 1) refl refl refl)) unlocks)
      (begun 2 (Lock 1) refl refl refl)) locks_in_vain;
}
