-- A worked delay: t1 of priority 10 owns m1, for which t2 of priority 20 waits, and t3 of priority 15 is ready. t1 has
-- two turns, and unlocks m1; t3 never runs. On two processors it runs beside t1. And a lost chain: t1 waits for good,
-- and t3 runs. So what the laws ask can be met.
use Rattle.std.proofs.Common.{◌≡◌, ◌≤◌, ℕ, zero, suc, true, false, List, [], ◌∷◌, Option, Some, None, if◌then◌else◌, ◌<◌, ◌⊎◌, ◌==◌, ◌||◌, eqb, refl, sym, ap, ◌∙◌, subst, inl, inr, arith}
use Rattle.std.specs.List.{sum_by, IsDistinct}
use Rattle.std.proofs.lemmas.Bool.{true≢false, cases_eq, ne_eqb}
use Rattle.std.proofs.lemmas.Map.Keys.{IsDistinct-cons}
use Rattle.pif_types.specs.Bounds.{Bounds, IsWithin}
use Rattle.pif_types.specs.declared.requests.Kind.TheVariants.{Normal}
use Rattle.pif_types.specs.declared.requests.Request.{Request}
use Rattle.pif_types.specs.declared.requests.Request.TheVariants.{Lock, Unlock, SetPrio}
use Rattle.pif_model.specs.declared.events.Event.TheVariants.{Begin, Go}
use Rattle.pif_model.specs.declared.events.Seen.{Seen}
use Rattle.pif_model.specs.declared.events.Entry.{Entry}
use Rattle.pif_model.specs.declared.events.Seen.TheVariants.{Begun, Waits, Answered}
use Rattle.pif_model.specs.declared.events.Entry.TheVariants.{Thread as AddThread, Mutex as AddMutex, Step as Happened}
use Rattle.pif_model.specs.Graph.{reaches_within, greatest_where, effective_among, first_greatest, waited_by, next_waiter}
use Rattle.pif_model.specs.Graph.Reaches.{here, hop}
use Rattle.pif_model.specs.Posix.{Progress, Call, World, nobody, no_mutex, no_variable, no_memory, rests, is_living, effective_of, empty_world, HasCome, Step, IsLegal}
use Rattle.pif_model.specs.World.Health.{Fine}
use Rattle.pif_model.specs.World.Progress.{Fresh, Waiting, Stuck, Has}
use Rattle.pif_model.specs.Posix.Locks.{free, joins, own_normal}
use Rattle.pif_model.specs.Posix.Passes.{to_next}
use Rattle.pif_model.specs.Posix.Unlocks.{released}
use Rattle.pif_model.specs.Posix.Effect.{lock, unlock}
use Rattle.pif_model.specs.Posix.Moves.{acts}
use Rattle.pif_model.specs.Deadlines.{no_timer}
use Rattle.pif_model.specs.Posix.Effects.{none as no_effect, then as effect_then}
use Rattle.pif_model.specs.Posix.Step.{thread_added, mutex_added, begun, waits, answered}
use Rattle.pif_model.specs.Posix.IsRun.{start, next}
use Rattle.pif_model.specs.Standing.{IsPick, Stands}
use Rattle.pif_model.specs.Table.{new_table}
use Rattle.pif_model.specs.Table.{thread_added as thread_added_to}
use Rattle.pif_model_simulation.proofs.runs.Holding.{same_request, same_progress}
use Rattle.pif_model_simulation.proofs.StandingLaws.{new_stands, thread_added_stands}
use Rattle.pif_model_inversion.specs.Inversion.{IsReady, IsHighest, IsLost, RunOn, is_one_of}
use Rattle.pif_model_inversion.specs.Inversion.IsOut.{waits_for_good as is_stuck}
use Rattle.pif_model_inversion.specs.Delays.{IsHeldUp, IsDelayBy, IsDelay, IsCalmDelay, RaisesNobody, AreAllLowerEngaged, times_owning, lower_turns}
use Rattle.pif_model_inversion.specs.Delays.IsEngaged.{owns, waits_for_mutex, waits_for_good, waits_on_variable}
use Rattle.pif_model_inversion.specs.Delays.IsEntryOf.{begins, goes}
use Rattle.pif_model_inversion.specs.Delays.IsDelayBy.{starts, runs}

abbrev small : Bounds
small = record { threads = 9; mutexes = 9; conds = 0; signals = 1 }

-- t1 of priority 10, t2 of priority 20 and t3 of priority 15, the first two with these calls; m1 with this owner; and
-- waiters
abbrev world : Option Call → Option Call → ℕ → List (ℕ × ℕ) → World
world one two owner ws = record {
  threads =
      nobody ∷ record { base = 10; living = true; call = one; timer = no_timer; memory = no_memory }
      ∷ record { base = 20; living = true; call = two; timer = no_timer; memory = no_memory }
      ∷ record { base = 15; living = true; call = None; timer = no_timer; memory = no_memory } ∷ [];
  mutexes = no_mutex ∷ record { kind = Normal; robust = false; owner = owner; count = 1; health = Fine } ∷ [];
  variables = no_variable ∷ [];
  waiters = ws;
  signals = 1;
  time = 0;
}

-- a call of this request that has come this far
abbrev at : Request → Progress → Option Call
at q p = Some (record { request = q; progress = p })

-- t1 owns m1, and has this call or none, and t2 waits
abbrev held : Option Call → World
held one = world one (at (Lock 1) Waiting) 1 ((2, 1) ∷ [])

-- t1 takes m1
takes : Step small (world (at (Lock 1) Fresh) None 0 []) (Happened (Go 1) (Answered 0)) (world None None 1 [])
takes = answered 1 0 (Lock 1) (world (at (Lock 1) (Has 0)) None 1 []) refl
    (record {
      allowed = refl;
      moves = acts refl (effect_then (lock 1 refl (free (λ e. omega arith) refl refl)) (no_effect refl));
    })
    refl refl refl

-- t2 waits for it
queues : Step small (world None (at (Lock 1) Fresh) 1 []) (Happened (Go 2) Waits) (held None)
unfolding reaches_within greatest_where effective_among first_greatest waited_by next_waiter
queues = waits 2 (held None) refl
    (record {
      allowed = refl;
      moves =
          acts refl (effect_then (lock 1 refl (joins ((λ e. omega arith), (λ e. omega arith), refl) refl refl))
          (no_effect refl));
    })
    refl refl

-- this can be
legal : IsLegal small (Happened (Go 2) Waits ∷ Happened (Begin 2 (Lock 1)) Begun ∷ Happened (Go 1) (Answered 0) ∷ Happened (Begin 1 (Lock 1)) Begun
    ∷ AddMutex 1 Normal false ∷ AddThread 3 15 ∷ AddThread 2 20 ∷ AddThread 1 10 ∷ [])
legal = record {
  states = _;
  last = held None;
  run =
      next (next (next (next (next (next (next (next (start refl)
      (thread_added 1 10 refl refl (omega arith) (omega arith) (omega arith) refl))
      (thread_added 2 20 refl refl (omega arith) (omega arith) (omega arith) refl))
      (thread_added 3 15 refl refl (omega arith) (omega arith) (omega arith) refl))
      (mutex_added 1 Normal false refl refl (omega arith) refl))
      (begun 1 (Lock 1) refl refl refl)) takes)
      (begun 2 (Lock 1) refl refl refl)) queues;
}

-- t1 unlocks m1, which passes on to t2
unlocks : Step small (held (at (Unlock 1) Fresh)) (Happened (Go 1) (Answered 0)) (world None (at (Lock 1) (Has 0)) 2 [])
unfolding reaches_within greatest_where effective_among first_greatest waited_by next_waiter
unlocks = answered 1 0 (Unlock 1) (world (at (Unlock 1) (Has 0)) (at (Lock 1) (Has 0)) 2 []) refl
    (record {
      allowed = refl;
      moves =
          acts refl (effect_then (unlock 1 refl (released refl refl (λ e. absurd (cc)) (to_next 2 refl (λ e. omega arith) refl)))
          (no_effect refl));
    })
    refl refl refl

-- t2 waits for t1, whatever that calls
held_up : (one : Option Call) → rests (held one) 1 ≡ false → IsHeldUp (held one) 2
held_up one awake = record {
  rests = refl;
  end = 1;
  chain = hop (record { mutex = 1; among = refl; owned = refl; somebody = λ e. omega arith }) (here refl);
  ready = record { living = refl; awake = awake };
}

above : (one : Option Call) → IsHighest (held one) 2
above one zero lives other = absurd (cc)
above one (suc zero) lives other = omega arith
above one (suc (suc zero)) lives other = absurd (other refl)
above one (suc (suc (suc zero))) lives other = omega arith
above one (suc (suc (suc (suc n)))) lives other = absurd (cc)

-- and runs next
picked : (one : Option Call) → rests (held one) 1 ≡ false → IsPick (held one) 1
unfolding reaches_within greatest_where effective_among first_greatest waited_by next_waiter
picked one awake = record { runs = λ n. (refl, awake); greatest = λ t lives k. ((λ e. omega arith), below t lives k) }
  where
    below : (t : ℕ) → is_living (held one) t ≡ true → rests (held one) t ≡ false
        → effective_of (held one) t ≤ effective_of (held one) 1
    below zero lives k = absurd (cc)
    below (suc zero) lives k = omega arith
    below (suc (suc zero)) lives k = absurd (cc)
    below (suc (suc (suc zero))) lives k = omega arith
    below (suc (suc (suc (suc n)))) lives k = absurd (cc)

-- t1 has two turns, and the delay is over
abbrev turns : List (ℕ × World)
turns = (1, held (at (Unlock 1) Fresh)) ∷ (1, held None) ∷ []

delays_by : (MayCome : World → Entry → Type 0) → MayCome (held None) (Happened (Begin 1 (Unlock 1)) Begun)
    → MayCome (held (at (Unlock 1) Fresh)) (Happened (Go 1) (Answered 0))
    → IsDelayBy MayCome small 2 (held None) turns (world None (at (Lock 1) (Has 0)) 2 [])
delays_by MayCome a b =
    runs 1 _ (runs 1 _ (starts refl) (held_up None refl) (picked None refl) (begins (Unlock 1) Begun refl) a
    (begun 1 (Unlock 1) refl refl refl))
    (held_up (at (Unlock 1) Fresh) refl) (picked (at (Unlock 1) Fresh) refl) (goes (Answered 0) refl) b unlocks

delays : IsDelay small 2 (held None) turns (world None (at (Lock 1) (Has 0)) 2 [])
delays = delays_by _ tt tt

-- nobody is raised
calm : IsCalmDelay small 2 (held None) turns (world None (at (Lock 1) (Has 0)) 2 [])
calm = delays_by (RaisesNobody 2)
    (record { sets = λ t u p x a e come. absurd (cc); adds = λ t p e. absurd (cc) })
    (record { sets = sets; adds = λ t p e. absurd (cc) })
  where
    sets : (t u p : ℕ) (x : Seen) (a : Progress) → ◌≡◌ {A = Entry} (Happened (Go 1) (Answered 0)) (Happened (Go t) x)
        → HasCome (held (at (Unlock 1) Fresh)) t (SetPrio u p) a → ⊥
    sets zero u p x a e come = absurd (cc)
    sets (suc zero) u p x a e come =
        absurd (let z = same_request {d = record { request = Unlock 1; progress = Fresh }} come refl in cc)
    sets (suc (suc n)) u p x a e come = absurd (let z : 1 ≡ suc (suc n) = cc in omega (arith, z))

-- t1 and t2 are engaged at first, and nobody else
engaged : AreAllLowerEngaged (held None) 2 turns (1 ∷ 2 ∷ [])
engaged t (owns zero some own) low = absurd (some (sym own))
engaged t (owns (suc zero) some own) low = subst (λ u. is_one_of (1 ∷ 2 ∷ []) u ≡ true) own refl
engaged t (owns (suc (suc n)) some own) low = absurd (some (sym own))
engaged t (waits_for_mutex m among) low = go (cases_eq 2 t)
  where
    go : (2 ≡ t) ⊎ (2 ≡ t → ⊥) → is_one_of (1 ∷ 2 ∷ []) t ≡ true
    go (inl e) = subst (λ u. is_one_of (1 ∷ 2 ∷ []) u ≡ true) e refl
    go (inr d) = absurd (true≢false (sym among ∙ ap (λ b. (if b then 1 == m else false) || false) (ne_eqb 2 t d)))
engaged zero (waits_for_good q come) low = absurd (cc)
engaged (suc zero) (waits_for_good q come) low = absurd (cc)
engaged (suc (suc zero)) (waits_for_good q come) low =
    absurd (let z = same_progress {d = record { request = Lock 1; progress = Waiting }} come refl in cc)
engaged (suc (suc (suc zero))) (waits_for_good q come) low = absurd (cc)
engaged (suc (suc (suc (suc n)))) (waits_for_good q come) low = absurd (cc)
engaged zero (waits_on_variable c blocked) low = absurd (cc)
engaged (suc zero) (waits_on_variable c blocked) low = absurd (cc)
engaged (suc (suc zero)) (waits_on_variable c blocked) low = absurd (cc)
engaged (suc (suc (suc zero))) (waits_on_variable c blocked) low = absurd (cc)
engaged (suc (suc (suc (suc n)))) (waits_on_variable c blocked) low = absurd (cc)

-- both turns were of a lower thread, and the two had as many together while they owned a mutex: the bound is met
met : (lower_turns 2 turns ≡ 2) × (sum_by (times_owning turns) (1 ∷ 2 ∷ []) ≡ 2)
met = (refl, refl)

-- on two processors t3 runs beside t1
two_run : RunOn (held None) 2 (1 ∷ 3 ∷ [])
unfolding IsDistinct
two_run = record {
  distinct = IsDistinct-cons eqb 1 (3 ∷ []) (refl, tt) (IsDistinct-cons eqb 3 [] tt tt);
  ready = ready;
  busy = inl refl;
  greatest = λ t u is_ready out e. absurd (true≢false (sym (all t is_ready) ∙ out));
}
  where
    ready : (t : ℕ) → is_one_of (1 ∷ 3 ∷ []) t ≡ true → IsReady (held None) t
    ready t e = go (cases_eq 1 t) (cases_eq 3 t)
      where
        go : (1 ≡ t) ⊎ (1 ≡ t → ⊥) → (3 ≡ t) ⊎ (3 ≡ t → ⊥) → IsReady (held None) t
        go (inl a) b = subst (IsReady (held None)) a (record { living = refl; awake = refl })
        go (inr a) (inl b) = subst (IsReady (held None)) b (record { living = refl; awake = refl })
        go (inr a) (inr b) =
            absurd (true≢false (sym e ∙ ap (λ c. c || ((3 == t) || false)) (ne_eqb 1 t a) ∙ ap (λ c. c || false) (ne_eqb 3 t b)))

    all : (t : ℕ) → IsReady (held None) t → is_one_of (1 ∷ 3 ∷ []) t ≡ true
    all zero k = absurd (let z = k.living in cc)
    all (suc zero) k = refl
    all (suc (suc zero)) k = absurd (let z = k.awake in cc)
    all (suc (suc (suc zero))) k = refl
    all (suc (suc (suc (suc n)))) k = absurd (let z = k.living in cc)

-- t1 locks m1 again, which is NORMAL, and waits for good: t2's chain is lost, and t3 runs, with less than t2 has
abbrev stuck : World
stuck = held (at (Lock 1) Stuck)

relocks : Step small (held (at (Lock 1) Fresh)) (Happened (Go 1) Waits) stuck
relocks = waits 1 stuck refl
    (record { allowed = refl; moves = acts refl (effect_then (lock 1 refl (own_normal refl refl refl)) (no_effect refl)) })
    refl refl

lost : IsLost stuck 2
lost = record {
  end = 1;
  chain = hop (record { mutex = 1; among = refl; owned = refl; somebody = λ e. omega arith }) (here refl);
  out = is_stuck (Lock 1) refl;
}

middle_runs : IsPick stuck 3
unfolding reaches_within greatest_where effective_among waited_by
middle_runs = record { runs = λ n. (refl, refl); greatest = λ t lives k. ((λ e. omega arith), below t lives k) }
  where
    below : (t : ℕ) → is_living stuck t ≡ true → rests stuck t ≡ false → effective_of stuck t ≤ effective_of stuck 3
    below zero lives k = absurd (cc)
    below (suc zero) lives k = absurd (cc)
    below (suc (suc zero)) lives k = absurd (cc)
    below (suc (suc (suc zero))) lives k = omega arith
    below (suc (suc (suc (suc n)))) lives k = absurd (cc)

middle_is_lower : effective_of stuck 3 < effective_of stuck 2
unfolding reaches_within greatest_where effective_among waited_by
middle_is_lower = omega arith

-- a core to which one thread was added stands after that, and the thread lives: of such ones the law on lost chains
-- speaks
worked_core : (w : World) × Stands (thread_added_to 10 (new_table small)) (AddThread 1 10 ∷ []) (empty_world 1 ∷ []) w
worked_core = thread_added_stands (new_table small) 10 [] [] (empty_world 1) (new_stands small within) refl refl
  where
    within : IsWithin small
    within = record {
      some_thread = omega arith;
      threads = omega arith;
      mutexes = omega arith;
      conds = omega arith;
      some_signal = omega arith;
      signals = omega arith;
    }
