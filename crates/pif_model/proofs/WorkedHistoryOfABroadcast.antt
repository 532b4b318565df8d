-- A worked history of the POSIX machine with a condition variable, which is legal: two threads wait, and the owner of
-- their mutex broadcasts, so that both queue for it in one step. And the tables of the same calls show its states.
use Rattle.std.proofs.Common.{◌≡◌, ◌==◌, ℕ, zero, suc, true, false, List, [], ◌∷◌, Option, Some, None, refl, arith}
use Rattle.std.specs.List.{list_any}
use Rattle.std.proofs.lemmas.Bool.Decides.{nat_tests}
use Rattle.pif_types.specs.Bounds.{Bounds}
use Rattle.pif_types.specs.declared.requests.Kind.TheVariants.{Normal}
use Rattle.pif_types.specs.declared.requests.Request.{Request}
use Rattle.pif_types.specs.declared.requests.Request.TheVariants.{Lock, Unlock, Wait, Broadcast}
use Rattle.pif_model.specs.declared.events.Event.TheVariants.{Begin, Go}
use Rattle.pif_model.specs.declared.events.Seen.TheVariants.{Begun, Waits, Answered}
use Rattle.pif_model.specs.declared.events.Entry.{Entry}
use Rattle.pif_model.specs.declared.events.Entry.TheVariants.{Thread as AddThread, Mutex as AddMutex, Cond as AddCond, Step as Happened}
use Rattle.pif_model.specs.Graph.{reaches_within, greatest_where, effective_among, first_greatest, waited_by, next_waiter}
use Rattle.pif_model.specs.Posix.{Progress, Call, Memory, World, nobody, no_mutex, no_variable, no_memory, is_blocked_on, is_still_blocked, blocked_below, all_unblocked, Step, IsLegal}
use Rattle.pif_model.specs.World.Health.{Fine}
use Rattle.pif_model.specs.World.Progress.{Fresh, Waiting, Has, Checked, Enlisted, Blocked, Reacquiring, Used}
use Rattle.pif_model.specs.Posix.Locks.{free, joins}
use Rattle.pif_model.specs.Posix.Passes.{to_nobody, to_next}
use Rattle.pif_model.specs.Posix.Unlocks.{released as unlock_released}
use Rattle.pif_model.specs.Posix.ChecksWait.{checked}
use Rattle.pif_model.specs.Posix.GivesUp.{released}
use Rattle.pif_model.specs.Posix.Uses.{counts}
use Rattle.pif_model.specs.Posix.Chooses.{all as wakes_all}
use Rattle.pif_model.specs.Posix.Effect.{lock, unlock, check_wait, enlist, give_up, use_variable, choose}
use Rattle.pif_model.specs.Posix.Moves.{acts}
use Rattle.pif_model.specs.Deadlines.{no_timer}
use Rattle.pif_model.specs.Posix.Effects.{none as no_effect, then as effect_then, owed}
use Rattle.pif_model.specs.Posix.Step.{thread_added, mutex_added, cond_added, begun, waits, answered}
use Rattle.pif_model.specs.Posix.IsRun.{start, next}
use Rattle.pif_model.specs.Projection.{HistoryVariables, world_of, places}
use Rattle.pif_model.specs.Table.{Table, new_table, thread_added as with_thread_added, mutex_added as with_mutex_added, cond_added as with_cond_added}
use Rattle.pif_model.specs.Lines.{goes_on}
use Rattle.pif_model.proofs.Asked.{next as table_after, finished}
use Rattle.pif_model.proofs.Asked.Ask.{Do, Call as Calls, Finish}
use Rattle.pif_model.proofs.Worked.{machine}

abbrev small : Bounds
small = record { threads = 9; mutexes = 9; conds = 9; signals = 9 }

-- a thread that has begun this many waits
abbrev waited : ℕ → Memory
waited n = record { waits = n; found = [] }

-- the owner of m1, how often c1 was used, and the waiters
record Scene : Type 0 where
  owner : ℕ
  uses : ℕ
  waiters : List (ℕ × ℕ)

-- t1 of priority 10, t2 of priority 10 and t3 of priority 20, with these calls and memories, in this scene
abbrev world : Option Call → Memory → Option Call → Memory → Option Call → Memory → Scene → World
world one m1 two m2 three m3 x = record {
  threads =
      nobody ∷ record { base = 10; living = true; call = one; timer = no_timer; memory = m1 }
      ∷ record { base = 10; living = true; call = two; timer = no_timer; memory = m2 }
      ∷ record { base = 20; living = true; call = three; timer = no_timer; memory = m3 } ∷ [];
  mutexes = no_mutex ∷ record { kind = Normal; robust = false; owner = x.owner; count = 1; health = Fine } ∷ [];
  variables = no_variable ∷ record { mutex = 1; uses = x.uses } ∷ [];
  waiters = x.waiters;
  signals = 9;
  time = 0;
}

abbrev scene : ℕ → ℕ → List (ℕ × ℕ) → Scene
scene o n ws = record { owner = o; uses = n; waiters = ws }

-- a call of this request that has come this far
abbrev at : Request → Progress → Option Call
at q p = Some (record { request = q; progress = p })

-- a wait that has come this far
abbrev waiting : Progress → Option Call
waiting p = at (Wait 1 1) p

-- t2 and t3 have waited once, and have come this far; t1 has this call and has found these
abbrev both : Option Call → List (ℕ × ℕ) → Option Call → Option Call → Scene → World
both one found two three x =
    world one (record { waits = 0; found = found }) two (waited 1) three (waited 1) x

-- t2 and t3 are blocked, t1 owns m1
abbrev blocked : World
blocked = both None [] (waiting (Blocked true)) (waiting (Blocked true)) (scene 1 0 [])

-- whom a broadcast finds then
abbrev found : List (ℕ × ℕ)
found = (3, 1) ∷ (2, 1) ∷ []

-- t1's broadcast has begun
abbrev broadcasting : World
broadcasting = both (at (Broadcast 1) Fresh) found (waiting (Blocked true)) (waiting (Blocked true)) (scene 1 0 [])

-- it has used the variable, and has to choose whom it wakes
abbrev used_then : World
used_then = both (at (Broadcast 1) Used) found (waiting (Blocked true)) (waiting (Blocked true)) (scene 1 1 [])

-- both have been queued, t3 first
abbrev queued : World
queued = both None found (waiting Waiting) (waiting Waiting) (scene 1 1 ((3, 1) ∷ (2, 1) ∷ []))

-- the broadcast uses the variable, wakes both, and each does the lock that it must do again
broadcasts : Step small broadcasting (Happened (Go 1) (Answered 0)) queued
unfolding reaches_within greatest_where effective_among first_greatest waited_by next_waiter all_unblocked
broadcasts = answered 1 0 (Broadcast 1)
    (both (at (Broadcast 1) (Has 0)) found (waiting Waiting) (waiting Waiting) (scene 1 1 ((3, 1) ∷ (2, 1) ∷ [])))
    refl
    (record {
      allowed = refl;
      moves =
          acts refl (effect_then {u = used_then}
          (use_variable (Broadcast 1) refl refl (counts (λ e. omega arith) refl))
          (effect_then {u = both (at (Broadcast 1) (Has 0)) found (waiting Reacquiring) (waiting Reacquiring) (scene 1 1 [])}
          (choose (Broadcast 1) refl (wakes_all 1 (3 ∷ 2 ∷ []) refl blocked_ones still_ones refl))
          (owed {u = both (at (Broadcast 1) (Has 0)) found (waiting Reacquiring) (waiting Waiting) (scene 1 1 ((3, 1) ∷ []))}
          3 1 1 refl refl (joins ((λ e. omega arith), (λ e. omega arith), refl) refl refl)
          (owed 2 1 1 refl refl (joins ((λ e. omega arith), (λ e. omega arith), refl) refl refl) (no_effect refl)))));
    })
    refl refl refl
  where
    blocked_ones : (u : ℕ) → list_any (λ x. x == u) (3 ∷ 2 ∷ []) ≡ true
        → is_blocked_on used_then 1 u ≡ true
    blocked_ones zero e = absurd (cc)
    blocked_ones (suc zero) e = absurd (cc)
    blocked_ones (suc (suc zero)) e = refl
    blocked_ones (suc (suc (suc zero))) e = refl
    blocked_ones (suc (suc (suc (suc n)))) e = grind (arith, nat_tests, e)

    still_ones : (b : ℕ) → is_still_blocked used_then 1 1 b ≡ true
        → list_any (λ x. x == b) (3 ∷ 2 ∷ []) ≡ true
    still_ones zero e = absurd (cc)
    still_ones (suc zero) e = absurd (cc)
    still_ones (suc (suc zero)) e = refl
    still_ones (suc (suc (suc zero))) e = refl
    still_ones (suc (suc (suc (suc n)))) e = absurd (cc)

-- before t2 has waited, and after
abbrev none_waited : Option Call → Option Call → Option Call → Scene → World
none_waited one two three x = world one no_memory two no_memory three no_memory x

abbrev one_waited : Option Call → Option Call → Option Call → Scene → World
one_waited one two three x = world one no_memory two (waited 1) three no_memory x

-- t2 takes m1
t2_takes : Step small (none_waited None (at (Lock 1) Fresh) None (scene 0 0 [])) (Happened (Go 2) (Answered 0))
    (none_waited None None None (scene 2 0 []))
t2_takes = answered 2 0 (Lock 1) (none_waited None (at (Lock 1) (Has 0)) None (scene 2 0 [])) refl
    (record {
      allowed = refl;
      moves = acts refl (effect_then (lock 1 refl (free (λ e. omega arith) refl refl)) (no_effect refl));
    })
    refl refl refl

-- t2 gives it up in its wait, in which it is blocked
t2_waits : Step small (one_waited None (waiting Fresh) None (scene 2 0 [])) (Happened (Go 2) Waits)
    (one_waited None (waiting (Blocked true)) None (scene 0 0 []))
unfolding reaches_within greatest_where effective_among first_greatest waited_by next_waiter
t2_waits = waits 2 (one_waited None (waiting (Blocked false)) None (scene 0 0 [])) refl
    (record {
      allowed = refl;
      moves =
          acts refl (effect_then {u = one_waited None (waiting Checked) None (scene 2 0 [])}
          (check_wait 1 1 refl (checked refl refl refl refl))
          (effect_then {u = one_waited None (waiting (Enlisted true)) None (scene 2 0 [])} (enlist 1 1 refl refl)
          (effect_then (give_up 1 1 true refl (released refl (λ e. absurd (cc)) (to_nobody refl refl)))
          (no_effect refl))));
    })
    refl refl

-- t3 takes m1
t3_takes : Step small (one_waited None (waiting (Blocked true)) (at (Lock 1) Fresh) (scene 0 0 []))
    (Happened (Go 3) (Answered 0)) (one_waited None (waiting (Blocked true)) None (scene 3 0 []))
t3_takes = answered 3 0 (Lock 1) (one_waited None (waiting (Blocked true)) (at (Lock 1) (Has 0)) (scene 3 0 [])) refl
    (record {
      allowed = refl;
      moves = acts refl (effect_then (lock 1 refl (free (λ e. omega arith) refl refl)) (no_effect refl));
    })
    refl refl refl

-- and waits
t3_waits : Step small (both None [] (waiting (Blocked true)) (waiting Fresh) (scene 3 0 [])) (Happened (Go 3) Waits)
    (both None [] (waiting (Blocked true)) (waiting (Blocked true)) (scene 0 0 []))
unfolding reaches_within greatest_where effective_among first_greatest waited_by next_waiter
t3_waits = waits 3 (both None [] (waiting (Blocked true)) (waiting (Blocked false)) (scene 0 0 [])) refl
    (record {
      allowed = refl;
      moves =
          acts refl (effect_then {u = both None [] (waiting (Blocked true)) (waiting Checked) (scene 3 0 [])}
          (check_wait 1 1 refl (checked refl refl refl refl))
          (effect_then {u = both None [] (waiting (Blocked true)) (waiting (Enlisted true)) (scene 3 0 [])}
          (enlist 1 1 refl refl)
          (effect_then (give_up 1 1 true refl (released refl (λ e. absurd (cc)) (to_nobody refl refl)))
          (no_effect refl))));
    })
    refl refl

-- t1 takes m1
t1_takes : Step small (both (at (Lock 1) Fresh) [] (waiting (Blocked true)) (waiting (Blocked true)) (scene 0 0 []))
    (Happened (Go 1) (Answered 0)) blocked
t1_takes = answered 1 0 (Lock 1)
    (both (at (Lock 1) (Has 0)) [] (waiting (Blocked true)) (waiting (Blocked true)) (scene 1 0 [])) refl
    (record {
      allowed = refl;
      moves = acts refl (effect_then (lock 1 refl (free (λ e. omega arith) refl refl)) (no_effect refl));
    })
    refl refl refl

-- t1 unlocks it: it passes on to t3, whose priority is greater
unlocks : Step small (both (at (Unlock 1) Fresh) found (waiting Waiting) (waiting Waiting)
    (scene 1 1 ((3, 1) ∷ (2, 1) ∷ []))) (Happened (Go 1) (Answered 0))
    (both None found (waiting Waiting) (waiting (Has 0)) (scene 3 1 ((2, 1) ∷ [])))
unfolding reaches_within greatest_where effective_among first_greatest waited_by next_waiter
unlocks = answered 1 0 (Unlock 1)
    (both (at (Unlock 1) (Has 0)) found (waiting Waiting) (waiting (Has 0)) (scene 3 1 ((2, 1) ∷ []))) refl
    (record {
      allowed = refl;
      moves =
          acts refl (effect_then (unlock 1 refl (unlock_released refl refl (λ e. absurd (cc))
          (to_next 3 refl (λ e. omega arith) refl))) (no_effect refl));
    })
    refl refl refl

-- t3's wait is answered
t3_answered : Step small (both None found (waiting Waiting) (waiting (Has 0)) (scene 3 1 ((2, 1) ∷ [])))
    (Happened (Go 3) (Answered 0)) (both None found (waiting Waiting) None (scene 3 1 ((2, 1) ∷ [])))
t3_answered = answered 3 0 (Wait 1 1) (both None found (waiting Waiting) (waiting (Has 0)) (scene 3 1 ((2, 1) ∷ [])))
    refl (record { allowed = refl; moves = acts refl (no_effect refl) }) refl refl refl

-- the history, newest entry first
abbrev history : List Entry
history =
    Happened (Go 3) (Answered 0) ∷ Happened (Go 1) (Answered 0) ∷ Happened (Begin 1 (Unlock 1)) Begun
    ∷ Happened (Go 1) (Answered 0) ∷ Happened (Begin 1 (Broadcast 1)) Begun
    ∷ Happened (Go 1) (Answered 0) ∷ Happened (Begin 1 (Lock 1)) Begun
    ∷ Happened (Go 3) Waits ∷ Happened (Begin 3 (Wait 1 1)) Begun
    ∷ Happened (Go 3) (Answered 0) ∷ Happened (Begin 3 (Lock 1)) Begun
    ∷ Happened (Go 2) Waits ∷ Happened (Begin 2 (Wait 1 1)) Begun
    ∷ Happened (Go 2) (Answered 0) ∷ Happened (Begin 2 (Lock 1)) Begun
    ∷ AddCond 1 1 ∷ AddMutex 1 Normal false ∷ AddThread 3 20 ∷ AddThread 2 10 ∷ AddThread 1 10 ∷ []

-- it is legal
legal : IsLegal small history
unfolding blocked_below
legal = record {
  states = _;
  last = both None found (waiting Waiting) None (scene 3 1 ((2, 1) ∷ []));
  run =
      next (next (next (next (next (next (next (next (next (next (next (next (next (next (next (next (next (next
      (next (next (start refl)
      (thread_added 1 10 refl refl (omega arith) (omega arith) (omega arith) refl))
      (thread_added 2 10 refl refl (omega arith) (omega arith) (omega arith) refl))
      (thread_added 3 20 refl refl (omega arith) (omega arith) (omega arith) refl))
      (mutex_added 1 Normal false refl refl (omega arith) refl))
      (cond_added 1 1 refl refl refl (omega arith) refl))
      (begun 2 (Lock 1) refl refl refl)) t2_takes)
      (begun 2 (Wait 1 1) refl refl refl)) t2_waits)
      (begun 3 (Lock 1) refl refl refl)) t3_takes)
      (begun 3 (Wait 1 1) refl refl refl)) t3_waits)
      (begun 1 (Lock 1) refl refl refl)) t1_takes)
      (begun 1 (Broadcast 1) refl refl refl)) broadcasts)
      (begun 1 (Unlock 1) refl refl refl)) unlocks) t3_answered;
}

-- THE TABLES OF THE SAME CALLS

-- a core with these threads, this mutex and this variable
unfoldable core : Table
unfolding machine
core = with_cond_added 1 (with_mutex_added Normal false
    (with_thread_added 20 (with_thread_added 10 (with_thread_added 10 (new_table small)))))

-- t2 and t3 wait, and t1 holds the mutex
unfoldable t1_holds : Table
unfolding machine core table_after finished goes_on
t1_holds =
    table_after (Calls 1 (Lock 1)) (table_after (Calls 3 (Wait 1 1)) (table_after (Calls 3 (Lock 1))
    (table_after (Calls 2 (Wait 1 1)) (table_after (Calls 2 (Lock 1)) core))))

-- what is remembered of the threads then, if t1's broadcast has found these
abbrev memories : List (ℕ × ℕ) → HistoryVariables
memories fs = record { memories = no_memory ∷ record { waits = 0; found = fs } ∷ waited 1 ∷ waited 1 ∷ [] }

blocked_shown : world_of t1_holds (memories []) ≡ blocked
unfolding machine core t1_holds table_after finished goes_on places
blocked_shown = refl

-- t1's broadcast has begun, has used the variable, and is answered
unfoldable begun_then : Table
unfolding machine core t1_holds table_after finished goes_on
begun_then = table_after (Do (Begin 1 (Broadcast 1))) t1_holds

broadcasting_shown : world_of begun_then (memories found) ≡ broadcasting
unfolding machine core t1_holds begun_then table_after finished goes_on places
broadcasting_shown = refl

used_shown : world_of (table_after (Do (Go 1)) (table_after (Do (Go 1)) begun_then)) (memories found) ≡ used_then
unfolding machine core t1_holds begun_then table_after finished goes_on places
used_shown = refl

queued_shown : world_of (table_after (Finish 1) begun_then) (memories found) ≡ queued
unfolding machine core t1_holds begun_then table_after finished goes_on places
queued_shown = refl
