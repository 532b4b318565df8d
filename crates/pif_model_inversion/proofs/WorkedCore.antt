-- A worked recovery at a core: t1 locks m1, which is robust, and ends. A core stands after that history. There m1 is
-- inconsistent and nobody owns it, and t2 lives and has no call open. So what the laws ask of a core can be met.
use Rattle.std.proofs.Common.{◌≡◌, ◌∙◌, true, false, List, [], ◌∷◌, refl, sym, ap, arith}
use Rattle.pif_types.specs.Bounds.{Bounds, IsWithin}
use Rattle.pif_types.specs.declared.requests.Kind.TheVariants.{Normal}
use Rattle.pif_types.specs.declared.requests.Request.TheVariants.{Lock, Unlock, Consistent}
use Rattle.pif_model.specs.declared.events.Event.TheVariants.{Begin, Go, End}
use Rattle.pif_model.specs.declared.events.Seen.TheVariants.{Begun, Went, Answered, Ended}
use Rattle.pif_model.specs.declared.events.Entry.{Entry}
use Rattle.pif_model.specs.declared.events.Entry.TheVariants.{Thread as AddThread, Mutex as AddMutex, Step as Happened}
use Rattle.pif_model.specs.Lines.{is_open, event_outcome, accepted_outcome, go_outcome, goes_on, line_of, lock_load, locking_line, shared_line, own_exchange, after_exchange, take_line, take_health, link_line, giving_line, clears, lock_kernel, lock_by, take_load, unlock_load, give_line, give_health, give_exchange, consistent_load, consistent_health, repair_line, ended_table, library_after_end}
use Rattle.pif_model.specs.PiKernel.{is_living as lives_in, after_death, after_deaths, kernel_left_as, no_states, lock_answer, words_after_lock, kernel_after_lock}
use Rattle.pif_model.specs.Posix.{Mutex, World, mutex_at, is_living}
use Rattle.pif_model.specs.World.Health.{Inconsistent}
use Rattle.pif_model.specs.Projection.{places}
use Rattle.pif_model.specs.Standing.{Stands}
use Rattle.pif_model.specs.Table.{Table, new_table, thread_added, mutex_added, line_at}
use Rattle.pif_model_simulation.specs.Calls.{call_outcome, after_call, steps_before, went}
use Rattle.pif_model_simulation.proofs.StandingLaws.{new_stands, thread_added_stands, mutex_added_stands, event_stands}
use Rattle.pif_model_simulation.proofs.StandingLemmas.{call_stands}
use Rattle.pif_model_inversion.specs.Recovery.{RepairedBy, answer_of_free}
use Rattle.pif_model_inversion.proofs.Recovering.{lock_is_told, lock_is_repaired}

abbrev few : Bounds
few = record { threads = 2; mutexes = 1; conds = 0; signals = 1 }

are_within : IsWithin few
are_within = record {
  some_thread = omega arith;
  threads = omega arith;
  mutexes = omega arith;
  conds = omega arith;
  some_signal = omega arith;
  signals = omega arith;
}

-- t1 of priority 10 and t2 of priority 20, and m1, which is robust
abbrev added : Table
added = mutex_added Normal true (thread_added 20 (thread_added 10 (new_table few)))

-- t1 has locked m1
abbrev held : Table
held = (call_outcome 1 (Lock 1) added).after

-- and has ended
abbrev died : Table
died = (event_outcome (End 1) held).after

-- the history, newest entry first: t1's lock takes seven steps
abbrev history : List Entry
history =
    Happened (End 1) Ended ∷ Happened (Go 1) (Answered 0) ∷ Happened (Go 1) Went ∷ Happened (Go 1) Went ∷ Happened (Go 1) Went
    ∷ Happened (Go 1) Went ∷ Happened (Go 1) Went ∷ Happened (Go 1) Went ∷ Happened (Begin 1 (Lock 1)) Begun
    ∷ AddMutex 1 Normal true ∷ AddThread 2 20 ∷ AddThread 1 10 ∷ []

-- a core stands there
record IsThere : Type 0 where
  states : List World
  last : World
  stands : Stands died history states last

there : IsThere
unfolding call_outcome after_call steps_before went event_outcome accepted_outcome go_outcome goes_on line_of lock_load locking_line shared_line own_exchange after_exchange take_line take_health link_line giving_line clears
there =
    let start = new_stands few are_within in
    let one = thread_added_stands (new_table few) 10 [] [] _ start refl refl in
    let two = thread_added_stands (thread_added 10 (new_table few)) 20 _ _ one.0 one.1 refl refl in
    let three = mutex_added_stands (thread_added 20 (thread_added 10 (new_table few))) Normal true _ _ two.0 two.1 refl in
    let four = call_stands added held 1 (Lock 1) refl _ _ three.0 three.1 in
    let five = event_stands held (End 1) _ _ four.last four.stands in
    record { states = _; last = five.0; stands = five.1 }

-- once t2 has locked m1, repaired and unlocked it
abbrev given_up : Table
given_up = (call_outcome 2 (Unlock 1) (call_outcome 2 (Consistent 1) (call_outcome 2 (Lock 1) died).after).after).after

-- what the laws ask there of m1, its owner 0 and t2
record IsLeft (x : IsThere) : Type 0 where
  mutex : mutex_at x.last 1 ≡ record { kind = Normal; robust = true; owner = 0; count = 1; health = Inconsistent }
  no_owner_lives : is_living x.last 0 ≡ false
  lives : lives_in died.kernel 2 ≡ true
  idle : is_open (line_at died 2) ≡ false
  -- its lock takes eleven steps, of which the first ten are answered Went: as OWNER_DIED is set, the exchange fails, and
  -- the kernel call makes t2 the owner
  took : steps_before 23 2 (event_outcome (Begin 2 (Lock 1)) died).after ≡ 10
  -- what the law asks of t2 once it has given m1 up
  lives_then : lives_in given_up.kernel 2 ≡ true
  idle_then : is_open (line_at given_up 2) ≡ false

is_left : (x : IsThere) → IsLeft x
unfolding call_outcome steps_before event_outcome accepted_outcome go_outcome goes_on line_of lock_load locking_line shared_line own_exchange after_exchange lock_kernel lock_by lock_answer words_after_lock kernel_after_lock take_load take_line take_health link_line giving_line clears unlock_load give_line give_health give_exchange consistent_load consistent_health repair_line ended_table library_after_end after_death after_deaths kernel_left_as no_states places
is_left x = record {
  mutex = ap (λ (w : World). mutex_at w 1) x.stands.shows;
  no_owner_lives = ap (λ (w : World). is_living w 0) x.stands.shows;
  lives = refl;
  idle = refl;
  took = refl;
  lives_then = refl;
  idle_then = refl;
}

inconsistent : (mutex_at there.last 1).health ≡ Inconsistent
inconsistent = ap (λ (x : Mutex). x.health) (is_left there).mutex

owner_is_dead : is_living there.last (mutex_at there.last 1).owner ≡ false
owner_is_dead =
    ap (λ (x : Mutex). is_living there.last x.owner) (is_left there).mutex ∙ (is_left there).no_owner_lives

-- so a lock of t2 is answered EOWNERDEAD, 130
told : (call_outcome 2 (Lock 1) died).seen ≡ Answered 130
told =
    lock_is_told died history there.states there.last there.stands 2 1 (λ e. let z = sym inconsistent ∙ e in absurd (cc))
    owner_is_dead (is_left there).lives (is_left there).idle
    ∙ ap (λ h. Answered (answer_of_free h)) inconsistent

-- its consistent and its unlock are answered 0
repaired : RepairedBy 2 1 (call_outcome 2 (Lock 1) died).after
repaired = lock_is_repaired died history there.states there.last there.stands 2 1 inconsistent owner_is_dead
    (is_left there).lives (is_left there).idle

-- and so is its next lock
taken_again : (call_outcome 2 (Lock 1) given_up).seen ≡ Answered 0
taken_again = repaired.taken_again 2 (is_left there).lives_then (is_left there).idle_then
