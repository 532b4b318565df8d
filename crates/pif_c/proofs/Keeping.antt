-- Turns and additions keep standing, legality and one holder.
use Rattle.std.proofs.Common.{◌≡◌, ℕ, Bool, true, false, refl, sym, subst, List, [], ◌∷◌, ◌++◌, length, Option, Some, None, Result, Ok, Err, IfOk, if◌then◌else◌}
use Rattle.pif_types.specs.declared.errors.AddFault.{AddFault}
use Rattle.pif_types.specs.declared.errors.AddFault.TheVariants.{TooMany, BadPrio, NoSuch}
use Rattle.pif_types.specs.declared.requests.Kind.{Kind}
use Rattle.pif_model.specs.declared.events.Entry.{Entry}
use Rattle.pif_model.specs.declared.events.Entry.TheVariants.{Thread as ThreadAdded, Mutex as MutexAdded, Cond as CondAdded}
use Rattle.pif_model.specs.Graph.{is_priority}
use Rattle.pif_model.specs.Posix.{World}
use Rattle.pif_model.specs.Standing.{Stands}
use Rattle.pif_model.specs.Table.{Table, has_thread_room, has_mutex_room, has_cond_room, has_mutex, thread_added, mutex_added, cond_added}
use Rattle.pif_model.specs.Calls.{add_thread_after, add_mutex_after, add_cond_after}
use Rattle.pif_model_simulation.specs.Calls.{StandsOn}
use Rattle.pif_model_simulation.proofs.StandingLaws.{event_stands, thread_added_stands, mutex_added_stands, cond_added_stands}
use Rattle.pif_model_simulation.proofs.StandingLemmas.{call_stands, finish_stands}
use Rattle.pif_model_simulation.proofs.runs.Holders.{one_holder}
use Rattle.pif_c.specs.declared.asking.Turn.{Turn}
use Rattle.pif_c.specs.declared.asking.Turn.TheVariants.{Event as OneEvent, Call, Finish}
use Rattle.pif_c.specs.declared.adding.Addition.{Addition}
use Rattle.pif_c.specs.declared.adding.Addition.TheVariants.{Thread, Mutex, Cond}
use Rattle.pif_c.specs.Asking.{outcome_of, turn_after, added, added_after, add_after}
use Rattle.pif_c.specs.Standing.{after_turn, entry_of, Keeps, HeldKeeps, HeldKeepsAdded}

-- if a core stands on, POSIX allows the longer history, and no mutex ever has two holders in it
keeps_by : (longer : List Entry → List Entry) (s after : Table)
    → ((h : List Entry) (r : List World) (w : World) → Stands s h r w → StandsOn after (longer h) r w)
    → Keeps longer s after
keeps_by longer s after stands = record {
  stands = stands;
  legal = λ h r w st.
      let on = stands h r w st in
      record { states = on.more ++ w ∷ r; last = on.last; run = on.stands.run };
  holders = λ h r w st.
      let on = stands h r w st in
      one_holder after.limits (longer h) (on.more ++ w ∷ r) on.last on.stands.run;
}

-- a core that stands after one entry more stands on
by_one : (v : Table) (h : List Entry) (r : List World) (w : World) → (u : World) × Stands v h (w ∷ r) u → StandsOn v h r w
by_one v h r w next = record { more = []; last = next.0; stands = next.1 }

-- TURNS

-- a core that stands, stands after a turn
turn_stands : (x : Turn) (s : Table) (h : List Entry) (r : List World) (w : World) → Stands s h r w
    → StandsOn (outcome_of x s).after (after_turn x s h) r w
turn_stands (OneEvent e) s h r w st =
    by_one (outcome_of (OneEvent e) s).after (after_turn (OneEvent e) s h) r w (event_stands s e h r w st)
turn_stands (Call t q) s h r w st = call_stands s (outcome_of (Call t q) s).after t q refl h r w st
turn_stands (Finish t) s h r w st = finish_stands s (outcome_of (Finish t) s).after t refl h r w st

held_keeps : (x : Option Turn) (before : Option Table) → HeldKeeps x before (turn_after x before)
held_keeps x None = nothing x
  where
    nothing : (x : Option Turn) → HeldKeeps x None None
    nothing None = tt
    nothing (Some x) = tt
held_keeps None (Some s) = tt
held_keeps (Some x) (Some s) = keeps_by (after_turn x s) s (outcome_of x s).after (turn_stands x s)

-- what a handle holds after a turn is kept so
pub keeps_after : (x : Option Turn) (before after : Option Table) → after ≡ turn_after x before
    → HeldKeeps x before after
keeps_after x before after e = subst (λ (next : Option Table). HeldKeeps x before next) (sym e) (held_keeps x before)

-- ADDITIONS

-- what a thread's addition is answered, by whether its priority is one, and whether there is room
abbrev thread_told : Table → Bool → Bool → Result ℕ AddFault
thread_told s prio room = if prio then (if room then Ok (length s.lines) else Err TooMany) else Err BadPrio

thread_keeps : (p : ℕ) (s : Table) (prio room : Bool) → is_priority p ≡ prio → has_thread_room s ≡ room
    → IfOk (thread_told s prio room)
    (λ n. Keeps (λ h. ThreadAdded n p ∷ h) s (add_thread_after p (thread_told s prio room) s))
thread_keeps p s true true is_one fits =
    keeps_by (λ h. ThreadAdded (length s.lines) p ∷ h) s (thread_added p s)
    (λ h r w st. by_one (thread_added p s) (ThreadAdded (length s.lines) p ∷ h) r w
    (thread_added_stands s p h r w st fits is_one))
thread_keeps p s true false is_one fits = tt
thread_keeps p s false room is_one fits = tt

-- and a mutex's, by whether there is room
abbrev mutex_told : Table → Bool → Result ℕ AddFault
mutex_told s room = if room then Ok (length s.mutexes) else Err TooMany

mutex_keeps : (k : Kind) (robust : Bool) (s : Table) (room : Bool) → has_mutex_room s ≡ room
    → IfOk (mutex_told s room)
    (λ n. Keeps (λ h. MutexAdded n k robust ∷ h) s (add_mutex_after k robust (mutex_told s room) s))
mutex_keeps k robust s true fits =
    keeps_by (λ h. MutexAdded (length s.mutexes) k robust ∷ h) s (mutex_added k robust s)
    (λ h r w st. by_one (mutex_added k robust s) (MutexAdded (length s.mutexes) k robust ∷ h) r w
    (mutex_added_stands s k robust h r w st fits))
mutex_keeps k robust s false fits = tt

-- and a condition variable's, by whether its mutex is there, and whether there is room
abbrev cond_told : Table → Bool → Bool → Result ℕ AddFault
cond_told s named room = if named then (if room then Ok (length s.conds) else Err TooMany) else Err NoSuch

cond_keeps : (m : ℕ) (s : Table) (named room : Bool) → has_mutex s m ≡ named → has_cond_room s ≡ room
    → IfOk (cond_told s named room)
    (λ n. Keeps (λ h. CondAdded n m ∷ h) s (add_cond_after m (cond_told s named room) s))
cond_keeps m s true true is_there fits =
    keeps_by (λ h. CondAdded (length s.conds) m ∷ h) s (cond_added m s)
    (λ h r w st. by_one (cond_added m s) (CondAdded (length s.conds) m ∷ h) r w
    (cond_added_stands s m h r w st is_there fits))
cond_keeps m s true false is_there fits = tt
cond_keeps m s false room is_there fits = tt

addition_keeps : (x : Addition) (s : Table) → IfOk (added x s) (λ n. Keeps (λ h. entry_of x n ∷ h) s (added_after x s))
addition_keeps (Thread p) s = thread_keeps p s (is_priority p) (has_thread_room s) refl refl
addition_keeps (Mutex k robust) s = mutex_keeps k robust s (has_mutex_room s) refl
addition_keeps (Cond m) s = cond_keeps m s (has_mutex s m) (has_cond_room s) refl refl

held_keeps_added : (x : Option Addition) (before : Option Table) → HeldKeepsAdded x before (add_after x before)
held_keeps_added x None = nothing x
  where
    nothing : (x : Option Addition) → HeldKeepsAdded x None None
    nothing None = tt
    nothing (Some x) = tt
held_keeps_added None (Some s) = tt
held_keeps_added (Some x) (Some s) = addition_keeps x s

-- what a handle holds after an addition is kept so
pub added_keeps_after : (x : Option Addition) (before after : Option Table) → after ≡ add_after x before
    → HeldKeepsAdded x before after
added_keeps_after x before after e =
    subst (λ (next : Option Table). HeldKeepsAdded x before next) (sym e) (held_keeps_added x before)
