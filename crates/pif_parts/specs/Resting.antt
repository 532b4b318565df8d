-- The state in which a history rests, as lists that each line changes: what stays of threads, mutexes and variables.
use Rattle.std.specs.Prelude.{ℕ, ◌≡◌, ◌+◌, ◌==◌, ◌&&◌, Bool, nat_lt, true, false, List, [], ◌∷◌, ◌++◌, get_or, map, set, Option, Some, None, if◌then◌else◌}
use Rattle.std.specs.List.{list_all}
use Rattle.pif_types.specs.Bounds.{Bounds}
use Rattle.pif_types.specs.declared.requests.Request.{Request}
use Rattle.pif_types.specs.declared.requests.Request.TheVariants.{Signal, Broadcast, SetPrio}
use Rattle.pif_model.specs.Deadlines.{no_timer}
use Rattle.pif_model.specs.Posix.{World, Thread, Mutex, Variable, new_mutex, no_memory}
use Rattle.pif_history_model.specs.declared.lines.Line.{Line}
use Rattle.pif_history_model.specs.declared.lines.Line.TheVariants.{Thread as AThread, Mutex as AMutex, Cond, Answer, End, Tick}
use Rattle.pif_parts_model.specs.Resting.{world_by}
use Rattle.pif_parts.specs.declared.resting.RestingThread.{RestingThread}
use Rattle.pif_parts.specs.declared.resting.RestingMutex.{RestingMutex}
use Rattle.pif_parts.specs.declared.resting.RestingCond.{RestingCond}
use Rattle.pif_parts.specs.declared.resting.Rest.{Rest}

-- A THREAD, A MUTEX AND A VARIABLE THAT REST

abbrev pub thread_of : RestingThread → Thread
thread_of x = record { base = x.base; living = x.living; call = None; timer = no_timer; memory = no_memory }

abbrev pub mutex_of : RestingMutex → Mutex
mutex_of x = new_mutex x.kind x.robust

abbrev pub variable_of : RestingCond → Variable
variable_of x = record { mutex = x.mutex; uses = x.uses }

-- the state that they are
abbrev pub world_of : Bounds → Rest → World
world_of l r = record {
  threads = map thread_of r.threads.items;
  mutexes = map mutex_of r.mutexes.items;
  variables = map variable_of r.conds.items;
  waiters = [];
  signals = l.signals;
  time = r.time;
}

-- it is that in which a history rests behind these lines, newest first, whatever the limits
abbrev pub IsRest : List Line → Rest → Type 0
IsRest lines r = (l : Bounds) → world_by l lines ≡ world_of l r

-- WHAT A LINE CHANGES

-- what stands at place 0
abbrev pub nobody : RestingThread
nobody = record { base = 0; living = false }

abbrev pub no_cond : RestingCond
no_cond = record { mutex = 0; uses = 0 }

-- a variable that was not used yet
abbrev pub unused_cond : RestingCond → RestingCond
unused_cond x = record x { uses = 0 }

abbrev pub with_base : ℕ → ℕ → List RestingThread → List RestingThread
with_base u p xs = set xs u (record (get_or xs u nobody) { base = p })

abbrev pub with_end : ℕ → List RestingThread → List RestingThread
with_end t xs = set xs t (record (get_or xs t nobody) { living = false })

abbrev pub with_use : ℕ → List RestingCond → List RestingCond
with_use c xs = set xs c (record (get_or xs c no_cond) { uses = (get_or xs c no_cond).uses + 1 })

-- the threads behind a call that returned 0
abbrev pub threads_behind : Request → List RestingThread → List RestingThread
threads_behind (SetPrio u p) xs = with_base u p xs
threads_behind q xs = xs

-- the variables behind it
abbrev pub conds_behind : Request → List RestingCond → List RestingCond
conds_behind (Signal c) xs = with_use c xs
conds_behind (Broadcast c) xs = with_use c xs
conds_behind q xs = xs

-- the call, if it returned 0
abbrev pub returned : ℕ → Option Request → Option Request
returned a o = if a == 0 then o else None

-- the same behind a call that may have returned 0
abbrev pub threads_returned : Option Request → List RestingThread → List RestingThread
threads_returned None xs = xs
threads_returned (Some q) xs = threads_behind q xs

abbrev pub conds_returned : Option Request → List RestingCond → List RestingCond
conds_returned None xs = xs
conds_returned (Some q) xs = conds_behind q xs

-- the threads behind one more line, if its thread had this call open before it
abbrev pub threads_after : Line → Option Request → List RestingThread → List RestingThread
threads_after (AThread p) o xs = xs ++ record { base = p; living = true } ∷ []
threads_after (Answer t a) o xs = threads_returned (returned a o) xs
threads_after (End t) o xs = with_end t xs
threads_after line o xs = xs

abbrev pub mutexes_after : Line → List RestingMutex → List RestingMutex
mutexes_after (AMutex k r x) xs = xs ++ record { kind = k; robust = r } ∷ []
mutexes_after line xs = xs

abbrev pub conds_after : Line → Option Request → List RestingCond → List RestingCond
conds_after (Cond m) o xs = xs ++ record { mutex = m; uses = 0 } ∷ []
conds_after (Answer t a) o xs = conds_returned (returned a o) xs
conds_after line o xs = xs

abbrev pub time_after : Line → ℕ → ℕ
time_after (Tick n) k = n
time_after line k = k

-- one more line was heard
pub record Changes (line : Line) (o : Option Request) (before after : Rest) : Type 0 where
  pub threads : after.threads.items ≡ threads_after line o before.threads.items
  pub mutexes : after.mutexes.items ≡ mutexes_after line before.mutexes.items
  pub conds : after.conds.items ≡ conds_after line o before.conds.items
  pub time : after.time ≡ time_after line before.time

-- whether each of these variables was used less often than this
abbrev pub each_is_less : ℕ → List RestingCond → Bool
each_is_less n cs = list_all (λ (x : RestingCond). nat_lt x.uses n) cs

-- the same of all variables, also of those that weren't added yet
abbrev pub are_used_less : ℕ → List RestingCond → Bool
are_used_less n cs = nat_lt 0 n && each_is_less n cs

-- they are one state but for uses
pub record AreAlike (r z : Rest) : Type 0 where
  pub threads : r.threads.items ≡ z.threads.items
  pub mutexes : r.mutexes.items ≡ z.mutexes.items
  pub conds : map unused_cond r.conds.items ≡ map unused_cond z.conds.items
  pub time : r.time ≡ z.time

-- they are one state
pub record AreSame (r z : Rest) : Type 0 where
  pub threads : r.threads.items ≡ z.threads.items
  pub mutexes : r.mutexes.items ≡ z.mutexes.items
  pub conds : r.conds.items ≡ z.conds.items
  pub time : r.time ≡ z.time
