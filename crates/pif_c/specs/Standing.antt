-- What a handle's core keeps: if it stands it goes on standing, and its history stays legal, with one holder of each
-- mutex. A new core stands after the empty history.
use Rattle.std.specs.Prelude.{ℕ, ◌≡◌, [], ◌∷◌, List, Option, Some, None, IfOk}
use Rattle.pif_types.specs.Bounds.{Bounds, IsWithin}
use Rattle.pif_model.specs.declared.events.Entry.{Entry}
use Rattle.pif_model.specs.declared.events.Entry.TheVariants.{Thread as ThreadAdded, Mutex as MutexAdded, Cond as CondAdded, Step as Happened}
use Rattle.pif_model.specs.Posix.{IsLegal, empty_world}
use Rattle.pif_model.specs.History.{AlwaysOneHolder}
use Rattle.pif_model.specs.Standing.{Stands, WhereStands}
use Rattle.pif_model.specs.Table.{Table, new_table}
use Rattle.pif_model.specs.Lines.{event_outcome}
use Rattle.pif_model_simulation.specs.Calls.{StandsOn, after_call, after_finish}
use Rattle.pif_c.specs.declared.asking.Turn.{Turn}
use Rattle.pif_c.specs.declared.asking.Turn.TheVariants.{Event as OneEvent, Call, Finish}
use Rattle.pif_c.specs.declared.adding.Addition.{Addition}
use Rattle.pif_c.specs.declared.adding.Addition.TheVariants.{Thread, Mutex, Cond}
use Rattle.pif_c_numbers.specs.declared.numbers.PifSeen.{PifSeen}
use Rattle.pif_c_numbers.specs.declared.numbers.PifNumber.{PifNumber}
use Rattle.pif_c_numbers.specs.Codes as pif
use Rattle.pif_c.specs.Asking.{turn_told, turn_after, added, add_told, add_after}

-- from one table to the next, with a longer history: wherever a core with the first stands after a history, one with
-- the second stands after the longer one, which POSIX allows, and in which no mutex ever has two holders
pub record Keeps (longer : List Entry → List Entry) (s after : Table) : Type 0 where
  pub stands : WhereStands s (λ h r w. StandsOn after (longer h) r w)
  pub legal : WhereStands s (λ h r w. IsLegal after.limits (longer h))
  pub holders : WhereStands s (λ h r w. AlwaysOneHolder (longer h))

-- TURNS

-- a history with the entries more that a turn adds to it
abbrev pub after_turn : Turn → Table → List Entry → List Entry
after_turn (OneEvent e) s h = Happened e (event_outcome e s).seen ∷ h
after_turn (Call t q) s h = after_call t q s h
after_turn (Finish t) s h = after_finish t s h

-- what a turn keeps of what a handle holds, before and afterwards, if the numbers name one
abbrev pub HeldKeeps : Option Turn → Option Table → Option Table → Type 0
HeldKeeps (Some x) (Some s) (Some after) = Keeps (after_turn x s) s after
HeldKeeps x s after = Unit {0}

-- a turn on what a handle holds: the answer, what it holds then, and what that keeps
pub record Turns (x : Option Turn) (before after : Option Table) (told : PifSeen) : Type 0 where
  pub answer : told ≡ turn_told x before
  pub next : after ≡ turn_after x before
  pub keeps : HeldKeeps x before after

-- ADDITIONS

-- the entry of an addition that was given this number
abbrev pub entry_of : Addition → ℕ → Entry
entry_of (Thread p) n = ThreadAdded n p
entry_of (Mutex k robust) n = MutexAdded n k robust
entry_of (Cond m) n = CondAdded n m

-- what an addition keeps of what a handle holds, before and afterwards, if it is made
abbrev pub HeldKeepsAdded : Option Addition → Option Table → Option Table → Type 0
HeldKeepsAdded (Some x) (Some s) (Some after) = IfOk (added x s) (λ n. Keeps (λ h. entry_of x n ∷ h) s after)
HeldKeepsAdded x s after = Unit {0}

-- an addition to what a handle holds: the answer, what it holds then, and what that keeps
pub record Adds (x : Option Addition) (before after : Option Table) (told : PifNumber) : Type 0 where
  pub answer : told ≡ add_told x before
  pub next : after ≡ add_after x before
  pub keeps : HeldKeepsAdded x before after

-- CORES

-- a new core under these limits, on what a handle held: what it holds then, and the result. The core stands after the
-- empty history. It is refused if there is a core already, or a limit is outside its range; if the heap refuses a
-- request there is no core
pub data IsMade (l : Bounds) : Option Table → Option Table → ℕ → Type 0 where
  made : IsWithin l → Stands (new_table l) [] [] (empty_world l.signals) → IsMade l None (Some (new_table l)) pif.ok
  none_left : IsWithin l → IsMade l None None pif.no_memory
  not_within : (IsWithin l → ⊥) → IsMade l None None pif.invalid
  there : (s : Table) → IsMade l (Some s) (Some s) pif.full
