-- The components of a history: which threads, mutexes and variables its lines join, and the lines of a component. The
-- threads of different components never meet, so that each component can be judged by itself. (Herlihy and Wing,
-- Linearizability: locality, a history is linearizable exactly if what it does with each object is. Here a call joins its
-- thread with all that it names, so that components stand for objects.) Lines are listed newest first.
use Rattle.std.specs.Prelude.{ℕ, ◌≡◌, ◌+◌, ◌<◌, ◌==◌, Bool, true, List, [], ◌∷◌, ◌++◌, Option, Some, None, not, filter}
use Rattle.pif_types.specs.declared.requests.Request.{Request}
use Rattle.pif_types.specs.Shapes.{names_of}
use Rattle.pif_model.specs.declared.events.Event.TheVariants as event
use Rattle.pif_model.specs.declared.events.Seen.TheVariants.{Begun}
use Rattle.pif_model.specs.declared.events.Entry.{Entry}
use Rattle.pif_model.specs.declared.events.Entry.TheVariants.{Step as Happened}
use Rattle.pif_history_model.specs.declared.lines.Line.{Line}
use Rattle.pif_history_model.specs.declared.lines.Line.TheVariants.{Begin, Cond}
use Rattle.pif_history_model.specs.Lines.{thread_of}

-- a thread, a mutex or a variable, by its number
pub data Name : Type 0 where
  OfThread OfMutex OfVariable : ℕ → Name

-- a request names it
pub data IsNamed (q : Request) : Name → Type 0 where
  thread : (u : ℕ) → (names_of q).thread ≡ Some u → IsNamed q (OfThread u)
  mutex : (m : ℕ) → (names_of q).mutex ≡ Some m → IsNamed q (OfMutex m)
  variable : (c : ℕ) → (names_of q).cond ≡ Some c → IsNamed q (OfVariable c)

-- how many variables these lines add
abbrev pub variables_of : List Line → ℕ
variables_of [] = 0
variables_of (Cond m ∷ xs) = variables_of xs + 1
variables_of (_ ∷ xs) = variables_of xs

-- WHAT JOINS WHAT

-- a line of the history joins two names
pub data Joins (lines : List Line) : Name → Name → Type 0 where
  -- a call joins its thread with each name of its request: the mutex and the variable that it uses, or the thread whose
  -- priority it sets
  call : (before later : List Line) (t : ℕ) (q : Request) (n : Name) → lines ≡ later ++ Begin t q ∷ before → IsNamed q n
      → Joins lines (OfThread t) n
  -- the addition of a variable joins it with the mutex to which it is bound
  bound : (before later : List Line) (m : ℕ) → lines ≡ later ++ Cond m ∷ before
      → Joins lines (OfVariable (variables_of before + 1)) (OfMutex m)

-- one more line joins two names
pub data IsJoinedBy (line : Line) (before : List Line) : Name → Name → Type 0 where
  call : (t : ℕ) (q : Request) (n : Name) → line ≡ Begin t q → IsNamed q n → IsJoinedBy line before (OfThread t) n
  bound : (m : ℕ) → line ≡ Cond m → IsJoinedBy line before (OfVariable (variables_of before + 1)) (OfMutex m)

-- two names are of one component: lines join them, through any chain
pub data IsConnected (lines : List Line) (a : Name) : Name → Type 0 where
  same : IsConnected lines a a
  on : {b c : Name} → IsConnected lines a b → Joins lines b c → IsConnected lines a c
  back : {b c : Name} → IsConnected lines a b → Joins lines c b → IsConnected lines a c

-- SIDES

-- some of the names
abbrev pub Side : Type 0
Side = Name → Bool

-- all the others
abbrev pub others : Side → Side
others x = λ n. not (x n)

-- the names are whole components: no line joins one of them with another name
abbrev pub IsClosed : List Line → Side → Type 0
IsClosed lines x = (a b : Name) → Joins lines a b → x a ≡ x b

-- whether a line belongs to a side: it is of no thread, as an addition or a tick, or its thread is on the side
abbrev pub keeps : Side → Line → Bool
keeps x line = elim (thread_of line) [ None ↦ true | Some t ↦ x (OfThread t) ]

-- the lines of a side: those of its threads, and all lines of no thread. So threads, mutexes and variables have the same
-- numbers there, and the time is the same
abbrev pub lines_of : Side → List Line → List Line
lines_of x lines = filter (keeps x) lines

-- NUMBERS OF COMPONENTS

-- each name has a number below n, and names that lines join have the same one. So each number stands for some whole
-- components, or for none
pub record AreNumbered (lines : List Line) (n : ℕ) (number : Name → ℕ) : Type 0 where
  pub below : (a : Name) → number a < n
  pub joined : (a b : Name) → Joins lines a b → number a ≡ number b

-- the names with this number
abbrev pub component : (Name → ℕ) → ℕ → Side
component number k = λ a. number a == k

-- ENTRIES

-- the thread of an entry, if it has one: additions and ticks have none
abbrev pub thread_of_entry : Entry → Option ℕ
thread_of_entry (Happened (event.Begin t q) seen) = Some t
thread_of_entry (Happened (event.Go t) seen) = Some t
thread_of_entry (Happened (event.End t) seen) = Some t
thread_of_entry _ = None

-- whether an entry belongs to a side: it has no thread, or its thread is on the side
abbrev pub concerns : Side → Entry → Bool
concerns x e = elim (thread_of_entry e) [ None ↦ true | Some t ↦ x (OfThread t) ]

-- a call that an entry begins names what is on its thread's side
abbrev pub BeginsBeside : Side → Entry → Type 0
BeginsBeside x e = (t : ℕ) (q : Request) → e ≡ Happened (event.Begin t q) Begun → (n : Name) → IsNamed q n → x n ≡ x (OfThread t)
