-- States of the POSIX machine as one side of the names sees them, and states in which the sides never meet.
use Rattle.std.specs.Prelude.{ℕ, ◌≡◌, ◌≢◌, ◌==◌, Bool, true, false, List, [], ◌∷◌, length, Option, Some, None, if◌then◌else◌, filter}
use Rattle.std.specs.List.{list_any}
use Rattle.pif_types.specs.declared.requests.Request.{Request}
use Rattle.pif_types.specs.Shapes.{names_of}
use Rattle.pif_model.specs.Posix.{World, Call, thread_at, mutex_at, variable_at}
use Rattle.pif_history_model.specs.declared.lines.Line.{Line}
use Rattle.pif_history_model.specs.declared.lines.Line.TheVariants.{Begin}
use Rattle.pif_history_model.specs.declared.labels.Label.{Label}
use Rattle.pif_history_model.specs.declared.labels.Label.TheVariants.{Shown, Moves, Ends}
use Rattle.pif_history_model.specs.Lines.{is_among}
use Rattle.pif_history_model.specs.Plain.{PlainConfiguration}
use Rattle.pif_components_model.specs.Components.{Name, Side, IsNamed, keeps}
use Rattle.pif_components_model.specs.Components.Name.{OfThread, OfMutex, OfVariable}

-- the waiters of a side, in order of arrival. The machine has one list of waiters for all mutexes: a side sees its own
-- part of it, and who arrived first at one mutex stays first
abbrev pub waiters_of : Side → World → List (ℕ × ℕ)
waiters_of x w = filter (λ p. x (OfThread p.0)) w.waiters

-- two states are the same on this side: its threads, mutexes and variables are, its waiters in their order, and what
-- all sides share. (Place 0 of the mutexes and variables stands for none.)
pub record Agrees (x : Side) (w v : World) : Type 0 where
  pub thread : (t : ℕ) → x (OfThread t) ≡ true → thread_at v t ≡ thread_at w t
  pub mutex : (m : ℕ) → m ≢ 0 → x (OfMutex m) ≡ true → mutex_at v m ≡ mutex_at w m
  pub variable : (c : ℕ) → c ≢ 0 → x (OfVariable c) ≡ true → variable_at v c ≡ variable_at w c
  pub waiters : waiters_of x v ≡ waiters_of x w
  pub threads : length v.threads ≡ length w.threads
  pub mutexes : length v.mutexes ≡ length w.mutexes
  pub variables : length v.variables ≡ length w.variables
  pub signals : v.signals ≡ w.signals
  pub time : v.time ≡ w.time

-- the request of an open call
abbrev pub request_of : Option Call → Option Request
request_of None = None
request_of (Some c) = Some c.request

-- what a request of t names is on t's side, and each mutex and variable that it names has a number
pub record IsBeside (x : Side) (t : ℕ) (q : Request) : Type 0 where
  pub sides : (n : Name) → IsNamed q n → x n ≡ x (OfThread t)
  pub mutex : (m : ℕ) → (names_of q).mutex ≡ Some m → m ≢ 0
  pub variable : (c : ℕ) → (names_of q).cond ≡ Some c → c ≢ 0

-- the sides don't meet in this state: a call names what is on its thread's side, and who waits for a mutex or owns it
-- is on the mutex's side
pub record IsSplit (x : Side) (w : World) : Type 0 where
  pub calls : (t : ℕ) (q : Request) → request_of (thread_at w t).call ≡ Some q → IsBeside x t q
  pub waiters : (u m : ℕ) → list_any (λ p. if p.0 == u then p.1 == m else false) w.waiters ≡ true
      → (x (OfThread u) ≡ x (OfMutex m)) × (m ≢ 0)
  pub owners : (m : ℕ) → (mutex_at w m).owner ≢ 0 → (x (OfThread (mutex_at w m).owner) ≡ x (OfMutex m)) × (m ≢ 0)

-- a state of the machine that is searched is the part of another one that this side sees: the states of the POSIX machine
-- agree on the side, the sides don't meet in either, and the same threads of the side are dying
pub record IsPart (x : Side) (whole part : PlainConfiguration) : Type 0 where
  pub agrees : Agrees x whole.world part.world
  pub split : IsSplit x whole.world
  pub apart : IsSplit x part.world
  pub dying : (t : ℕ) → x (OfThread t) ≡ true → is_among part.dying t ≡ is_among whole.dying t

-- whether a step of the machine belongs to a side
abbrev pub steps_on : Side → Label → Bool
steps_on x (Shown k) = keeps x k
steps_on x (Moves t) = x (OfThread t)
steps_on x (Ends t) = x (OfThread t)

-- if a line begins a call, it names what is on its thread's side
abbrev pub LineBeside : Side → Line → Type 0
LineBeside x k = (t : ℕ) (q : Request) → k ≡ Begin t q → (n : Name) → IsNamed q n → x n ≡ x (OfThread t)

-- each of these lines does so
abbrev pub AreBeside : Side → List Line → Type 0
AreBeside x [] = Unit {0}
AreBeside x (k ∷ ks) = LineBeside x k × AreBeside x ks
