-- What a request names, and that all of it is in one group with the thread that makes it.
use Rattle.std.specs.Prelude.{ℕ, Option, Some, None}
use Rattle.pif_types.specs.declared.requests.Named.{Named}
use Rattle.pif_types.specs.declared.requests.Request.{Request}
use Rattle.pif_components_model.specs.Components.{Name, IsNamed}
use Rattle.pif_components_model.specs.Components.Name.{OfThread}
use Rattle.pif_components.specs.declared.groups.Groups.{Groups}
use Rattle.pif_components.specs.declared.groups.Object.{Object}
use Rattle.pif_components.specs.declared.groups.Object.TheVariants as object
use Rattle.pif_components.specs.Groups.{AreTogether, IsJoined, Keeps, name_of}

-- the mutex, the variable and the thread
abbrev pub mutex_of : Option ℕ → Option Object
mutex_of None = None
mutex_of (Some m) = Some (object.Mutex m)

abbrev pub mutex_named : Named → Option Object
mutex_named n = mutex_of n.mutex

abbrev pub variable_of : Option ℕ → Option Object
variable_of None = None
variable_of (Some c) = Some (object.Variable c)

abbrev pub variable_named : Named → Option Object
variable_named n = variable_of n.cond

abbrev pub thread_of : Option ℕ → Option Object
thread_of None = None
thread_of (Some t) = Some (object.Thread t)

abbrev pub thread_named : Named → Option Object
thread_named n = thread_of n.thread

-- what was together stays so, and a name is together with this one, if there is one
abbrev pub AreJoinedIf : Name → Option Object → (old new : Groups) → Type 0
AreJoinedIf a None old new = Keeps 0 old new
AreJoinedIf a (Some o) old new = IsJoined a (name_of o) old new

-- and the thread with all that its request names
pub record AreNamed (t : ℕ) (q : Request) (old new : Groups) : Type 0 where
  pub keeps : Keeps 0 old new
  pub joined : (n : Name) → IsNamed q n → AreTogether new (OfThread t) n
