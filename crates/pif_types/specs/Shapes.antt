-- What a call is: the shape of its request. A timed request has the shape of its plain one, with a deadline.
use Rattle.std.specs.Prelude.{ℕ, Option, Some, None}
use Rattle.pif_types.specs.declared.requests.Named.{Named}
use Rattle.pif_types.specs.declared.requests.Request.{Request}
use Rattle.pif_types.specs.declared.requests.Request.TheVariants.{Lock, TryLock, Unlock, Consistent, Wait, Signal, Broadcast, SetPrio, TimedLock, TimedWait}

-- how many of those that wait on a variable are woken
pub data Reach : Type 0 where
  One All : Reach

-- what a call does with what it names
pub data Shape : Type 0 where
  -- takes this mutex, and waits for it, up to the deadline if it has one
  Takes : (mutex : ℕ) (until : Option ℕ) → Shape
  -- takes this mutex if that needs no waiting
  Tries : (mutex : ℕ) → Shape
  -- gives this mutex up
  GivesUp : (mutex : ℕ) → Shape
  -- says that what this mutex protects is in order again
  Repairs : (mutex : ℕ) → Shape
  -- gives this mutex up, waits on this variable, up to the deadline if it has one, and takes the mutex again
  Awaits : (cond mutex : ℕ) (until : Option ℕ) → Shape
  -- wakes one or all of those that wait on this variable
  Wakes : (reach : Reach) (cond : ℕ) → Shape
  -- sets the base priority of this thread
  Sets : (thread priority : ℕ) → Shape

-- the shape of each request
abbrev pub shape_of : Request → Shape
shape_of (Lock m) = Takes m None
shape_of (TimedLock m d) = Takes m (Some d)
shape_of (TryLock m) = Tries m
shape_of (Unlock m) = GivesUp m
shape_of (Consistent m) = Repairs m
shape_of (Wait c m) = Awaits c m None
shape_of (TimedWait c m d) = Awaits c m (Some d)
shape_of (Signal c) = Wakes One c
shape_of (Broadcast c) = Wakes All c
shape_of (SetPrio t p) = Sets t p

-- the variable on which it waits, if it waits on one
abbrev pub waits : Shape → Option ℕ
waits (Awaits c m d) = Some c
waits _ = None

-- the variable that it signals or broadcasts, if it does
abbrev pub uses : Shape → Option ℕ
uses (Wakes r c) = Some c
uses _ = None

-- its deadline, if it has one
abbrev pub deadline : Shape → Option ℕ
deadline (Takes m d) = d
deadline (Awaits c m d) = d
deadline _ = None

-- the mutex, the variable and the thread that it names, each as far as it names one
abbrev pub names : Shape → Named
names (Awaits c m d) = record { mutex = Some m; cond = Some c; thread = None }
names (Wakes r c) = record { mutex = None; cond = Some c; thread = None }
names (Sets t p) = record { mutex = None; cond = None; thread = Some t }
names (Takes m d) = record { mutex = Some m; cond = None; thread = None }
names (Tries m) = record { mutex = Some m; cond = None; thread = None }
names (GivesUp m) = record { mutex = Some m; cond = None; thread = None }
names (Repairs m) = record { mutex = Some m; cond = None; thread = None }

-- what a request names
abbrev pub names_of : Request → Named
names_of q = names (shape_of q)
