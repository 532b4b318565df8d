-- Groups of the threads, mutexes and variables that lines join: names that a line joins are in one group, so that each
-- group is one component or more. (Disjoint sets: Cormen, Leiserson, Rivest and Stein, Introduction to Algorithms.)
use Rattle.std.specs.Prelude.{ℕ, ◌≡◌, ◌<◌, ◌≤◌, ◌+◌, ◌-◌, ◌==◌, List, [], ◌∷◌, Option, Some, None, get_or, length, map, set, if◌then◌else◌}
use Rattle.pif_history_model.specs.declared.lines.Line.{Line}
use Rattle.pif_components_model.specs.Components.{Name, Joins, variables_of}
use Rattle.pif_components_model.specs.Components.Name.{OfThread, OfMutex, OfVariable}
use Rattle.pif_components.specs.declared.groups.Groups.{Groups}
use Rattle.pif_components.specs.declared.groups.Object.{Object}
use Rattle.pif_components.specs.declared.groups.Object.TheVariants as object

-- what it is called
abbrev pub name_of : Object → Name
name_of (object.Thread t) = OfThread t
name_of (object.Mutex m) = OfMutex m
name_of (object.Variable c) = OfVariable c

-- WHERE A NAME IS

-- its group, if it has one
abbrev pub group_of : Groups → Name → Option ℕ
group_of g (OfThread t) = get_or g.threads.items t None
group_of g (OfMutex m) = get_or g.mutexes.items m None
group_of g (OfVariable c) = get_or g.variables.items c None

-- the number of its group: what no line joins with another is in group 0
abbrev pub number_or_none : Option ℕ → ℕ
number_or_none None = 0
number_or_none (Some k) = k

abbrev pub number_of : Groups → Name → ℕ
number_of g a = number_or_none (group_of g a)

-- the lists have a place for it
abbrev pub HasPlace : Groups → Name → Type 0
HasPlace g (OfThread t) = t < length g.threads.items
HasPlace g (OfMutex m) = m < length g.mutexes.items
HasPlace g (OfVariable c) = c < length g.variables.items

-- two names are in one group
pub record AreTogether (g : Groups) (a b : Name) : Type 0 where
  pub group : ℕ
  pub first : group_of g a ≡ Some group
  pub second : group_of g b ≡ Some group

-- there is a group, and the groups of names are among the first so many
pub record AreBounded (g : Groups) : Type 0 where
  pub some : 1 ≤ g.count
  pub below : (a : Name) (k : ℕ) → group_of g a ≡ Some k → k < g.count

-- these are groups of what these lines, newest first, join: each two names that one of them joins are together
pub record AreGroupsOf (lines : List Line) (g : Groups) : Type 0 where
  pub bounded : AreBounded g
  pub joined : (a b : Name) → Joins lines a b → AreTogether g a b
  pub variables : length g.variables.items ≡ variables_of lines + 1

-- CHANGES

-- names that are together stay so, and so many variables are added
pub record Keeps (more : ℕ) (old new : Groups) : Type 0 where
  pub bounded : AreBounded new
  pub together : (a b : Name) → AreTogether old a b → AreTogether new a b
  pub variables : length new.variables.items ≡ length old.variables.items + more

-- and these two are together
pub record IsJoined (a b : Name) (old new : Groups) : Type 0 where
  pub keeps : Keeps 0 old new
  pub joined : AreTogether new a b

-- no name has a group
pub record IsNew (g : Groups) : Type 0 where
  pub threads : g.threads.items ≡ None ∷ []
  pub mutexes : g.mutexes.items ≡ None ∷ []
  pub variables : g.variables.items ≡ None ∷ []
  pub count : g.count ≡ 1

-- a name is in this group
abbrev pub threads_put : Name → ℕ → List (Option ℕ) → List (Option ℕ)
threads_put (OfThread t) k xs = set xs t (Some k)
threads_put _ k xs = xs

abbrev pub mutexes_put : Name → ℕ → List (Option ℕ) → List (Option ℕ)
mutexes_put (OfMutex m) k xs = set xs m (Some k)
mutexes_put _ k xs = xs

abbrev pub variables_put : Name → ℕ → List (Option ℕ) → List (Option ℕ)
variables_put (OfVariable c) k xs = set xs c (Some k)
variables_put _ k xs = xs

pub record IsPut (a : Name) (k : ℕ) (old new : Groups) : Type 0 where
  pub threads : new.threads.items ≡ threads_put a k old.threads.items
  pub mutexes : new.mutexes.items ≡ mutexes_put a k old.mutexes.items
  pub variables : new.variables.items ≡ variables_put a k old.variables.items
  pub count : new.count ≡ old.count

-- the group of this number, once group `high` belongs to group `low`, and the last group has its number
abbrev pub moved : (low high last : ℕ) → ℕ → ℕ
moved low high last k = if k == high then low else (if k == last then high else k)

abbrev pub relabelled : (low high last : ℕ) → Option ℕ → Option ℕ
relabelled low high last None = None
relabelled low high last (Some k) = Some (moved low high last k)

-- it is so of all names
pub record IsMerged (low high : ℕ) (old new : Groups) : Type 0 where
  pub threads : new.threads.items ≡ map (relabelled low high (old.count - 1)) old.threads.items
  pub mutexes : new.mutexes.items ≡ map (relabelled low high (old.count - 1)) old.mutexes.items
  pub variables : new.variables.items ≡ map (relabelled low high (old.count - 1)) old.variables.items
  pub count : new.count ≡ old.count - 1
