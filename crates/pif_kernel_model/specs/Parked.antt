-- The threads that are parked on condition variables (futex(2), FUTEX_WAIT_REQUEUE_PI), in lists of a node table: one
-- list for each variable, in the order of the keys with which the threads are parked.
use Rattle.std.specs.Prelude.{◌≡◌, ◌≢◌, ℕ, ◌+◌, ◌-◌, ◌<◌, ◌≤◌, true, false, List, [], length, map, get_or, set, replicate, Option, Some, None, option_map, refl}
use Rattle.std.specs.Coded.{Coded, code_by, coded×, coded_ℕ, coded_list, coded_option}
use Rattle.pif_nodes_model.specs.declared.keys.Key.{Key}
use Rattle.pif_nodes_model.specs.Lists.{has}
use Rattle.pif_nodes_model.specs.Table.{NodeLists, list_at, key_at, holder, IsApart}
use Rattle.pif_nodes_model.specs.Order.{IsSorted, comes_before}
use Rattle.pif_kernel_model.specs.Differences.{differences}

-- on which variable a thread is parked, and which mutex it is to get
pub record Place : Type 0 where
  pub cond : ℕ
  pub target : ℕ

-- the value: where its lists and nodes begin in the table, for how many threads and variables, where each thread is
-- parked, by number, and for each variable how many neighbours in its list differ in their target; places 0 are
-- nobody's
pub record ParkedLists : Type 0 where
  pub first_list : ℕ
  pub first_node : ℕ
  pub threads : ℕ
  pub conds : ℕ
  pub places : List (Option Place)
  pub differing : List ℕ

-- a parked thread: its variable and its target, and the key with which it stands among the others
pub record Parked : Type 0 where
  pub cond : ℕ
  pub target : ℕ
  pub rank : Key

-- nobody is parked, of so many threads, on any of so many variables
abbrev pub no_parked : ℕ → ℕ → ℕ → ℕ → ParkedLists
no_parked first_list first_node threads conds =
    record {
      first_list = first_list;
      first_node = first_node;
      threads = threads;
      conds = conds;
      places = replicate (threads + 1) None;
      differing = replicate (conds + 1) 0;
    }

abbrev pub place_at : ParkedLists → ℕ → Option Place
place_at p u = get_or p.places u None

-- how many neighbours in the list of a variable differ in their target
abbrev pub differing_at : ParkedLists → ℕ → ℕ
differing_at p c = get_or p.differing c 0

-- u is a thread, and c a variable, that have a place
abbrev pub IsThread : ParkedLists → ℕ → Type 0
IsThread p u = (1 ≤ u) × (u ≤ p.threads)

abbrev pub IsCond : ParkedLists → ℕ → Type 0
IsCond p c = (1 ≤ c) × (c ≤ p.conds)

-- the list of a variable, and the node of a thread
abbrev pub variable_list : ParkedLists → ℕ → ℕ
variable_list p c = p.first_list + (c - 1)

abbrev pub parking_node : ParkedLists → ℕ → ℕ
parking_node p u = p.first_node + (u - 1)

-- the thread of a node
abbrev pub thread_of_node : ParkedLists → ℕ → ℕ
thread_of_node p n = n - p.first_node + 1

-- n is the node of a thread
abbrev pub IsNodeOfThread : ParkedLists → ℕ → Type 0
IsNodeOfThread p n = (p.first_node ≤ n) × (n < p.first_node + p.threads)

-- the nodes of all threads but one are in the lists in which they were
abbrev pub KeepsNodes : ParkedLists → ℕ → NodeLists → NodeLists → Type 0
KeepsNodes p u was now = (v : ℕ) → IsThread p v → v ≢ u → holder now (parking_node p v) ≡ holder was (parking_node p v)

-- the target of a place; 0 if there is none
abbrev pub target_in : Option Place → ℕ
target_in None = 0
target_in (Some x) = x.target

-- the target of the thread of a node
abbrev pub target_of : ParkedLists → ℕ → ℕ
target_of p n = target_in (place_at p (thread_of_node p n))

-- a place, with the key of a node
abbrev pub parked_with : Key → Place → Parked
parked_with k x = record { cond = x.cond; target = x.target; rank = k }

-- where and with which key a thread is parked
abbrev pub parked_at : ParkedLists → NodeLists → ℕ → Option Parked
parked_at p t u = option_map (parked_with (key_at t (parking_node p u))) (place_at p u)

-- the threads that are parked on a variable, in the order in which they are taken
abbrev pub parked_on : ParkedLists → NodeLists → ℕ → List ℕ
parked_on p t c = map (thread_of_node p) (list_at t (variable_list p c))

-- the value with another place of a thread
abbrev pub with_place_at : ℕ → Option Place → ParkedLists → ParkedLists
with_place_at u x p = record p { places = set p.places u x }

-- the value with another number of neighbours of a variable that differ in their target
abbrev pub with_differing : ℕ → ℕ → ParkedLists → ParkedLists
with_differing c n p = record p { differing = set p.differing c n }

-- n is the node of a thread that is parked on c
pub record IsParkedNode (p : ParkedLists) (c n : ℕ) : Type 0 where
  pub thread : ℕ
  pub is_thread : IsThread p thread
  pub node : n ≡ parking_node p thread
  pub place : Place
  pub at : place_at p thread ≡ Some place
  pub cond : place.cond ≡ c

-- a thread that is parked on a variable stands in its list
pub record StandsIn (p : ParkedLists) (t : NodeLists) (u : ℕ) (x : Place) : Type 0 where
  pub is_thread : IsThread p u
  pub is_cond : IsCond p x.cond
  pub held : holder t (parking_node p u) ≡ Some (variable_list p x.cond)

-- the parked threads stand in a table, whatever is counted of them
pub record StandParked (p : ParkedLists) (t : NodeLists) : Type 0 where
  -- each node of the table is in at most one list, and once
  pub apart : IsApart t
  -- its lists and nodes are those of the table
  pub lists : p.first_list + p.conds ≤ length t.lists
  pub nodes : p.first_node + p.threads ≤ length t.keys
  -- places for all threads and all variables
  pub places : length p.places ≡ p.threads + 1
  pub counts : length p.differing ≡ p.conds + 1
  -- who is parked on a variable stands in its list, and nobody else does
  pub parked : (u : ℕ) (x : Place) → place_at p u ≡ Some x → StandsIn p t u x
  pub others : (c n : ℕ) → IsCond p c → has n (list_at t (variable_list p c)) ≡ true → IsParkedNode p c n
  pub sorted : (c : ℕ) → IsCond p c → IsSorted t (variable_list p c)

-- of a variable it is known how many neighbours in its list differ in their target
abbrev pub IsCounted : ParkedLists → NodeLists → ℕ → Type 0
IsCounted p t c = differing_at p c ≡ differences (target_of p) (list_at t (variable_list p c))

-- the parked threads stand in a table
pub record HoldsParked (p : ParkedLists) (t : NodeLists) : Type 0 where
  pub stand : StandParked p t
  pub counted : (c : ℕ) → IsCond p c → IsCounted p t c

-- they may stand, with nobody parked, in a table that has their lists, all empty, and their nodes
pub record HasRoomForParked (p : ParkedLists) (t : NodeLists) : Type 0 where
  pub apart : IsApart t
  pub lists : p.first_list + p.conds ≤ length t.lists
  pub nodes : p.first_node + p.threads ≤ length t.keys
  pub empty : (c : ℕ) → IsCond p c → list_at t (variable_list p c) ≡ []

-- u is parked on c with this key
pub record IsParkedOn (p : ParkedLists) (t : NodeLists) (c u : ℕ) (rank : Key) : Type 0 where
  pub parked : Parked
  pub at : parked_at p t u ≡ Some parked
  pub cond : parked.cond ≡ c
  pub ranked : parked.rank ≡ rank

-- u is the one that is taken first of those that are parked on a variable: none comes before it, by priority down and
-- then by ticket
pub record IsTopParked (p : ParkedLists) (t : NodeLists) (c u : ℕ) : Type 0 where
  pub rank : Key
  pub on : IsParkedOn p t c u rank
  pub first : (v : ℕ) (other : Key) → IsParkedOn p t c v other → comes_before other rank ≡ false

-- nobody is parked on a variable
abbrev pub HasNoParked : ParkedLists → NodeLists → ℕ → Type 0
HasNoParked p t c = (u : ℕ) (x : Parked) → parked_at p t u ≡ Some x → x.cond ≢ c

-- whoever is parked on a variable has this target
abbrev pub HasTarget : ParkedLists → NodeLists → ℕ → ℕ → Type 0
HasTarget p t c m = (u : ℕ) (x : Parked) → parked_at p t u ≡ Some x → x.cond ≡ c → x.target ≡ m

-- a thread with another priority, and with another ticket, if it is parked
abbrev pub parked_with_prio : ℕ → Option Parked → Option Parked
parked_with_prio prio x = option_map (λ (y : Parked). record y { rank = record y.rank { prio = prio } }) x

abbrev pub parked_with_ticket : ℕ → Option Parked → Option Parked
parked_with_ticket ticket x = option_map (λ (y : Parked). record y { rank = record y.rank { ticket = ticket } }) x

-- with this ticket a thread stands before the same others on its variable as it does now, and behind the same
pub record KeepsParkedOrder (p : ParkedLists) (t : NodeLists) (u ticket : ℕ) : Type 0 where
  pub before : (v c : ℕ) (mine other : Key) → v ≢ u → IsParkedOn p t c u mine → IsParkedOn p t c v other
      → comes_before (record mine { ticket = ticket }) other ≡ comes_before mine other
  pub behind : (v c : ℕ) (mine other : Key) → v ≢ u → IsParkedOn p t c u mine → IsParkedOn p t c v other
      → comes_before other (record mine { ticket = ticket }) ≡ comes_before other mine

-- how places and values are stored
abbrev pub place_code : Coded Place
place_code =
    code_by (ℕ × ℕ) (coded× coded_ℕ coded_ℕ) (λ x. (x.cond, x.target))
    (λ p. record { cond = p.0; target = p.1 }) (λ _. refl)

abbrev pub parked_code : Coded ParkedLists
parked_code =
    code_by ((ℕ × (ℕ × (ℕ × ℕ))) × (List (Option Place) × List ℕ))
    (coded× (coded× coded_ℕ (coded× coded_ℕ (coded× coded_ℕ coded_ℕ)))
    (coded× (coded_list (coded_option place_code)) (coded_list coded_ℕ)))
    (λ p. ((p.first_list, (p.first_node, (p.threads, p.conds))), (p.places, p.differing)))
    (λ p. record {
      first_list = p.0.0;
      first_node = p.0.1.0;
      threads = p.0.1.1.0;
      conds = p.0.1.1.1;
      places = p.1.0;
      differing = p.1.1;
    })
    (λ _. refl)
