-- Owner states whose waiters stand in lists of a node table. The value has who owns each state, what each thread waits
-- for, and where in the table its own lists and nodes begin; the table has the order of the waiters and their keys.
use Rattle.std.specs.Prelude.{ℕ, ◌+◌, ◌-◌, ◌*◌, ◌<◌, ◌≤◌, List, length, replicate, map, get_or, set, Option, None, option_map, option_and_then, refl}
use Rattle.std.specs.List.{range_with_len}
use Rattle.std.specs.Ordering.{nat_cmp}
use Rattle.std.specs.FinMap.{FinMap, empty, get, insert}
use Rattle.std.specs.FinMap as map
use Rattle.std.specs.Coded.{Coded, code_by, coded×, coded_ℕ, coded_list, coded_option}
use Rattle.pif_nodes_model.specs.Lists.{first_of}
use Rattle.pif_nodes_model.specs.Table.{NodeLists, list_at, key_at}
use Rattle.pif_kernel_model.specs.Owners.{Owners, Task}

-- what the value has of a thread: its base and its effective priority, 0 if it was not admitted, and the owner state
-- on which it is queued
pub record Row : Type 0 where
  pub base : ℕ
  pub local : ℕ
  pub wait : Option ℕ

-- the value: where its lists and nodes begin in the table, for how many threads, and what it has of threads and states
pub record States : Type 0 where
  -- the first of its lists: one for each row of a state, with the waiters there, then one for each thread, with the top
  -- waiters of the states that it owns
  pub first_list : ℕ
  -- the first of its nodes: one for each thread as a waiter, then one for each thread as a top waiter
  pub first_node : ℕ
  pub threads : ℕ
  -- what it has of each thread, by number; place 0 is nobody's
  pub rows : List Row
  -- the rows of no state, the next one last
  pub free : List ℕ
  -- the owner of each state, by its key
  pub owners : FinMap nat_cmp ℕ
  -- the row of each state, by its key: a number below that of threads
  pub places : FinMap nat_cmp ℕ

-- what stands at place 0 of the rows, and of a thread that was not admitted
abbrev pub no_row : Row
no_row = record { base = 0; local = 0; wait = None }

-- no state, for so many threads, of which none was admitted
abbrev pub empty_states : ℕ → ℕ → ℕ → States
empty_states first_list first_node threads =
    record {
      first_list = first_list;
      first_node = first_node;
      threads = threads;
      rows = replicate (threads + 1) no_row;
      free = range_with_len 0 threads;
      owners = empty;
      places = empty;
    }

-- u is a thread that has a row
abbrev pub IsThread : States → ℕ → Type 0
IsThread m u = (1 ≤ u) × (u ≤ m.threads)

abbrev pub row_at : States → ℕ → Row
row_at m u = get_or m.rows u no_row

-- the owner state on which a thread is queued
abbrev pub wait_of : States → ℕ → Option ℕ
wait_of m u = (row_at m u).wait

-- the node of a thread as a waiter
abbrev pub wait_node : States → ℕ → ℕ
wait_node m u = m.first_node + (u - 1)

-- the node of a thread as a top waiter
abbrev pub top_node : States → ℕ → ℕ
top_node m u = m.first_node + m.threads + (u - 1)

-- the list of the waiters of the state that has a row
abbrev pub wait_list : States → ℕ → ℕ
wait_list m r = m.first_list + r

-- the list of the top waiters of the states that a thread owns
abbrev pub top_list : States → ℕ → ℕ
top_list m u = m.first_list + m.threads + (u - 1)

-- the thread of a node of a waiter
abbrev pub waiter_for : States → ℕ → ℕ
waiter_for m n = n - m.first_node + 1

-- a list, or a node, is one of its own
abbrev pub IsOwnList : States → ℕ → Type 0
IsOwnList m l = (m.first_list ≤ l) × (l < m.first_list + 2 * m.threads)

abbrev pub IsOwnNode : States → ℕ → Type 0
IsOwnNode m n = (m.first_node ≤ n) × (n < m.first_node + 2 * m.threads)

-- the first of the waiters of a state
abbrev pub first_waiter : States → NodeLists → ℕ → Option ℕ
first_waiter m t k =
    option_and_then (λ r. option_map (waiter_for m) (first_of (list_at t (wait_list m r)))) (get m.places k)

-- what is known of a thread: its rank is the key of its node
abbrev pub seat_in : States → NodeLists → ℕ → Task
seat_in m t u =
    record {
      base = (row_at m u).base;
      local = (row_at m u).local;
      wait = option_map (λ k. record { state = k; rank = key_at t (wait_node m u) }) (row_at m u).wait;
    }

-- the owner states that value and table are together
abbrev pub owners_in : States → NodeLists → Owners
owners_in m t = record { seats = map (seat_in m t) (range_with_len 0 (length m.rows)); owners = m.owners }

-- the value with another row of a thread
abbrev pub with_row : ℕ → Row → States → States
with_row u x m = record m { rows = set m.rows u x }

-- the value if a thread waits on this state, or on none
abbrev pub with_wait_on : ℕ → Option ℕ → States → States
with_wait_on u w m = with_row u (record (row_at m u) { wait = w }) m

-- the value with this owner of a state
abbrev pub with_owner_of : ℕ → ℕ → States → States
with_owner_of k owner m = record m { owners = insert m.owners k owner }

-- how rows and values are stored
abbrev pub row_code : Coded Row
row_code =
    code_by (ℕ × (ℕ × Option ℕ)) (coded× coded_ℕ (coded× coded_ℕ (coded_option coded_ℕ)))
    (λ x. (x.base, (x.local, x.wait))) (λ p. record { base = p.0; local = p.1.0; wait = p.1.1 }) (λ _. refl)

abbrev pub states_code : Coded States
states_code =
    code_by ((ℕ × (ℕ × ℕ)) × ((List Row × List ℕ) × (FinMap nat_cmp ℕ × FinMap nat_cmp ℕ)))
    (coded× (coded× coded_ℕ (coded× coded_ℕ coded_ℕ))
    (coded× (coded× (coded_list row_code) (coded_list coded_ℕ))
    (coded× (map.code coded_ℕ coded_ℕ) (map.code coded_ℕ coded_ℕ))))
    (λ m. ((m.first_list, (m.first_node, m.threads)), ((m.rows, m.free), (m.owners, m.places))))
    (λ p. record {
      first_list = p.0.0;
      first_node = p.0.1.0;
      threads = p.0.1.1;
      rows = p.1.0.0;
      free = p.1.0.1;
      owners = p.1.1.0;
      places = p.1.1.1;
    })
    (λ _. refl)
