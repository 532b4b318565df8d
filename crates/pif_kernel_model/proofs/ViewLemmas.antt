-- How the seats of owner states are read from value and table.
use Rattle.std.proofs.Common.{◌≡◌, ◌⊎◌, ℕ, ◌<◌, ◌≤◌, length, Option, Some, None, option_map, refl, sym, ◌∙◌, ap, inl, inr, arith}
use Rattle.std.proofs.lemmas.Bool.{cases_lt}
use Rattle.std.proofs.lemmas.List.{get_or_past}
use Rattle.std.proofs.lemmas.List.FromFn.{fill_by_all, length-map-range_with_len, get_or-map-range_with_len}
use Rattle.pif_nodes_model.specs.declared.keys.Key.{Key}
use Rattle.pif_nodes_model.specs.Table.{NodeLists, key_at}
use Rattle.pif_kernel_model.specs.Owners.{Owners, Task, Wait, no_task, task_at, state_of, waits_on, rank_of}
use Rattle.pif_kernel_model.specs.States.{Row, States, no_row, wait_of, wait_node, seat_in, owners_in}

-- the view has a seat for each row
pub length-seats : (m : States) (t : NodeLists) → length (owners_in m t).seats ≡ length m.rows
length-seats m t = length-map-range_with_len (seat_in m t) 0 (length m.rows)

-- and it is what value and table say of the thread
pub task_at-owners_in : (m : States) (t : NodeLists) (u : ℕ) → task_at (owners_in m t) u ≡ seat_in m t u
task_at-owners_in m t u = by_place (cases_lt u (length m.rows))
  where
    empty_seat : Row → Task
    empty_seat x =
        record {
          base = x.base;
          local = x.local;
          wait =
              option_map (λ k. record { state = k; rank = key_at t (wait_node m u) }) x.wait;
        }

    by_place : ((u < length m.rows) ⊎ (length m.rows ≤ u)) → task_at (owners_in m t) u ≡ seat_in m t u
    by_place (inl l) = get_or-map-range_with_len (seat_in m t) 0 (length m.rows) u u no_task l (omega arith)
    by_place (inr p) =
        get_or_past (owners_in m t).seats u no_task (omega (arith, length-seats m t))
        ∙ ap (λ (x : Row). record {
          base = x.base;
          local = x.local;
          wait =
              option_map (λ k. record { state = k; rank = key_at t (wait_node m u) }) x.wait;
        })
        (sym (get_or_past m.rows u no_row p))

state_of_wait : (o : Option ℕ) (rank : Key)
    → option_map (λ (w : Wait). w.state) (option_map (λ k. record { state = k; rank = rank }) o) ≡ o
state_of_wait None rank = refl
state_of_wait (Some k) rank = refl

-- a thread is queued on the state that its row names
pub waits_on-owners_in : (m : States) (t : NodeLists) (u : ℕ) → waits_on (owners_in m t) u ≡ wait_of m u
waits_on-owners_in m t u = ap state_of (task_at-owners_in m t u)
    ∙ state_of_wait (wait_of m u) (key_at t (wait_node m u))

-- with the key of its node
pub rank_of-owners_in : (m : States) (t : NodeLists) (u k : ℕ) → wait_of m u ≡ Some k
    → rank_of (owners_in m t) u ≡ Some (key_at t (wait_node m u))
rank_of-owners_in m t u k w =
    ap (λ (x : Task). option_map (λ (w : Wait). w.rank) x.wait) (task_at-owners_in m t u)
    ∙ ap (λ (o : Option ℕ). option_map (λ (w : Wait). w.rank)
    (option_map (λ k. record { state = k; rank = key_at t (wait_node m u) }) o)) w

-- a view is the one that agrees with value and table at each seat
pub owners_in-by_seat : (m : States) (t : NodeLists) (v : Owners) → v.owners ≡ m.owners → length v.seats ≡ length m.rows
    → ((u : ℕ) → u < length m.rows → task_at v u ≡ seat_in m t u) → owners_in m t ≡ v
owners_in-by_seat m t v owners count seats =
    λ i. record {
      seats = sym (fill_by_all (seat_in m t) v.seats (length m.rows) no_task count seats) i;
      owners =
          sym owners i;
    }
