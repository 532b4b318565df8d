-- A new table has room for a new queue.
use Rattle.std.proofs.Common.{◌≡◌, ℕ, List, [], length, replicate, ap, sym, subst, arith}
use Rattle.std.proofs.lemmas.List.{get_or-replicate, length-replicate}
use Rattle.pif_nodes_model.specs.Table.{NodeLists, IsApart, no_key, list_with}
use Rattle.pif_nodes_model.specs.Levels.{Queue, list_for, HasRoom}
use Rattle.pif_test_core.proofs.foundation.run_queue.run_queue_picks_first_of_greatest.Goals as goal

new_queue : Queue
new_queue = record { first_list = 0; first_node = 0; threads = 3; mask = 0 }

has_room : (t : NodeLists) → t ≡ record { lists = replicate 99 []; keys = replicate 3 no_key } → IsApart t
    → HasRoom new_queue t
unfolding new_queue
has_room t made apart =
    let lists : t.lists ≡ replicate 99 [] = ap (λ (x : NodeLists). x.lists) made in
    record {
      apart = apart;
      lists = omega (arith, ap length lists, length-replicate {A = List ℕ} 99 []);
      nodes = omega (arith, ap (λ (x : NodeLists). length x.keys) made, length-replicate 3 no_key);
      empty = λ p lp. rw lists (get_or-replicate 99 (list_for new_queue p) [] [] (omega arith));
      free = λ n mine. ap (λ (ls : List (List ℕ)). list_with ls n) lists;
    }

pub add_three-requires-clause-holds : goal.add_three-requires-clause-holds
unfolding new_queue
add_three-requires-clause-holds g c =
    c.new-queue.ensures.holds c.in_ok-table.table
    (subst (λ (q : Queue). HasRoom q c.in_ok-table.table) (sym c.new-queue.ensures.made)
    (has_room c.in_ok-table.table c.in_ok-table.ensures.made c.in_ok-table.ensures.apart))
