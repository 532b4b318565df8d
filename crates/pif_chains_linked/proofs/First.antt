-- Linked chains at first, in a table all of whose lists are empty.
use Rattle.std.proofs.Common.{◌≡◌, ℕ, ◌+◌, ◌*◌, ◌≤◌, [], length, replicate, Option, Some, None, subst, sym, ap, ◌∙◌, inl, arith}
use Rattle.std.proofs.lemmas.List.{length-replicate}
use Rattle.std.proofs.lemmas.List.FromFn.{fill_by_all}
use Rattle.std.proofs.lemmas.List.{get_or-replicate}
use Rattle.pif_nodes_model.specs.Table.{NodeLists, IsApart, holder, list_at}
use Rattle.pif_nodes_model.specs.Levels.{Queue, Holds, HasRoom, level_of, list_for}
use Rattle.pif_kernel_model.specs.States.{States, empty_states, top_node}
use Rattle.pif_kernel_model.specs.Holds.{HoldsStates, HasRoomForStates}
use Rattle.pif_kernel_model.specs.Entries.{no_entry, found_in}
use Rattle.pif_kernel_model.specs.Parked.{parked_at}
use Rattle.pif_kernel_model.specs.Buckets.{Buckets, HoldsBuckets}
use Rattle.pif_kernel_model.specs.Buckets.{HasRoomForBuckets}
use Rattle.pif_kernel_model.proofs.Rooms.{no_buckets, room-made}
use Rattle.pif_kernel_model.specs.Inside.{no_keys}
use Rattle.pif_nodes_model.proofs.EmptyTables.{empty_table, empty_lists, empty_nodes, empty_list, empty_free, empty_level}
use Rattle.pif_chains_linked.specs.Parkings.{parkings_in}
use Rattle.pif_chains_linked.specs.Linked.{key_count, key_of, keys_in, StandLinked, IsLinked}
use Rattle.pif_chains_linked.proofs.ParkingLemmas.{nobody_parked, are_parked-nobody}

module _ (threads lists next : ℕ) (m : States) (q : Queue) (b : Buckets) (t : NodeLists) (count : lists ≡ 2 * threads + 419)
    (some : 1 ≤ next)
    (states : m ≡ empty_states 0 0 threads)
    (made : q ≡ record { first_list = 2 * threads; first_node = 2 * threads; threads = threads; mask = 0 })
    (bucketed : b ≡ no_buckets (2 * threads + 99) (3 * threads) 0 threads 256)
    (empty : t ≡ empty_table lists (4 * threads)) (apart : IsApart t)
    (may_hold : (x : NodeLists) → HasRoomForStates m x → HoldsStates m x)
    (may_queue : (x : NodeLists) → HasRoom q x → Holds q x)
    (may_stand : (x : NodeLists) → HasRoomForBuckets b x → HoldsBuckets b x)
    (no_word : (x : NodeLists) → HasRoomForBuckets b x → (w : ℕ) → found_in b.entries x w ≡ None)
    (nobody : (x : NodeLists) (u : ℕ) → parked_at b.parked x u ≡ None) where
  list : m.first_list ≡ 0
  list = ap (λ (x : States). x.first_list) states

  node : m.first_node ≡ 0
  node = ap (λ (x : States). x.first_node) states

  many : m.threads ≡ threads
  many = ap (λ (x : States). x.threads) states

  level : q.first_list ≡ 2 * threads
  level = ap (λ (x : Queue). x.first_list) made

  ready : q.first_node ≡ 2 * threads
  ready = ap (λ (x : Queue). x.first_node) made

  queued : q.threads ≡ threads
  queued = ap (λ (x : Queue). x.threads) made

  all : length t.lists ≡ lists
  all = ap (λ (x : NodeLists). length x.lists) empty ∙ empty_lists lists (4 * threads)

  nodes : length t.keys ≡ 4 * threads
  nodes = ap (λ (x : NodeLists). length x.keys) empty ∙ empty_nodes lists (4 * threads)

  free : (n : ℕ) → holder t n ≡ None
  free n = ap (λ (x : NodeLists). holder x n) empty ∙ empty_free lists (4 * threads) n (subst IsApart empty apart)

  states_room : HasRoomForStates m t
  states_room = record {
    apart = apart;
    lists = omega (arith, list, many, all, count);
    nodes = omega (arith, node, many, nodes);
    empty = λ l own. ap (λ (x : NodeLists). list_at x l) empty ∙ empty_list lists (4 * threads) l;
    free = λ u i. free (top_node m u);
  }

  levels_room : HasRoom q t
  levels_room = record {
    apart = apart;
    lists = omega (arith, level, all, count);
    nodes = omega (arith, ready, queued, nodes);
    empty = λ p lp. ap (λ (x : NodeLists). list_at x (list_for q p)) empty ∙ empty_list lists (4 * threads) (list_for q p);
    free = λ n mine. free n;
  }

  buckets_room : HasRoomForBuckets b t
  buckets_room =
      subst (λ (x : Buckets). HasRoomForBuckets x t) (sym bucketed)
      (room-made (2 * threads + 99) (3 * threads) 0 threads 256 lists (4 * threads) t empty apart
      (omega (arith, count)) (omega arith) (omega arith) (inl (omega arith)))

  stand : StandLinked m q b t
  stand = record {
    owners = may_hold t states_room;
    queue = may_queue t levels_room;
    buckets = may_stand t buckets_room;
    laid = record {
      waiters = list;
      levels = omega (arith, level, many);
      buckets = omega (arith, ap (λ (x : Buckets). x.entries.first_list) bucketed, many);
      variables = omega (arith, ap (λ (x : Buckets). x.parked.first_list) bucketed, many);
      wait_nodes = node;
      ready_nodes = omega (arith, ready, many);
      row_nodes = omega (arith, ap (λ (x : Buckets). x.entries.first_node) bucketed, many);
      parked_nodes = ap (λ (x : Buckets). x.parked.first_node) bucketed;
      ready = queued ∙ sym many;
      rows =
          ap (λ (x : Buckets). length x.entries.items) bucketed ∙ length-replicate threads no_entry ∙ sym many;
      parked = ap (λ (x : Buckets). x.parked.threads) bucketed ∙ sym many;
      conds = ap (λ (x : Buckets). x.parked.conds) bucketed;
    };
    lists = omega (arith, all, count, many);
  }

  pub linked_first : IsLinked m q b t next
  linked_first = record {
    stand = stand;
    words = λ w f is. let wrong : None ≡ Some f = sym (no_word t buckets_room w) ∙ is in absurd cc;
    parked = record {
      parked = are_parked-nobody (parked_at b.parked t) b.parked.threads next some (nobody t);
      ranked = λ u x is. let wrong : None ≡ Some x = sym (nobody t u) ∙ is in absurd cc;
      idle = λ u x is. let wrong : None ≡ Some x = sym (nobody t u) ∙ is in absurd cc;
      admitted = λ u x is. let wrong : None ≡ Some x = sym (nobody t u) ∙ is in absurd cc;
    };
  }

  pub levels_first : (p : ℕ) → level_of q t p ≡ []
  levels_first p = ap (λ (x : NodeLists). level_of q x p) empty ∙ empty_level q lists (4 * threads) p

  pub keys_first : keys_in b.entries t ≡ no_keys
  unfolding no_keys
  keys_first =
      sym (fill_by_all (λ w. key_of (found_in b.entries t w)) (replicate {A = Option ℕ} key_count None) key_count None
      (length-replicate {A = Option ℕ} key_count None)
      (λ k l. get_or-replicate key_count k None None l ∙ ap key_of (sym (no_word t buckets_room k))))

  pub parked_first : parkings_in b.parked t ≡ []
  parked_first = nobody_parked (parked_at b.parked t) b.parked.threads (nobody t)
