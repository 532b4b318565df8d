-- All that stands in the table of linked chains stands there still, whatever a call changes of one of its users.
use Rattle.std.proofs.Common.{◌≡◌, ◌⊎◌, ℕ, ◌+◌, ◌-◌, ◌*◌, ◌<◌, ◌≤◌, true, false, length, Option, Some, None, IsSome, option_map, refl, subst, sym, ap, ◌∙◌, inl, inr, arith}
use Rattle.std.proofs.lemmas.Bool.{cases_lt}
use Rattle.std.specs.FinMap.{get}
use Rattle.pif_nodes_model.specs.Lists.{has}
use Rattle.pif_nodes_model.specs.Table.{NodeLists, holder, list_at, key_at}
use Rattle.pif_nodes_model.specs.Levels.{Queue, Holds, IsLevel, IsThreadNode, KeepsQueue, SameOutside, list_for, level_of}
use Rattle.pif_nodes_model.proofs.KeptLemmas.{levels-framed, queue-framed}
use Rattle.pif_kernel_model.specs.Owners.{Task, waits_on, with_task}
use Rattle.pif_kernel_model.specs.States.{States, IsThread, wait_of, wait_node, wait_list, top_list, owners_in}
use Rattle.pif_kernel_model.specs.Holds.{IsWaiterIn, IsTopNode}
use Rattle.pif_kernel_model.specs.Holds.{HoldsStates}
use Rattle.pif_kernel_model.specs.Frames.{KeepsOwn}
use Rattle.pif_kernel_model.specs.Frames.{SameOutsideStates}
use Rattle.pif_kernel_model.proofs.FrameLemmas.{holds-framed, owners-framed}
use Rattle.pif_kernel_model.specs.BoostFrames.{StandsBefore}
use Rattle.pif_kernel_model.proofs.BoostFrameLemmas.{states-leave, queue-leaves, beyond-states, beyond-queue}
use Rattle.pif_kernel_model.specs.Entries.{IsEntered}
use Rattle.pif_kernel_model.specs.Parked.{Place, IsParkedNode, place_at, parked_at, parked_with, parking_node}
use Rattle.pif_kernel_model.specs.Parked.{variable_list}
use Rattle.pif_kernel_model.specs.Buckets.{Buckets, HoldsBuckets}
use Rattle.pif_model.specs.PiKernel.{parked_pairs}
use Rattle.pif_kernel_model.specs.Tickets.{is_named}
use Rattle.pif_kernel_model.specs.Chained.{Chained, KeepsLevels}
use Rattle.pif_chains_linked.specs.Parkings.{parkings_in}
use Rattle.pif_chains_linked.specs.Linked.{keys_in, IsLaidOut, StandLinked, FitsParked, IsLinked}
use Rattle.pif_chains_linked.proofs.ParkingLemmas.{unnamed_parked}
use Rattle.pif_chains_linked.proofs.Fits.{fits_but, waits_unparked, waiting_unparked}
use Rattle.pif_chains_linked.proofs.Leaving.{KeepsBuckets, beyond_keeps, buckets_there, keys_there, parkings_there, words_there, fits_there}
use Rattle.pif_kernel_model.proofs.SamePlace.{SamePlace}

-- what linked chains of these parts are seen as
abbrev pub linked : States → Queue → Buckets → NodeLists → Chained
linked m q b t = record {
  owners = owners_in m t;
  queue = q;
  table = t;
  keys = keys_in b.entries t;
  parked = parkings_in b.parked t;
}

pub laid_moved : (m m' : States) (q : Queue) (b : Buckets) → SamePlace m m' → IsLaidOut m q b → IsLaidOut m' q b
laid_moved m m' q b place l = record {
  waiters = place.list ∙ l.waiters;
  levels = omega (arith, l.levels, place.threads);
  buckets = omega (arith, l.buckets, place.threads);
  variables = omega (arith, l.variables, place.threads);
  wait_nodes = place.node ∙ l.wait_nodes;
  ready_nodes = omega (arith, l.ready_nodes, place.threads);
  row_nodes = omega (arith, l.row_nodes, place.threads);
  parked_nodes = l.parked_nodes;
  ready = omega (arith, l.ready, place.threads);
  rows = omega (arith, l.rows, place.threads);
  parked = omega (arith, l.parked, place.threads);
  conds = l.conds;
}

pub laid_masked : (m : States) (q q' : Queue) (b : Buckets) → q' ≡ record q { mask = q'.mask } → IsLaidOut m q b
    → IsLaidOut m q' b
laid_masked m q q' b place l = record {
  waiters = l.waiters;
  levels = ap (λ (x : Queue). x.first_list) place ∙ l.levels;
  buckets = l.buckets;
  variables = l.variables;
  wait_nodes = l.wait_nodes;
  ready_nodes = ap (λ (x : Queue). x.first_node) place ∙ l.ready_nodes;
  row_nodes = l.row_nodes;
  parked_nodes = l.parked_nodes;
  ready = ap (λ (x : Queue). x.threads) place ∙ l.ready;
  rows = l.rows;
  parked = l.parked;
  conds = l.conds;
}

pub stands_before : (m : States) (q : Queue) (b : Buckets) → IsLaidOut m q b → StandsBefore m q
stands_before m q b l = record {
  lists = omega (arith, l.waiters, l.levels);
  nodes = omega (arith, l.wait_nodes, l.ready_nodes);
}

module _ (m : States) (q : Queue) (b : Buckets) (t : NodeLists) (s : StandLinked m q b t) where
  -- who is not parked has no place
  unplaced : (u : ℕ) → parked_at b.parked t u ≡ None → place_at b.parked u ≡ None
  unplaced u none = by_place (place_at b.parked u) refl
    where
      by_place : (o : Option Place) → place_at b.parked u ≡ o → place_at b.parked u ≡ None
      by_place None e = e
      by_place (Some x) e =
          let wrong : Some (parked_with (key_at t (parking_node b.parked u)) x) ≡ None
          = ap (option_map (parked_with (key_at t (parking_node b.parked u)))) (sym e) ∙ none in
          absurd cc

  -- the node of a thread that waits for nothing and is not parked is in no list
  pub idle_node : (u : ℕ) → IsThread m u → wait_of m u ≡ None → parked_at b.parked t u ≡ None
      → holder t (wait_node m u) ≡ None
  idle_node u i none unparked = by_holder (holder t (wait_node m u)) refl
    where
      off : place_at b.parked u ≡ None
      off = unplaced u unparked

      waiter : (r : ℕ) → IsWaiterIn m r (wait_node m u) → ⊥
      waiter r is =
          let one : is.thread ≡ u = omega (arith, is.is_thread, i, is.node) in
          let both : None ≡ Some is.state = sym none ∙ ap (wait_of m) (sym one) ∙ is.waits in
          absurd cc

      on_top : IsTopNode m (wait_node m u) → ⊥
      on_top is = absurd (omega (arith, is.is_thread, is.node, i))

      on_level : IsThreadNode q (wait_node m u) → ⊥
      on_level is = absurd (omega (arith, is.0, i, s.laid.wait_nodes, s.laid.ready_nodes))

      in_bucket : (k : ℕ) → IsEntered b.entries k (wait_node m u) → ⊥
      in_bucket k is = absurd (omega (arith, is.low, i, s.laid.wait_nodes, s.laid.row_nodes))

      parked : (c : ℕ) → IsParkedNode b.parked c (wait_node m u) → ⊥
      parked c is =
          let one : is.thread ≡ u
          = omega (arith, is.is_thread, i, is.node, s.laid.wait_nodes, s.laid.parked_nodes, s.laid.parked) in
          let both : None ≡ Some is.place = sym off ∙ ap (place_at b.parked) (sym one) ∙ is.at in
          absurd cc

      by_list : (l : ℕ) → l < length t.lists → has (wait_node m u) (list_at t l) ≡ true
          → ((l < m.threads) ⊎ (m.threads ≤ l)) → ((l < 2 * m.threads) ⊎ (2 * m.threads ≤ l))
          → ((l < 2 * m.threads + 99) ⊎ (2 * m.threads + 99 ≤ l))
          → ((l < 2 * m.threads + 163) ⊎ (2 * m.threads + 163 ≤ l)) → ⊥
      by_list l within there (inl low) two three four =
          let at : wait_list m l ≡ l = omega (arith, s.laid.waiters) in
          waiter l (s.owners.waiters.waiters l (wait_node m u) low
          (ap (λ (x : ℕ). has (wait_node m u) (list_at t x)) at ∙ there))
      by_list l within there (inr high) (inl low) three four =
          let o : ℕ = l - m.threads + 1 in
          let at : top_list m o ≡ l = omega (arith, s.laid.waiters, high) in
          on_top (s.owners.tops.topped.nodes o (wait_node m u) (omega arith, omega (arith, high, low))
          (ap (λ (x : ℕ). has (wait_node m u) (list_at t x)) at ∙ there))
      by_list l within there (inr high) (inr beyond) (inl low) four =
          let p : ℕ = l - q.first_list + 1 in
          let at : list_for q p ≡ l = omega (arith, s.laid.levels, beyond) in
          on_level (s.queue.threads p (wait_node m u) (omega arith, omega (arith, low, s.laid.levels, beyond))
          (ap (λ (x : ℕ). has (wait_node m u) (list_at t x)) at ∙ there))
      by_list l within there (inr high) (inr beyond) (inr behind) (inl low) =
          let k : ℕ = l - b.entries.first_list in
          let at : b.entries.first_list + k ≡ l = omega (arith, s.laid.buckets, behind) in
          in_bucket k (s.buckets.entries.entered k (wait_node m u) (omega (arith, low, s.laid.buckets, behind))
          (ap (λ (x : ℕ). has (wait_node m u) (list_at t x)) at ∙ there))
      by_list l within there (inr high) (inr beyond) (inr behind) (inr last) =
          let c : ℕ = l - b.parked.first_list + 1 in
          let at : variable_list b.parked c ≡ l = omega (arith, s.laid.variables, last) in
          parked c (s.buckets.parked.stand.others c (wait_node m u)
          (omega arith, omega (arith, within, s.lists, s.laid.variables, s.laid.conds, last))
          (ap (λ (x : ℕ). has (wait_node m u) (list_at t x)) at ∙ there))

      by_holder : (o : Option ℕ) → holder t (wait_node m u) ≡ o → holder t (wait_node m u) ≡ None
      by_holder None e = e
      by_holder (Some l) e =
          absurd (by_list l (s.queue.apart.lists l (wait_node m u) e) (s.queue.apart.listed l (wait_node m u) e)
          (cases_lt l m.threads) (cases_lt l (2 * m.threads)) (cases_lt l (2 * m.threads + 99))
          (cases_lt l (2 * m.threads + 163)))

module _ (m : States) (q : Queue) (b : Buckets) (t : NodeLists) (next : ℕ) (h : IsLinked m q b t next) where
  -- who is not named among the parked threads is not parked
  pub unparked : (u : ℕ) → is_named u (parked_pairs (parkings_in b.parked t)) ≡ false → parked_at b.parked t u ≡ None
  unparked u = unnamed_parked (parked_at b.parked t) b.parked.threads next h.parked.parked u

  -- who waits is not parked
  pub waits_off : (u k : ℕ) → waits_on (owners_in m t) u ≡ Some k → parked_at b.parked t u ≡ None
  waits_off u k = waits_unparked (owners_in m t) (parked_at b.parked t) b.parked.threads next h.parked u k

  pub waiting_off : (u : ℕ) → IsSome (waits_on (owners_in m t) u) → parked_at b.parked t u ≡ None
  waiting_off u = waiting_unparked (owners_in m t) (parked_at b.parked t) b.parked.threads next h.parked u

  -- A CALL CHANGED THE OWNER STATES, AND NO ROW OF ONE
  module _ (m' : States) (t' : NodeLists) (place : SamePlace m m') (rows : m'.places ≡ m.places)
      (outside : SameOutsideStates m t t') (holds : HoldsStates m' t') where
    keeps_queue : KeepsQueue q t t'
    keeps_queue = states-leave m q t t' (stands_before m q b h.stand.laid) outside

    keeps_buckets : KeepsBuckets b t t'
    keeps_buckets = beyond_keeps m q b t t' h.stand.laid (beyond-states m q t t' outside)

    queue_there : Holds q t'
    queue_there = queue-framed q t t' keeps_queue h.stand.queue holds.waiters.apart

    pub owners_kept : KeepsLevels (linked m q b t) (linked m' q b t')
    owners_kept = record {
      levels = levels-framed q t t' keeps_queue;
      queue = refl;
      holds = queue_there;
      keys = keys_there b t t' keeps_buckets h.stand.buckets;
      parked = parkings_there b t t' keeps_buckets h.stand.buckets;
    }

    pub linked_owners : FitsParked (owners_in m' t') (parked_at b.parked t) b.parked.threads next → IsLinked m' q b t' next
    linked_owners fits = record {
      stand = record {
        owners = holds;
        queue = queue_there;
        buckets = buckets_there b t t' keeps_buckets h.stand.buckets holds.waiters.apart;
        laid = laid_moved m m' q b place h.stand.laid;
        lists = omega (arith, outside.list_count, h.stand.lists, place.threads);
      };
      words = λ w f e.
          let is = words_there b t t' keeps_buckets h.stand.buckets m h.words w f e in
          record { mutex = is.mutex; row = ap (λ p. get p f.key) rows ∙ is.row };
      parked = fits_there b t t' keeps_buckets h.stand.buckets (owners_in m' t') b.parked.threads next fits;
    }

  -- if the seat of one thread that is not parked was changed
  module _ (m' : States) (t' : NodeLists) (place : SamePlace m m') (rows : m'.places ≡ m.places)
      (outside : SameOutsideStates m t t') (holds : HoldsStates m' t') (u : ℕ) (x : Task)
      (off : parked_at b.parked t u ≡ None) (seated : owners_in m' t' ≡ with_task u x (owners_in m t)) where
    pub linked_seated : IsLinked m' q b t' next
    linked_seated = linked_owners m' t' place rows outside holds
        (subst (λ v. FitsParked v (parked_at b.parked t) b.parked.threads next) (sym seated)
        (fits_but (owners_in m t) (parked_at b.parked t) b.parked.threads next h.parked u x off))

  -- A CALL CHANGED THE LEVELS
  module _ (q' : Queue) (t' : NodeLists) (place : q' ≡ record q { mask = q'.mask }) (outside : SameOutside q t t')
      (holds : Holds q' t') where
    keeps_owners : KeepsOwn m t t'
    keeps_owners =
        queue-leaves q q' t t' place h.stand.queue holds outside m (stands_before m q b h.stand.laid)

    leaves_buckets : KeepsBuckets b t t'
    leaves_buckets =
        beyond_keeps m q b t t' h.stand.laid (beyond-queue q q' t t' place h.stand.queue holds outside m)

    pub owners_there : owners_in m t' ≡ owners_in m t
    owners_there = owners-framed m t t' keeps_owners holds.apart h.stand.owners

    pub keys_stay : keys_in b.entries t' ≡ keys_in b.entries t
    keys_stay = keys_there b t t' leaves_buckets h.stand.buckets

    pub parkings_stay : parkings_in b.parked t' ≡ parkings_in b.parked t
    parkings_stay = parkings_there b t t' leaves_buckets h.stand.buckets

    pub linked_queue : IsLinked m q' b t' next
    linked_queue = record {
      stand = record {
        owners = holds-framed m t t' keeps_owners holds.apart h.stand.owners;
        queue = holds;
        buckets = buckets_there b t t' leaves_buckets h.stand.buckets holds.apart;
        laid = laid_masked m q q' b place h.stand.laid;
        lists = outside.count ∙ h.stand.lists;
      };
      words = words_there b t t' leaves_buckets h.stand.buckets m h.words;
      parked =
          subst (λ v. FitsParked v (parked_at b.parked t') b.parked.threads next) (sym owners_there)
          (fits_there b t t' leaves_buckets h.stand.buckets (owners_in m t) b.parked.threads next h.parked);
    }

-- A CALL CHANGED THE BUCKETS
module _ (m : States) (q : Queue) (b : Buckets) (t : NodeLists) (s : StandLinked m q b t) where
  -- a state was made, or ended, in its rows alone
  pub stand_made : (m' : States) → SamePlace m m' → HoldsStates m' t → StandLinked m' q b t
  stand_made m' place holds = record {
    owners = holds;
    queue = s.queue;
    buckets = s.buckets;
    laid = laid_moved m m' q b place s.laid;
    lists = omega (arith, s.lists, place.threads);
  }

  module _ (b' : Buckets) (t' : NodeLists) (laid : IsLaidOut m q b') (holds : HoldsBuckets b' t') (owners : KeepsOwn m t t')
      (queue : KeepsQueue q t t') where
    pub owners_same : owners_in m t' ≡ owners_in m t
    owners_same = owners-framed m t t' owners holds.entries.apart s.owners

    pub queue_same : Holds q t'
    queue_same = queue-framed q t t' queue s.queue holds.entries.apart

    pub levels_same : (p : ℕ) → IsLevel p → level_of q t' p ≡ level_of q t p
    levels_same = levels-framed q t t' queue

    pub stand_same : StandLinked m q b' t'
    stand_same = record {
      owners = holds-framed m t t' owners holds.entries.apart s.owners;
      queue = queue_same;
      buckets = holds;
      laid = laid;
      lists = owners.lists.list_count ∙ s.lists;
    }

-- buckets of which a call changed the words, or the parked threads, are laid out as they were
pub laid_words : (m : States) (q : Queue) (b b' : Buckets)
    → b' ≡ record b { entries = record b.entries { items = b'.entries.items } }
    → length b'.entries.items ≡ length b.entries.items → IsLaidOut m q b → IsLaidOut m q b'
laid_words m q b b' place rows l = record {
  waiters = l.waiters;
  levels = l.levels;
  buckets = ap (λ (x : Buckets). x.entries.first_list) place ∙ l.buckets;
  variables = ap (λ (x : Buckets). x.parked.first_list) place ∙ l.variables;
  wait_nodes = l.wait_nodes;
  ready_nodes = l.ready_nodes;
  row_nodes = ap (λ (x : Buckets). x.entries.first_node) place ∙ l.row_nodes;
  parked_nodes = ap (λ (x : Buckets). x.parked.first_node) place ∙ l.parked_nodes;
  ready = l.ready;
  rows = rows ∙ l.rows;
  parked = ap (λ (x : Buckets). x.parked.threads) place ∙ l.parked;
  conds = ap (λ (x : Buckets). x.parked.conds) place ∙ l.conds;
}

pub laid_parked : (m : States) (q : Queue) (b b' : Buckets)
    → b' ≡ record b { parked = record b.parked { places = b'.parked.places; differing = b'.parked.differing } }
    → IsLaidOut m q b → IsLaidOut m q b'
laid_parked m q b b' place l = record {
  waiters = l.waiters;
  levels = l.levels;
  buckets = ap (λ (x : Buckets). x.entries.first_list) place ∙ l.buckets;
  variables = ap (λ (x : Buckets). x.parked.first_list) place ∙ l.variables;
  wait_nodes = l.wait_nodes;
  ready_nodes = l.ready_nodes;
  row_nodes = ap (λ (x : Buckets). x.entries.first_node) place ∙ l.row_nodes;
  parked_nodes = ap (λ (x : Buckets). x.parked.first_node) place ∙ l.parked_nodes;
  ready = l.ready;
  rows = ap (λ (x : Buckets). length x.entries.items) place ∙ l.rows;
  parked = ap (λ (x : Buckets). x.parked.threads) place ∙ l.parked;
  conds = ap (λ (x : Buckets). x.parked.conds) place ∙ l.conds;
}
