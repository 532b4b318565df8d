-- What the calls on the list of a variable answer, as a change of the parked threads.
use Rattle.std.proofs.Common.{◌≡◌, ◌≢◌, ◌⊎◌, ℕ, ◌<◌, true, false, not, eqb, cond, List, [], ◌∷◌, length, set, Option, Some, None, refl, sym, ◌∙◌, ap, subst, inl, inr, arith}
use Rattle.std.proofs.lemmas.Bool.{cases_Bool, cases_eq, eq-eqb, ne_eqb, or_parts, false_from_ne_true, true≢false}
use Rattle.std.proofs.lemmas.List.{get_or-set_same, get_or-set_other, set-get_or, length-set}
use Rattle.std.proofs.lemmas.Option.{same_Some}
use Rattle.pif_nodes_model.specs.declared.keys.Key.{Key}
use Rattle.pif_nodes_model.specs.Lists.{has, list_without}
use Rattle.pif_nodes_model.specs.Table.{NodeLists, no_key, list_at, key_at, holder, with_key, IsApart}
use Rattle.pif_nodes_model.proofs.ListLemmas.{without_absent, has-list_without}
use Rattle.pif_nodes_model.specs.Order.{comes_before, key_in, IsSorted, OthersStaySorted, list_after_insert, table_after_insert, table_after_remove, key_with_prio, key_with_ticket}
use Rattle.pif_nodes_model.proofs.OrderLemmas.{not_before-self, has-from_without}
use Rattle.pif_nodes_model.proofs.InsertLemmas.{list_at-same}
use Rattle.pif_kernel_model.specs.Frames.{ChangesList}
use Rattle.pif_kernel_model.proofs.ListChanges.{changes-inserted, changes-removed, changes-rekeyed, changes-renamed, in-list, in-no_list, key-inserted, key-rekeyed, key-renamed}
use Rattle.pif_nodes_model.proofs.SameOrder.{order-as}
use Rattle.pif_kernel_model.specs.QueueFrames.{KeepsOthers}
use Rattle.pif_kernel_model.specs.Differences.{differences}
use Rattle.pif_kernel_model.specs.Parked.{Place, ParkedLists, place_at, differing_at, IsThread, IsCond, KeepsNodes, variable_list, parking_node, thread_of_node, target_of, parked_with, parked_at, with_place_at, with_differing, parked_with_prio, parked_with_ticket, IsParkedNode, StandsIn, StandParked, IsCounted, HoldsParked, IsParkedOn, KeepsParkedOrder}
use Rattle.pif_queue.proofs.Differing.{differences-same}
use Rattle.pif_queue.proofs.ParkedLemmas.{parked-by_place, node-parked}
use Rattle.pif_queue.proofs.ParkedChanges.{IsParking, parking-stands, parking-seen, parking-outside, parking-nodes, target-other, counted-other, recounted}

-- a call on the list of variable c and the node of thread u
pub record IsCall (p : ParkedLists) (t now : NodeLists) (c u : ℕ) : Type 0 where
  pub holds : HoldsParked p t
  pub thread : IsThread p u
  pub cond : IsCond p c
  pub own : IsSorted now (variable_list p c)
  pub others : OthersStaySorted t now (variable_list p c)
  pub apart : IsApart now

-- what is put into a list and taken out again leaves the list
list_without-inserted : (keys : List Key) (n : ℕ) (xs : List ℕ) → has n xs ≡ false
    → list_without n (list_after_insert keys n xs) ≡ xs
list_without-inserted keys n [] none = ap (λ b. cond (not b) (n ∷ []) []) (eq-eqb n n refl)
list_without-inserted keys n (x ∷ xs) none =
    by_test (list_without-inserted keys n xs parts.1) (cases_Bool (comes_before (key_in keys n) (key_in keys x)))
  where
    parts : (eqb n x ≡ false) × (has n xs ≡ false)
    parts = or_parts (eqb n x) (has n xs) none

    here : list_without n (n ∷ x ∷ xs) ≡ x ∷ xs
    here = ap (λ b. cond (not b) (n ∷ list_without n (x ∷ xs)) (list_without n (x ∷ xs))) (eq-eqb n n refl)
        ∙ without_absent n (x ∷ xs) none

    later : list_without n (list_after_insert keys n xs) ≡ xs → list_without n (x ∷ list_after_insert keys n xs) ≡ x ∷ xs
    later rest =
        ap (λ b. cond (not b) (x ∷ list_without n (list_after_insert keys n xs)) (list_without n (list_after_insert keys n xs))) parts.0
        ∙ ap (λ zs. x ∷ zs) rest

    by_test : list_without n (list_after_insert keys n xs) ≡ xs
        → ((comes_before (key_in keys n) (key_in keys x) ≡ true) ⊎ (comes_before (key_in keys n) (key_in keys x) ≡ false))
        → list_without n (list_after_insert keys n (x ∷ xs)) ≡ x ∷ xs
    by_test rest (inl first) =
        ap (λ b. list_without n (cond b (n ∷ x ∷ xs) (x ∷ list_after_insert keys n xs))) first ∙ here
    by_test rest (inr behind) =
        ap (λ b. list_without n (cond b (n ∷ x ∷ xs) (x ∷ list_after_insert keys n xs))) behind ∙ later rest

-- a list doesn't have a node that is in another list, or in none
absent : (t : NodeLists) (n l : ℕ) → IsApart t → holder t n ≡ None → has n (list_at t l) ≡ false
absent t n l apart free = false_from_ne_true (has n (list_at t l)) (λ there. none there)
  where
    none : has n (list_at t l) ≡ true → ⊥
    none there = let wrong : Some l ≡ None = sym (apart.alone l n there) ∙ free in absurd cc

module _ (p : ParkedLists) (t now : NodeLists) (c u : ℕ) (a : IsCall p t now c u) where
  abbrev l : ℕ
  l = variable_list p c

  abbrev n : ℕ
  n = parking_node p u

  list-in : l < length t.lists
  list-in = omega (arith, a.cond, a.holds.stand.lists)

  node-in : n < length t.keys
  node-in = omega (arith, a.thread, a.holds.stand.nodes)

  -- a thread whose node was in no list is parked
  module _ (x : Place) (rank : Key) (on : x.cond ≡ c) (free : holder t n ≡ None) (put : now ≡ table_after_insert t l n rank)
      (holders : (m : ℕ) → holder now m ≡ cond (eqb m n) (Some l) (holder t m)) where
    pub parks : IsParking p (Some x) t now c u
    parks =
        record {
          thread = a.thread;
          cond = a.cond;
          changes = changes-inserted t now l n a.holds.stand.apart a.apart a.own a.others rank put holders;
          before = λ y e.
              let at : StandsIn p t u y = a.holds.stand.parked u y e in
              let wrong : None ≡ Some (variable_list p y.cond) = sym free ∙ at.held in absurd cc;
          from = λ j e. let wrong : None ≡ Some j = sym free ∙ e in absurd cc;
          parks = λ y e. (ap (λ (z : Place). z.cond) (sym (same_Some x y e)) ∙ on, in-list t now l n holders);
          stands = λ e. (x, refl);
        }

    pub park-stands : StandParked (with_place_at u (Some x) p) now
    park-stands = parking-stands p (Some x) t now c u a.holds.stand parks

    pub park-counted : differing_at p c ≡ differences (target_of (with_place_at u (Some x) p)) (list_without n (list_at now l))
    park-counted =
        let none : has n (list_at t l) ≡ false = absent t n l a.holds.stand.apart free in
        a.holds.counted c a.cond
        ∙ differences-same (target_of p) (target_of (with_place_at u (Some x) p)) (list_at t l)
        (λ m there. target-other p (Some x) t now c u a.holds.stand parks c m a.cond there
        (λ same. true≢false (sym there ∙ ap (λ k. has k (list_at t l)) same ∙ none)))
        ∙ ap (differences (target_of (with_place_at u (Some x) p)))
        (sym
        (ap (λ (z : NodeLists). list_without n (list_at z l)) put
        ∙ ap (list_without n) (list_at-same (with_key t n rank) l (list_after_insert (with_key t n rank).keys n (list_at t l)) list-in)
        ∙ list_without-inserted (with_key t n rank).keys n (list_at t l) none))

    pub park-seen : (v : ℕ) → parked_at (with_place_at u (Some x) p) now v
        ≡ cond (eqb v u) (Some (parked_with rank x)) (parked_at p t v)
    park-seen = parking-seen p (Some x) t now c u a.holds.stand parks rank (key-inserted t now l n rank node-in put)

    pub park-holds : (count : ℕ)
        → count ≡ differences (target_of (with_place_at u (Some x) p)) (list_at now l)
        → HoldsParked (with_differing c count (with_place_at u (Some x) p)) now
    park-holds count e =
        recounted (with_place_at u (Some x) p) now c count park-stands a.cond e
        (λ d is ne. counted-other p (Some x) t now c u a.holds.stand parks d is ne (a.holds.counted d is))

  -- a parked thread is taken off
  module _ (x : Place) (at : place_at p u ≡ Some x) (on : x.cond ≡ c) (taken : now ≡ table_after_remove t l n)
      (holders : (m : ℕ) → holder now m ≡ cond (eqb m n) None (holder t m)) where
    gone : holder now n ≡ None
    gone = in-no_list t now n holders

    pub unparks : IsParking p None t now c u
    unparks =
        record {
          thread = a.thread;
          cond = a.cond;
          changes = changes-removed t now l n a.holds.stand.apart a.apart a.own a.others taken holders;
          before = λ y e. ap (λ (z : Place). z.cond) (sym (same_Some x y (sym at ∙ e))) ∙ on;
          from = λ j e.
              let stands : StandsIn p t u x = a.holds.stand.parked u x at in
              same_Some j l (sym e ∙ stands.held ∙ ap (λ d. Some (variable_list p d)) on);
          parks = λ y e. let wrong : None ≡ Some y = e in absurd cc;
          stands = λ e. let wrong : None ≡ Some l = sym gone ∙ e in absurd cc;
        }

    pub unpark-holds : HoldsParked
        (with_differing c (differences (target_of p) (list_without n (list_at t l))) (with_place_at u None p)) now
    unpark-holds =
        recounted (with_place_at u None p) now c (differences (target_of p) (list_without n (list_at t l)))
        (parking-stands p None t now c u a.holds.stand unparks) a.cond
        (differences-same (target_of p) (target_of (with_place_at u None p)) (list_without n (list_at t l))
        (λ m there. target-other p None t now c u a.holds.stand unparks c m a.cond (has-from_without n m (list_at t l) there)
        (λ same. true≢false (sym there ∙ ap (λ k. has k (list_without n (list_at t l))) same ∙ has-list_without n (list_at t l))))
        ∙ ap (differences (target_of (with_place_at u None p)))
        (sym (ap (λ (z : NodeLists). list_at z l) taken ∙ list_at-same t l (list_without n (list_at t l)) list-in)))
        (λ d is ne. counted-other p None t now c u a.holds.stand unparks d is ne (a.holds.counted d is))

    pub unpark-outside : KeepsOthers p.first_list p.conds p.first_node p.threads t now
    unpark-outside = parking-outside p None t now c u a.holds.stand unparks

  -- a parked thread stands in its list by another key
  module _ (x : Place) (at : place_at p u ≡ Some x) (on : x.cond ≡ c) (changes : ChangesList l n t now)
      (held : holder now n ≡ holder t n) where
    stays : StandsIn p t u x
    stays = a.holds.stand.parked u x at

    here : holder t n ≡ Some l
    here = stays.held ∙ ap (λ d. Some (variable_list p d)) on

    pub same-place : with_place_at u (Some x) p ≡ p
    same-place =
        ap (λ (xs : List (Option Place)). record p { places = xs })
        (ap (set p.places u) (sym at) ∙ set-get_or p.places u None)

    pub reparks : IsParking p (Some x) t now c u
    reparks =
        record {
          thread = a.thread;
          cond = a.cond;
          changes = changes;
          before = λ y e. ap (λ (z : Place). z.cond) (sym (same_Some x y (sym at ∙ e))) ∙ on;
          from = λ j e. same_Some j l (sym e ∙ here);
          parks = λ y e. (ap (λ (z : Place). z.cond) (sym (same_Some x y e)) ∙ on, held ∙ here);
          stands = λ e. (x, refl);
        }

    pub repark-stands : StandParked p now
    repark-stands =
        subst (λ (q : ParkedLists). StandParked q now) same-place (parking-stands p (Some x) t now c u a.holds.stand reparks)

    pub repark-seen : (k : Key) → key_at now n ≡ k → (v : ℕ)
        → parked_at p now v ≡ cond (eqb v u) (Some (parked_with k x)) (parked_at p t v)
    repark-seen k key v =
        ap (λ (q : ParkedLists). parked_at q now v) (sym same-place)
        ∙ parking-seen p (Some x) t now c u a.holds.stand reparks k key v

    pub repark-others : (d : ℕ) → IsCond p d → d ≢ c → IsCounted p now d
    repark-others d is ne =
        subst (λ (q : ParkedLists). IsCounted q now d) same-place
        (counted-other p (Some x) t now c u a.holds.stand reparks d is ne (a.holds.counted d is))

    pub repark-outside : KeepsOthers p.first_list p.conds p.first_node p.threads t now
    repark-outside = parking-outside p (Some x) t now c u a.holds.stand reparks

    pub repark-nodes : KeepsNodes p u t now
    repark-nodes = parking-nodes p (Some x) t now c u a.holds.stand reparks

  -- by a key with another priority
  module _ (x : Place) (at : place_at p u ≡ Some x) (on : x.cond ≡ c) (prio : ℕ)
      (moved : now ≡ table_after_insert (table_after_remove t l n) l n (key_with_prio t n prio))
      (holders : (m : ℕ) → holder now m ≡ holder t m) where
    pub rekeys : ChangesList l n t now
    rekeys = changes-rekeyed t now l n a.holds.stand.apart a.apart a.own a.others (key_with_prio t n prio) moved holders

    pub rekey-list_without : list_without n (list_at now l) ≡ list_without n (list_at t l)
    rekey-list_without =
        let out : NodeLists = table_after_remove t l n in
        let rank : Key = key_with_prio t n prio in
        let left : list_at out l ≡ list_without n (list_at t l) = list_at-same t l (list_without n (list_at t l)) list-in in
        let none : has n (list_at out l) ≡ false = ap (has n) left ∙ has-list_without n (list_at t l) in
        ap (λ (z : NodeLists). list_without n (list_at z l)) moved
        ∙ ap (list_without n)
        (list_at-same (with_key out n rank) l (list_after_insert (with_key out n rank).keys n (list_at out l))
        (omega (arith, list-in, out-lists)))
        ∙ list_without-inserted (with_key out n rank).keys n (list_at out l) none ∙ left
      where
        out-lists : length (table_after_remove t l n).lists ≡ length t.lists
        out-lists = length-set t.lists l (list_without n (list_at t l))

    pub rekey-seen : (v : ℕ) → parked_at p now v ≡ cond (eqb v u) (parked_with_prio prio (parked_at p t v)) (parked_at p t v)
    rekey-seen v =
        repark-seen x at on rekeys (holders n) (key_with_prio t n prio)
        (key-rekeyed t now l n (key_with_prio t n prio) node-in moved) v
        ∙ by_thread (cases_eq v u)
      where
        by_thread : ((v ≡ u) ⊎ (v ≡ u → ⊥))
            → cond (eqb v u) (Some (parked_with (key_with_prio t n prio) x)) (parked_at p t v)
            ≡ cond (eqb v u) (parked_with_prio prio (parked_at p t v)) (parked_at p t v)
        by_thread (inl same) =
            ap (λ o. cond (eqb v u) o (parked_at p t v))
            (sym (ap (parked_with_prio prio) (ap (parked_at p t) same ∙ parked-by_place p t u x at)))
        by_thread (inr ne) =
            ap (λ b. cond b (Some (parked_with (key_with_prio t n prio) x)) (parked_at p t v)) (ne_eqb v u ne)
            ∙ ap (λ b. cond b (parked_with_prio prio (parked_at p t v)) (parked_at p t v)) (sym (ne_eqb v u ne))

  -- by a key with another ticket
  module _ (x : Place) (at : place_at p u ≡ Some x) (on : x.cond ≡ c) (ticket : ℕ)
      (renamed : now ≡ with_key t n (key_with_ticket t n ticket)) where
    pub tickets : ChangesList l n t now
    tickets = changes-renamed t now l n a.holds.stand.apart a.apart a.own a.others (key_with_ticket t n ticket) renamed

    same-holder : (m : ℕ) → holder now m ≡ holder t m
    same-holder m = ap (λ (z : NodeLists). holder z m) renamed

    pub ticket-seen : (v : ℕ)
        → parked_at p now v ≡ cond (eqb v u) (parked_with_ticket ticket (parked_at p t v)) (parked_at p t v)
    ticket-seen v =
        repark-seen x at on tickets (same-holder n) (key_with_ticket t n ticket)
        (key-renamed t now n (key_with_ticket t n ticket) node-in renamed) v
        ∙ by_thread (cases_eq v u)
      where
        by_thread : ((v ≡ u) ⊎ (v ≡ u → ⊥))
            → cond (eqb v u) (Some (parked_with (key_with_ticket t n ticket) x)) (parked_at p t v)
            ≡ cond (eqb v u) (parked_with_ticket ticket (parked_at p t v)) (parked_at p t v)
        by_thread (inl same) =
            ap (λ o. cond (eqb v u) o (parked_at p t v))
            (sym (ap (parked_with_ticket ticket) (ap (parked_at p t) same ∙ parked-by_place p t u x at)))
        by_thread (inr ne) =
            ap (λ b. cond b (Some (parked_with (key_with_ticket t n ticket) x)) (parked_at p t v)) (ne_eqb v u ne)
            ∙ ap (λ b. cond b (parked_with_ticket ticket (parked_at p t v)) (parked_at p t v)) (sym (ne_eqb v u ne))

    pub ticket-holds : HoldsParked p now
    ticket-holds =
        record {
          stand = repark-stands x at on tickets (same-holder n);
          counted = λ d is. a.holds.counted d is
              ∙ ap (λ (z : NodeLists). differences (target_of p) (list_at z (variable_list p d))) (sym renamed);
        }

-- the list of a variable stays in order with a ticket that keeps the order
module _ (p : ParkedLists) (t : NodeLists) (c u ticket : ℕ) (x : Place) (h : StandParked p t) (at : place_at p u ≡ Some x)
    (on : x.cond ≡ c) (keeps : KeepsParkedOrder p t u ticket) where
  abbrev keys : List Key
  keys = set t.keys (parking_node p u) (key_with_ticket t (parking_node p u) ticket)

  is-cond : IsCond p c
  is-cond = subst (IsCond p) on (h.parked u x at).is_cond

  mine : key_in keys (parking_node p u) ≡ key_with_ticket t (parking_node p u) ticket
  mine =
      get_or-set_same t.keys (parking_node p u) (key_with_ticket t (parking_node p u) ticket) no_key
      (omega (arith, (h.parked u x at).is_thread, h.nodes))

  other : (z : ℕ) → z ≢ parking_node p u → key_in keys z ≡ key_in t.keys z
  other z ne = get_or-set_other t.keys (parking_node p u) z (key_with_ticket t (parking_node p u) ticket) no_key ne

  self : IsParkedOn p t c u (key_at t (parking_node p u))
  self =
      record {
        parked = parked_with (key_at t (parking_node p u)) x;
        at = parked-by_place p t u x at;
        cond = on;
        ranked = refl;
      }

  -- another node of the list is that of another thread
  apart : (z : ℕ) → IsParkedNode p c z → z ≢ parking_node p u → thread_of_node p z ≢ u
  apart z is ne e = ne (omega (arith, is.node, is.is_thread, (h.parked u x at).is_thread, e))

  by_node : (y z : ℕ) → has y (list_at t (variable_list p c)) ≡ true → has z (list_at t (variable_list p c)) ≡ true
      → ((y ≡ parking_node p u) ⊎ (y ≡ parking_node p u → ⊥)) → ((z ≡ parking_node p u) ⊎ (z ≡ parking_node p u → ⊥))
      → comes_before (key_in keys y) (key_in keys z) ≡ comes_before (key_in t.keys y) (key_in t.keys z)
  by_node y z in-y in-z (inl e) (inl f) =
      let same : y ≡ z = e ∙ sym f in
      ap (λ w. comes_before (key_in keys y) (key_in keys w)) (sym same) ∙ not_before-self (key_in keys y)
      ∙ sym (ap (λ w. comes_before (key_in t.keys y) (key_in t.keys w)) (sym same) ∙ not_before-self (key_in t.keys y))
  by_node y z in-y in-z (inl e) (inr f) =
      (λ i. comes_before ((ap (key_in keys) e ∙ mine) i) (other z f i))
      ∙ keeps.before (thread_of_node p z) c (key_at t (parking_node p u)) (key_in t.keys z)
      (apart z (h.others c z is-cond in-z) f) self (node-parked p t h c z is-cond in-z)
      ∙ ap (λ w. comes_before (key_in t.keys w) (key_in t.keys z)) (sym e)
  by_node y z in-y in-z (inr e) (inl f) =
      (λ i. comes_before (other y e i) ((ap (key_in keys) f ∙ mine) i))
      ∙ keeps.behind (thread_of_node p y) c (key_at t (parking_node p u)) (key_in t.keys y)
      (apart y (h.others c y is-cond in-y) e) self (node-parked p t h c y is-cond in-y)
      ∙ ap (λ w. comes_before (key_in t.keys y) (key_in t.keys w)) (sym f)
  by_node y z in-y in-z (inr e) (inr f) = λ i. comes_before (other y e i) (other z f i)

  pub ticket-sorted : IsSorted (with_key t (parking_node p u) (key_with_ticket t (parking_node p u) ticket)) (variable_list p c)
  ticket-sorted =
      order-as t.keys keys (list_at t (variable_list p c))
      (λ y z a b. by_node y z a b (cases_eq y (parking_node p u)) (cases_eq z (parking_node p u))) (h.sorted c is-cond)

-- what a call of `rekey` on the list of variable c and the node of thread u answers
pub record IsRekeyed (p : ParkedLists) (t now : NodeLists) (c u prio : ℕ) : Type 0 where
  pub is_cond : IsCond p c
  pub stands : StandParked p now
  pub left : list_without (parking_node p u) (list_at now (variable_list p c)) ≡ list_without (parking_node p u) (list_at t (variable_list p c))
  pub seen : (v : ℕ) → parked_at p now v
      ≡ cond (eqb v u) (parked_with_prio prio (parked_at p t v)) (parked_at p t v)
  pub counted : (d : ℕ) → IsCond p d → d ≢ c → IsCounted p now d
  pub outside : KeepsOthers p.first_list p.conds p.first_node p.threads t now
  pub nodes : KeepsNodes p u t now

pub rekeyed : (p : ParkedLists) (t now : NodeLists) (c u l n prio : ℕ) (x : Place) → HoldsParked p t
    → place_at p u ≡ Some x → x.cond ≡ c
    → l ≡ variable_list p c → n ≡ parking_node p u → IsSorted now l → OthersStaySorted t now l → IsApart now
    → now ≡ table_after_insert (table_after_remove t l n) l n (key_with_prio t n prio)
    → ((m : ℕ) → holder now m ≡ holder t m) → IsRekeyed p t now c u prio
rekeyed p t now c u l n prio x h at on list node own others apart moved holders =
    let stands : StandsIn p t u x = h.stand.parked u x at in
    let call : IsCall p t now c u = record {
      holds = h;
      thread = stands.is_thread;
      cond = subst (IsCond p) on stands.is_cond;
      own = subst (IsSorted now) list own;
      others = subst (OthersStaySorted t now) list others;
      apart = apart;
    } in
    let put : now
    ≡ table_after_insert (table_after_remove t (variable_list p c) (parking_node p u)) (variable_list p c) (parking_node p u)
    (key_with_prio t (parking_node p u) prio) =
    moved
    ∙ (λ i. table_after_insert (table_after_remove t (list i) (node i)) (list i) (node i) (key_with_prio t (node i) prio)) in
    let changes : ChangesList (variable_list p c) (parking_node p u) t now =
    rekeys p t now c u call x at on prio put holders in
    record {
      is_cond = call.cond;
      stands = repark-stands p t now c u call x at on changes (holders (parking_node p u));
      left = rekey-list_without p t now c u call x at on prio put holders;
      seen = rekey-seen p t now c u call x at on prio put holders;
      counted = repark-others p t now c u call x at on changes (holders (parking_node p u));
      outside = repark-outside p t now c u call x at on changes (holders (parking_node p u));
      nodes = repark-nodes p t now c u call x at on changes (holders (parking_node p u));
    }
