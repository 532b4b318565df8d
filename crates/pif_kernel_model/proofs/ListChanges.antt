-- What a call on one list of the table leaves as it was.
use Rattle.std.proofs.Common.{◌≡◌, ◌≢◌, ℕ, ◌+◌, ◌-◌, ◌*◌, ◌<◌, ◌≤◌, true, eqb, cond, List, length, Some, None, refl, sym, ◌∙◌, ap, subst, inl, inr, arith}
use Rattle.std.proofs.lemmas.Bool.{ne_eqb, eq-eqb}
use Rattle.std.proofs.lemmas.List.{get_or-set_same, get_or-set_other, length-set}
use Rattle.pif_nodes_model.specs.declared.keys.Key.{Key}
use Rattle.pif_nodes_model.specs.Lists.{has, list_without}
use Rattle.pif_nodes_model.specs.Table.{NodeLists, no_key, list_at, key_at, holder, with_list, with_key, IsApart}
use Rattle.pif_nodes_model.specs.Order.{IsSorted, list_after_insert, table_after_insert, table_after_remove, OthersStaySorted}
use Rattle.pif_nodes_model.proofs.InsertLemmas.{list_at-other}
use Rattle.pif_kernel_model.specs.States.{States, IsThread, IsOwnList, IsOwnNode, top_node, top_list}
use Rattle.pif_kernel_model.specs.Holds.{HoldsWaiters}
use Rattle.pif_kernel_model.specs.Frames.{IsBeyond, SameOutsideStates, ChangesList, ChangesTops}

module _ (was now : NodeLists) (l n : ℕ) (before : IsApart was) (apart : IsApart now) (own : IsSorted now l)
    (sorted : OthersStaySorted was now l) where
  -- a node got a key, and a list another content
  pub changes-put : (k : Key) (xs : List ℕ) → now ≡ with_list (with_key was n k) l xs
      → ((p : ℕ) → p ≢ n → holder now p ≡ holder was p) → ChangesList l n was now
  changes-put k xs e holders =
      record {
        lists = λ j ne. ap (λ (x : NodeLists). list_at x j) e ∙ list_at-other (with_key was n k) l j xs ne;
        keys = λ p ne. ap (λ (x : NodeLists). key_at x p) e ∙ get_or-set_other was.keys n p k no_key ne;
        holders = holders;
        own = own;
        sorted = sorted;
        before = before;
        apart = apart;
        list_count = ap (λ (x : NodeLists). length x.lists) e ∙ length-set was.lists l xs;
        node_count = ap (λ (x : NodeLists). length x.keys) e ∙ length-set was.keys n k;
      }

  pub changes-inserted : (k : Key) → now ≡ table_after_insert was l n k
      → ((p : ℕ) → holder now p ≡ cond (eqb p n) (Some l) (holder was p)) → ChangesList l n was now
  changes-inserted k e holders =
      changes-put k (list_after_insert (with_key was n k).keys n (list_at was l)) e
      (λ p ne. holders p ∙ ap (λ b. cond b (Some l) (holder was p)) (ne_eqb p n ne))

  pub changes-removed : now ≡ table_after_remove was l n
      → ((p : ℕ) → holder now p ≡ cond (eqb p n) None (holder was p)) → ChangesList l n was now
  changes-removed e holders =
      record {
        lists = λ j ne. ap (λ (x : NodeLists). list_at x j) e ∙ list_at-other was l j (list_without n (list_at was l)) ne;
        keys = λ p ne. ap (λ (x : NodeLists). key_at x p) e;
        holders = λ p ne. holders p ∙ ap (λ b. cond b None (holder was p)) (ne_eqb p n ne);
        own = own;
        sorted = sorted;
        before = before;
        apart = apart;
        list_count = ap (λ (x : NodeLists). length x.lists) e ∙ length-set was.lists l (list_without n (list_at was l));
        node_count = ap (λ (x : NodeLists). length x.keys) e;
      }

  pub changes-rekeyed : (k : Key) → now ≡ table_after_insert (table_after_remove was l n) l n k
      → ((p : ℕ) → holder now p ≡ holder was p) → ChangesList l n was now
  changes-rekeyed k e holders =
      let out : NodeLists = table_after_remove was l n in
      let xs : List ℕ = list_after_insert (with_key out n k).keys n (list_at out l) in
      record {
        lists = λ j ne. ap (λ (x : NodeLists). list_at x j) e ∙ list_at-other (with_key out n k) l j xs ne
            ∙ list_at-other was l j (list_without n (list_at was l)) ne;
        keys = λ p ne. ap (λ (x : NodeLists). key_at x p) e ∙ get_or-set_other was.keys n p k no_key ne;
        holders = λ p ne. holders p;
        own = own;
        sorted = sorted;
        before = before;
        apart = apart;
        list_count = ap (λ (x : NodeLists). length x.lists) e ∙ length-set out.lists l xs
            ∙ length-set was.lists l (list_without n (list_at was l));
        node_count = ap (λ (x : NodeLists). length x.keys) e ∙ length-set was.keys n k;
      }

  pub changes-renamed : (k : Key) → now ≡ with_key was n k → ChangesList l n was now
  changes-renamed k e =
      record {
        lists = λ j ne. ap (λ (x : NodeLists). list_at x j) e;
        keys = λ p ne. ap (λ (x : NodeLists). key_at x p) e ∙ get_or-set_other was.keys n p k no_key ne;
        holders = λ p ne. ap (λ (x : NodeLists). holder x p) e;
        own = own;
        sorted = sorted;
        before = before;
        apart = apart;
        list_count = ap (λ (x : NodeLists). length x.lists) e;
        node_count = ap (λ (x : NodeLists). length x.keys) e ∙ length-set was.keys n k;
      }

-- a node that was put in is there, and one that was taken out is nowhere
pub in-list : (was now : NodeLists) (l n : ℕ) → ((p : ℕ) → holder now p ≡ cond (eqb p n) (Some l) (holder was p))
    → holder now n ≡ Some l
in-list was now l n holders = holders n ∙ ap (λ b. cond b (Some l) (holder was n)) (eq-eqb n n refl)

pub in-no_list : (was now : NodeLists) (n : ℕ) → ((p : ℕ) → holder now p ≡ cond (eqb p n) None (holder was p))
    → holder now n ≡ None
in-no_list was now n holders = holders n ∙ ap (λ b. cond b None (holder was n)) (eq-eqb n n refl)

-- and its key is the one that it got
pub key-inserted : (was now : NodeLists) (l n : ℕ) (k : Key) → n < length was.keys → now ≡ table_after_insert was l n k
    → key_at now n ≡ k
key-inserted was now l n k within e = ap (λ (x : NodeLists). key_at x n) e ∙ get_or-set_same was.keys n k no_key within

pub key-rekeyed : (was now : NodeLists) (l n : ℕ) (k : Key) → n < length was.keys
    → now ≡ table_after_insert (table_after_remove was l n) l n k
    → key_at now n ≡ k
key-rekeyed was now l n k within e = ap (λ (x : NodeLists). key_at x n) e ∙ get_or-set_same was.keys n k no_key within

pub key-renamed : (was now : NodeLists) (n : ℕ) (k : Key) → n < length was.keys → now ≡ with_key was n k → key_at now n ≡ k
key-renamed was now n k within e = ap (λ (x : NodeLists). key_at x n) e ∙ get_or-set_same was.keys n k no_key within

-- the same change of a list and a node that are known by other names
pub changes-as : (was now : NodeLists) (l n j p : ℕ) → l ≡ j → n ≡ p → ChangesList l n was now → ChangesList j p was now
changes-as was now l n j p list node c = subst (λ (x : ℕ × ℕ). ChangesList x.0 x.1 was now) (λ i. (list i, node i)) c

-- another node than the touched one that a list has now, it had
pub had-other : (was now : NodeLists) (l n j p : ℕ) → ChangesList l n was now → p ≢ n → has p (list_at now j) ≡ true
    → has p (list_at was j) ≡ true
had-other was now l n j p c ne h = c.before.listed j p (sym (c.holders p ne) ∙ c.apart.alone j p h)

-- a change of one list and one node of the owner states leaves all else
pub outside-changed : (m : States) (was now : NodeLists) (l n : ℕ) → IsOwnList m l → IsOwnNode m n
    → ((j : ℕ) → holder was n ≡ Some j → IsOwnList m j) → ChangesList l n was now → SameOutsideStates m was now
outside-changed m was now l n own node from c =
    record {
      lists = λ j b. c.lists j (λ e. beyond j b (subst (IsOwnList m) (sym e) own));
      keys = λ j p b h. c.keys p (λ e. beyond j b (from j (ap (holder was) (sym e) ∙ c.before.alone j p h)));
      holders = λ p b. c.holders p (λ e. beyond_node p b (subst (IsOwnNode m) (sym e) node));
      list_count = c.list_count;
      node_count = c.node_count;
    }
  where
    beyond : (j : ℕ) → IsBeyond m.first_list (2 * m.threads) j → IsOwnList m j → ⊥
    beyond j (inl a) i = absurd (omega (arith, i))
    beyond j (inr a) i = absurd (omega (arith, i))

    beyond_node : (p : ℕ) → IsBeyond m.first_node (2 * m.threads) p → IsOwnNode m p → ⊥
    beyond_node p (inl a) i = absurd (omega (arith, i))
    beyond_node p (inr a) i = absurd (omega (arith, i))

-- one change after another
pub outside-then : (m : States) (was mid now : NodeLists) → SameOutsideStates m was mid → SameOutsideStates m mid now
    → SameOutsideStates m was now
outside-then m was mid now a b =
    record {
      lists = λ j o. b.lists j o ∙ a.lists j o;
      keys = λ j p o h. b.keys j p o (ap (has p) (a.lists j o) ∙ h) ∙ a.keys j p o h;
      holders = λ p o. b.holders p o ∙ a.holders p o;
      list_count = b.list_count ∙ a.list_count;
      node_count = b.node_count ∙ a.node_count;
    }

-- a change of a list of top waiters
pub tops-changed : (m : States) (was now : NodeLists) (o u : ℕ) → HoldsWaiters m was → IsThread m o → IsThread m u
    → ((j : ℕ) → holder was (top_node m u) ≡ Some j → IsOwnList m j)
    → ChangesList (top_list m o) (top_node m u) was now → ChangesTops m was now
tops-changed m was now o u h i j from c =
    record {
      waiters =
          record {
            lists = λ l low high. c.lists l (λ e. absurd (omega (arith, i)));
            keys = λ l n low high e. c.keys n (λ same. not_waiter l n low high e same);
            list_count = c.list_count;
            node_count = c.node_count;
          };
      outside =
          outside-changed m was now (top_list m o) (top_node m u) (omega (arith, i), omega (arith, i))
          (omega (arith, j), omega (arith, j)) from c;
      holders = λ n low. c.holders n (λ e. absurd (omega arith));
      apart = c.apart;
    }
  where
    not_waiter : (l n : ℕ) → m.first_list ≤ l → l < m.first_list + m.threads → has n (list_at was l) ≡ true
        → n ≡ top_node m u → ⊥
    not_waiter l n low high e same =
        let row : m.first_list + (l - m.first_list) ≡ l = omega arith in
        let is = h.waiters (l - m.first_list) n (omega arith) (ap (λ q. has n (list_at was q)) row ∙ e) in
        absurd (omega (arith, is.is_thread, is.node, same))
