-- A thread is taken out from among the top waiters of another, or put there.
use Rattle.std.proofs.Common.{◌≡◌, ◌≢◌, ◌⊎◌, ℕ, true, Option, Some, None, refl, sym, ◌∙◌, ap, subst, inl, inr, arith}
use Rattle.std.proofs.lemmas.Bool.{cases_eq}
use Rattle.std.proofs.lemmas.Option.{same_Some}
use Rattle.std.specs.FinMap.{get}
use Rattle.pif_nodes_model.specs.declared.keys.Key.{Key}
use Rattle.pif_nodes_model.specs.Lists.{has}
use Rattle.pif_nodes_model.specs.Table.{NodeLists, list_at, holder}
use Rattle.pif_nodes_model.specs.Order.{IsSorted}
use Rattle.pif_kernel_model.specs.States.{States, IsThread, wait_of, wait_node, top_node, top_list, first_waiter}
use Rattle.pif_kernel_model.specs.Holds.{HoldsWaiters, IsTopNode, IsTopped, IsFirstOf, IsTopOf, IsRankedTop, IsTopBut, HoldsTops, IsToppedBut}
use Rattle.pif_kernel_model.specs.Frames.{ChangesList, ChangesTops}
use Rattle.pif_kernel_model.proofs.WaiterLemmas.{StandsFirst, stands-first, some_owner}
use Rattle.pif_kernel_model.proofs.FrameLemmas.{cases_Some, first_waiter-framed, topped-as}
use Rattle.pif_kernel_model.proofs.ListChanges.{had-other}

-- a list of top waiters and the node of one of them changed
module _ (m : States) (t now : NodeLists) (o u : ℕ) (i : IsThread m o) (j : IsThread m u)
    (c : ChangesList (top_list m o) (top_node m u) t now) where
  -- another thread has another node
  pub other_top : (w : ℕ) → IsThread m w → w ≢ u → top_node m w ≢ top_node m u
  other_top w k ne e = ne (omega (arith, k, j, e))

  top_nodes : (R : ℕ → ℕ → Type 0) → IsTopped m t R → (p n : ℕ) → IsThread m p
      → has n (list_at now (top_list m p)) ≡ true → IsTopNode m n
  top_nodes R h p n k e = by_node (cases_eq n (top_node m u))
    where
      by_node : ((n ≡ top_node m u) ⊎ (n ≡ top_node m u → ⊥)) → IsTopNode m n
      by_node (inl same) = record { thread = u; is_thread = j; node = same }
      by_node (inr ne) = h.nodes p n k (had-other t now (top_list m o) (top_node m u) (top_list m p) n c ne e)

  top_sorted : (R : ℕ → ℕ → Type 0) → IsTopped m t R → (p : ℕ) → IsThread m p → IsSorted now (top_list m p)
  top_sorted R h p k = by_list (cases_eq (top_list m p) (top_list m o))
    where
      by_list : ((top_list m p ≡ top_list m o) ⊎ (top_list m p ≡ top_list m o → ⊥)) → IsSorted now (top_list m p)
      by_list (inl same) = subst (λ l. IsSorted now l) (sym same) c.own
      by_list (inr ne) = c.sorted (top_list m p) ne (h.sorted p k)

  -- the thread stands nowhere any more
  pub topped-taken : (R : ℕ → ℕ → Type 0) → ((p w : ℕ) → R p w → IsThread m w) → holder now (top_node m u) ≡ None
      → IsTopped m t R
      → IsTopped m now (λ p w. R p w × (w ≢ u))
  topped-taken R threads out h =
      record {
        stands = λ p w s. c.holders (top_node m w) (other_top w (threads p w s.0) s.1) ∙ h.stands p w s.0;
        only = λ l w k e. by_thread l w k e (cases_eq w u);
        nodes = top_nodes R h;
        sorted = top_sorted R h;
      }
    where
      by_thread : (l w : ℕ) → IsThread m w → holder now (top_node m w) ≡ Some l → ((w ≡ u) ⊎ (w ≡ u → ⊥))
          → (p : ℕ) × (l ≡ top_list m p) × (R p w × (w ≢ u))
      by_thread l w k e (inl same) =
          let wrong : None ≡ Some l = sym out ∙ ap (λ x. holder now (top_node m x)) (sym same) ∙ e in
          absurd cc
      by_thread l w k e (inr ne) =
          let at : (p : ℕ) × (l ≡ top_list m p) × R p w =
          h.only l w k (sym (c.holders (top_node m w) (other_top w k ne)) ∙ e) in
          (at.0, at.1, (at.2, ne))

  -- the thread, which stood nowhere, stands for this one
  pub topped-put : (R : ℕ → ℕ → Type 0) → ((p w : ℕ) → R p w → IsThread m w × (w ≢ u))
      → holder now (top_node m u) ≡ Some (top_list m o)
      → IsTopped m t R → IsTopped m now (λ p w. R p w ⊎ ((p ≡ o) × (w ≡ u)))
  topped-put R threads put h =
      record {
        stands = stands;
        only = λ l w k e. by_thread l w k e (cases_eq w u);
        nodes = top_nodes R h;
        sorted = top_sorted R h;
      }
    where
      stands : (p w : ℕ) → R p w ⊎ ((p ≡ o) × (w ≡ u)) → holder now (top_node m w) ≡ Some (top_list m p)
      stands p w (inl s) = let k = threads p w s in c.holders (top_node m w) (other_top w k.0 k.1) ∙ h.stands p w s
      stands p w (inr s) = ap (λ x. holder now (top_node m x)) s.1 ∙ put ∙ ap (λ x. Some (top_list m x)) (sym s.0)

      by_thread : (l w : ℕ) → IsThread m w → holder now (top_node m w) ≡ Some l → ((w ≡ u) ⊎ (w ≡ u → ⊥))
          → (p : ℕ) × (l ≡ top_list m p) × (R p w ⊎ ((p ≡ o) × (w ≡ u)))
      by_thread l w k e (inl same) =
          (o, same_Some l (top_list m o) (sym e ∙ ap (λ x. holder now (top_node m x)) same ∙ put), inr (refl, same))
      by_thread l w k e (inr ne) =
          let at : (p : ℕ) × (l ≡ top_list m p) × R p w =
          h.only l w k (sym (c.holders (top_node m w) (other_top w k ne)) ∙ e) in
          (at.0, at.1, inl at.2)

  -- all stand as they stood, one of them with another key
  pub topped-rekeyed : (R : ℕ → ℕ → Type 0) → ((n : ℕ) → holder now n ≡ holder t n) → IsTopped m t R → IsTopped m now R
  topped-rekeyed R same h =
      record {
        stands = λ p w s. same (top_node m w) ∙ h.stands p w s;
        only = λ l w k e. h.only l w k (sym (same (top_node m w)) ∙ e);
        nodes = top_nodes R h;
        sorted = top_sorted R h;
      }

-- the top waiters are right but for one state, of which the first waiter is the one who stands
pub tops-same : (m : States) (t : NodeLists) (k o : ℕ) (was : Option ℕ) → get m.owners k ≡ Some o → first_waiter m t k ≡ was
    → ((u : ℕ) → was ≡ Some u → IsRankedTop m t u) → IsToppedBut m t k o was → HoldsTops m t
tops-same m t k o was own first rank but =
    record {
      topped = topped-as m t (IsTopBut m t k o was) (IsTopOf m t) to (λ p w s. back p w s (cases_eq s.0 k)) but.topped;
      ranked = λ j p w s. ranked j p w s (cases_eq j k);
    }
  where
    to : (p w : ℕ) → IsTopBut m t k o was p w → IsTopOf m t p w
    to p w (inl s) = (s.0, s.2)
    to p w (inr s) = (k, (own ∙ ap Some (sym s.0), first ∙ s.1))

    back : (p w : ℕ) → (s : IsTopOf m t p w) → ((s.0 ≡ k) ⊎ (s.0 ≡ k → ⊥)) → IsTopBut m t k o was p w
    back p w s (inl same) =
        inr (
          same_Some p o (sym s.1.0 ∙ ap (get m.owners) same ∙ own),
          sym first ∙ ap (first_waiter m t) (sym same)
              ∙ s.1.1,
        )
    back p w s (inr ne) = inl (s.0, ne, s.1)

    ranked : (j p w : ℕ) → IsFirstOf m t j p w → ((j ≡ k) ⊎ (j ≡ k → ⊥)) → IsRankedTop m t w
    ranked j p w s (inl same) = rank w (sym first ∙ ap (first_waiter m t) (sym same) ∙ s.1)
    ranked j p w s (inr ne) = but.ranked j p w ne s

-- where nobody stands it doesn't matter for whom
pub but_nobody : (m : States) (t : NodeLists) (k o p : ℕ) → IsToppedBut m t k o None → IsToppedBut m t k p None
but_nobody m t k o p but =
    record {
      topped = topped-as m t (IsTopBut m t k o None) (IsTopBut m t k p None) (λ q w s. other o p q w s)
          (λ q w s. other p o q w s) but.topped;
      ranked = but.ranked;
      thread = λ u e. absurd cc;
      apart = λ j q u e. absurd cc;
    }
  where
    other : (a b q w : ℕ) → IsTopBut m t k a None q w → IsTopBut m t k b None q w
    other a b q w (inl s) = inl s
    other a b q w (inr s) = let wrong : None ≡ Some w = s.1 in absurd cc

-- a change of the top waiters of a thread, of which the waiters are as they were
module _ (m : States) (t now : NodeLists) (k o u : ℕ) (h : HoldsWaiters m t) (i : IsThread m o) (j : IsThread m u)
    (c : ChangesList (top_list m o) (top_node m u) t now) (frame : ChangesTops m t now) where
  -- who the first waiter of a state is stays
  first-now : (l p w : ℕ) → IsFirstOf m t l p w → IsFirstOf m now l p w
  first-now l p w s = (s.0, first_waiter-framed m t now frame.waiters h l p s.0 ∙ s.1)

  first-was : (l p w : ℕ) → IsFirstOf m now l p w → IsFirstOf m t l p w
  first-was l p w s = (s.0, sym (first_waiter-framed m t now frame.waiters h l p s.0) ∙ s.1)

  -- so is the rank of another thread
  rank-kept : (w : ℕ) → IsThread m w → w ≢ u → IsRankedTop m t w → IsRankedTop m now w
  rank-kept w k ne e =
      ap (λ (x : Key). x.prio) (c.keys (top_node m w) (λ same. ne (omega (arith, k, j, same)))) ∙ e
      ∙ ap (λ (x : Key). x.prio) (sym (c.keys (wait_node m w) (λ same. absurd (omega (arith, k, j, same)))))

  -- who stood for the state is out
  pub but-taken : holder now (top_node m u) ≡ None → IsToppedBut m t k o (Some u) → IsToppedBut m now k o None
  but-taken out but =
      record {
        topped =
            topped-as m now (λ p w. IsTopBut m t k o (Some u) p w × (w ≢ u)) (IsTopBut m now k o None)
            (λ p w s. to p w s.0 s.1) back
            (topped-taken m t now o u i j c (IsTopBut m t k o (Some u)) threads out but.topped);
        ranked = λ l p w ne s.
            let was : IsFirstOf m t l p w = first-was l p w s in
            let first : StandsFirst m t l w = stands-first m t l w h (some_owner m l p was.0) was.1 in
            rank-kept w first.is_thread (λ e. but.apart l p w (ap Some (sym e)) ne was) (but.ranked l p w ne was);
        thread = λ w e. absurd cc;
        apart = λ l p w e. absurd cc;
      }
    where
      threads : (p w : ℕ) → IsTopBut m t k o (Some u) p w → IsThread m w
      threads p w (inl s) = (stands-first m t s.0 w h (some_owner m s.0 p s.2.0) s.2.1).is_thread
      threads p w (inr s) = but.thread w s.1

      to : (p w : ℕ) → IsTopBut m t k o (Some u) p w → w ≢ u → IsTopBut m now k o None p w
      to p w (inl s) ne = inl (s.0, s.1, first-now s.0 p w s.2)
      to p w (inr s) ne = absurd (ne (sym (same_Some u w s.1)))

      back : (p w : ℕ) → IsTopBut m now k o None p w → IsTopBut m t k o (Some u) p w × (w ≢ u)
      back p w (inl s) =
          let was : IsFirstOf m t s.0 p w = first-was s.0 p w s.2 in
          (inl (s.0, s.1, was), λ e. but.apart s.0 p w (ap Some (sym e)) s.1 was)
      back p w (inr s) = let wrong : None ≡ Some w = s.1 in absurd cc

  -- the first waiter of the state is in
  pub tops-put : get m.owners k ≡ Some o → first_waiter m t k ≡ Some u
      → holder now (top_node m u) ≡ Some (top_list m o) → IsRankedTop m now u
      → IsToppedBut m t k o None → HoldsTops m now
  tops-put own first put rank but =
      record {
        topped =
            topped-as m now (λ p w. IsTopBut m t k o None p w ⊎ ((p ≡ o) × (w ≡ u))) (IsTopOf m now) to
            (λ p w s. back p w s (cases_eq s.0 k))
            (topped-put m t now o u i j c (IsTopBut m t k o None) threads put but.topped);
        ranked = λ l p w s. ranked l p w (first-was l p w s) (cases_eq l k);
      }
    where
      mine : StandsFirst m t k u
      mine = stands-first m t k u h (some_owner m k o own) first

      other : (l p w : ℕ) → l ≢ k → IsFirstOf m t l p w → IsThread m w × (w ≢ u)
      other l p w ne s =
          let theirs : StandsFirst m t l w = stands-first m t l w h (some_owner m l p s.0) s.1 in
          (theirs.is_thread, λ e. ne (same_Some l k (sym theirs.waits ∙ ap (wait_of m) e ∙ mine.waits)))

      threads : (p w : ℕ) → IsTopBut m t k o None p w → IsThread m w × (w ≢ u)
      threads p w (inl s) = other s.0 p w s.1 s.2
      threads p w (inr s) = let wrong : None ≡ Some w = s.1 in absurd cc

      to : (p w : ℕ) → IsTopBut m t k o None p w ⊎ ((p ≡ o) × (w ≡ u)) → IsTopOf m now p w
      to p w (inl (inl s)) = (s.0, first-now s.0 p w s.2)
      to p w (inl (inr s)) = let wrong : None ≡ Some w = s.1 in absurd cc
      to p w (inr s) = (k, first-now k p w (own ∙ ap Some (sym s.0), first ∙ ap Some (sym s.1)))

      back : (p w : ℕ) → (s : IsTopOf m now p w) → ((s.0 ≡ k) ⊎ (s.0 ≡ k → ⊥))
          → IsTopBut m t k o None p w ⊎ ((p ≡ o) × (w ≡ u))
      back p w s (inl same) =
          let was : IsFirstOf m t s.0 p w = first-was s.0 p w s.1 in
          inr (
            same_Some p o (sym was.0 ∙ ap (get m.owners) same ∙ own),
            same_Some w u (sym was.1
                ∙ ap (first_waiter m t) same ∙ first),
          )
      back p w s (inr ne) = inl (inl (s.0, ne, first-was s.0 p w s.1))

      ranked : (l p w : ℕ) → IsFirstOf m t l p w → ((l ≡ k) ⊎ (l ≡ k → ⊥)) → IsRankedTop m now w
      ranked l p w s (inl same) =
          subst (IsRankedTop m now) (same_Some u w (sym first ∙ ap (first_waiter m t) (sym same) ∙ s.1)) rank
      ranked l p w s (inr ne) = let at = other l p w ne s in rank-kept w at.0 at.1 (but.ranked l p w ne s)

  -- the first waiter of the state stood there with its old priority, and has its new one now
  pub tops-rekeyed : get m.owners k ≡ Some o → first_waiter m t k ≡ Some u → ((n : ℕ) → holder now n ≡ holder t n)
      → IsRankedTop m now u
      → IsToppedBut m t k o (Some u) → HoldsTops m now
  tops-rekeyed own first same rank but =
      tops-same m now k o (Some u) own (first_waiter-framed m t now frame.waiters h k o own
      ∙ first) (λ w e. subst (IsRankedTop m now) (same_Some u w e) rank)
      (record {
        topped =
            topped-as m now (IsTopBut m t k o (Some u)) (IsTopBut m now k o (Some u)) to back
            (topped-rekeyed m t now o u i j c (IsTopBut m t k o (Some u)) same but.topped);
        ranked = λ l p w ne s.
            let was : IsFirstOf m t l p w = first-was l p w s in
            let theirs : StandsFirst m t l w = stands-first m t l w h (some_owner m l p was.0) was.1 in
            rank-kept w theirs.is_thread (λ e. but.apart l p w (ap Some (sym e)) ne was) (but.ranked l p w ne was);
        thread = but.thread;
        apart = λ l p w e ne s. but.apart l p w e ne (first-was l p w s);
      })
    where
      to : (p w : ℕ) → IsTopBut m t k o (Some u) p w → IsTopBut m now k o (Some u) p w
      to p w (inl s) = inl (s.0, s.1, first-now s.0 p w s.2)
      to p w (inr s) = inr s

      back : (p w : ℕ) → IsTopBut m now k o (Some u) p w → IsTopBut m t k o (Some u) p w
      back p w (inl s) = inl (s.0, s.1, first-was s.0 p w s.2)
      back p w (inr s) = inr s

-- the first waiter of a state that has an owner is a thread
pub first-thread : (m : States) (t : NodeLists) (k o u : ℕ) (w : Option ℕ) → HoldsWaiters m t → get m.owners k ≡ Some o
    → w ≡ first_waiter m t k → w ≡ Some u → IsThread m u
first-thread m t k o u w h own first is = (stands-first m t k u h (some_owner m k o own) (sym first ∙ is)).is_thread

-- the first waiter of a state of which nobody stands anywhere does not stand anywhere
pub top-free : (m : States) (t : NodeLists) (k o p u : ℕ) → HoldsWaiters m t → get m.owners k ≡ Some p
    → first_waiter m t k ≡ Some u
    → IsToppedBut m t k o None → holder t (top_node m u) ≡ None
top-free m t k o p u h own first but = by_holder (cases_Some (holder t (top_node m u)))
  where
    mine : StandsFirst m t k u
    mine = stands-first m t k u h (some_owner m k p own) first

    nowhere : (q : ℕ) → IsTopBut m t k o None q u → ⊥
    nowhere q (inl s) =
        let theirs : StandsFirst m t s.0 u = stands-first m t s.0 u h (some_owner m s.0 q s.2.0) s.2.1 in
        s.1 (same_Some s.0 k (sym theirs.waits ∙ mine.waits))
    nowhere q (inr s) = let wrong : None ≡ Some u = s.1 in absurd cc

    by_holder : ((holder t (top_node m u) ≡ None) ⊎ ((l : ℕ) × (holder t (top_node m u) ≡ Some l)))
        → holder t (top_node m u) ≡ None
    by_holder (inl none) = none
    by_holder (inr some) =
        let at : (q : ℕ) × (some.0 ≡ top_list m q) × IsTopBut m t k o None q u =
        but.topped.only some.0 u mine.is_thread some.1 in
        absurd (nowhere at.0 at.2)
