-- What owner states and a run queue in one table leave of one another, and what both leave of all others.
use Rattle.std.proofs.Common.{◌≡◌, ◌⊎◌, ℕ, ◌+◌, ◌-◌, ◌<◌, ◌≤◌, true, List, length, Option, Some, None, refl, sym, ◌∙◌, ap, subst, inl, inr, slice_index_or, arith}
use Rattle.std.proofs.lemmas.Bool.{cases_lt}
use Rattle.pif_nodes_model.specs.declared.keys.Key.{Key}
use Rattle.pif_nodes_model.specs.Lists.{has}
use Rattle.pif_nodes_model.specs.Table.{NodeLists, list_at, key_at, holder, no_key}
use Rattle.pif_nodes_model.specs.Levels.{Queue, IsLevel, IsLevelList, IsThreadNode, list_for, Holds, SameOutside, KeepsQueue}
use Rattle.pif_kernel_model.specs.States.{States, Row, top_node}
use Rattle.pif_kernel_model.specs.Frames.{IsBeyond, KeepsOwn}
use Rattle.pif_kernel_model.specs.Frames.{SameOutsideStates}
use Rattle.pif_kernel_model.specs.BoostFrames.{StandsBefore, SameBeyond}

-- what a change of the owner states leaves to the run queue
pub states-leave : (m : States) (q : Queue) (was now : NodeLists) → StandsBefore m q → SameOutsideStates m was now → KeepsQueue q was now
states-leave m q was now before same =
    record {
      lists = λ l mine. same.lists l (inr (omega (arith, before.lists, mine.0)));
      count = same.list_count;
      nodes = same.node_count;
      free = λ n mine e. same.holders n (inr (omega (arith, before.nodes, mine.0))) ∙ e;
    }

-- a list is that of a level, or beyond the levels
level_or_not : (q : Queue) (l : ℕ) → IsLevelList q l ⊎ IsBeyond q.first_list 99 l
level_or_not q l = by_place (cases_lt l q.first_list) (cases_lt l (q.first_list + 99))
  where
    by_place : ((l < q.first_list) ⊎ (q.first_list ≤ l)) → ((l < q.first_list + 99) ⊎ (q.first_list + 99 ≤ l))
        → IsLevelList q l ⊎ IsBeyond q.first_list 99 l
    by_place (inl a) b = inr (inl a)
    by_place (inr a) (inl b) = inl (a, b)
    by_place (inr a) (inr b) = inr (inr b)

module _ (q after : Queue) (was now : NodeLists) (place : after ≡ record q { mask = after.mask }) (before : Holds q was)
    (holds : Holds after now) (same : SameOutside q was now) where
  list_same : (l : ℕ) → IsBeyond q.first_list 99 l → list_at now l ≡ list_at was l
  list_same l (inl a) = same.before l a
  list_same l (inr a) = same.behind l a

  -- a node on a level is that of a thread, before and after
  on_level : (x : Queue) (t : NodeLists) → x.first_list ≡ q.first_list → x.first_node ≡ q.first_node → x.threads ≡ q.threads
      → Holds x t → (l n : ℕ) → IsLevelList q l → has n (list_at t l) ≡ true → IsThreadNode q n
  on_level x t list node threads h l n level e =
      let p : ℕ = l - q.first_list + 1 in
      let lp : IsLevel p = (omega arith, omega (arith, level.0, level.1)) in
      let at : list_for x p ≡ l = omega (arith, level.0, list) in
      let mine : IsThreadNode x n = h.threads p n lp (ap (λ (k : ℕ). has n (list_at t k)) at ∙ e) in
      (omega (arith, mine.0, node), omega (arith, mine.1, node, threads))

  first : after.first_list ≡ q.first_list
  first = ap (λ (x : Queue). x.first_list) place

  -- a node that is no thread's is in the list in which it was
  pub queue-holders : (n : ℕ) → IsBeyond q.first_node q.threads n → holder now n ≡ holder was n
  queue-holders n off = by_holder (holder was n) refl
    where
      none : IsThreadNode q n → ⊥
      none mine = by_place off
        where
          by_place : IsBeyond q.first_node q.threads n → ⊥
          by_place (inl a) = absurd (omega (arith, a, mine.0))
          by_place (inr a) = absurd (omega (arith, a, mine.1))

      by_holder : (o : Option ℕ) → holder was n ≡ o → holder now n ≡ holder was n
      by_holder (Some l) e = by_list (level_or_not q l)
        where
          there : has n (list_at was l) ≡ true
          there = before.apart.listed l n e

          by_list : IsLevelList q l ⊎ IsBeyond q.first_list 99 l → holder now n ≡ holder was n
          by_list (inl level) = absurd (none (on_level q was refl refl refl before l n level there))
          by_list (inr b) = holds.apart.alone l n (ap (has n) (list_same l b) ∙ there) ∙ sym e
      by_holder None e = by_now (holder now n) refl
        where
          by_now : (o : Option ℕ) → holder now n ≡ o → holder now n ≡ holder was n
          by_now None f = f ∙ sym e
          by_now (Some l) f = by_list (level_or_not q l)
            where
              there : has n (list_at now l) ≡ true
              there = holds.apart.listed l n f

              by_list : IsLevelList q l ⊎ IsBeyond q.first_list 99 l → holder now n ≡ holder was n
              by_list (inl level) =
                  absurd (none (on_level after now first (ap (λ (x : Queue). x.first_node) place)
                  (ap (λ (x : Queue). x.threads) place) holds l n level there))
              by_list (inr b) =
                  let wrong : Some l ≡ None = sym (before.apart.alone l n (sym (ap (has n) (list_same l b)) ∙ there)) ∙ e in
                  absurd cc

  key_same : (n : ℕ) → key_at now n ≡ key_at was n
  key_same n = ap (λ (ks : List Key). slice_index_or ks n no_key) same.keys

  -- what a change of the run queue leaves to the owner states
  pub queue-leaves : (m : States) → StandsBefore m q → KeepsOwn m was now
  queue-leaves m apart =
      record {
        lists = record {
          lists = λ l low high. same.before l (omega (arith, apart.lists, high));
          keys = λ l n low high h. key_same n;
          list_count = same.count;
          node_count = ap length same.keys;
        };
        free = λ u th e. queue-holders (top_node m u) (inl (omega (arith, apart.nodes, th.0, th.1))) ∙ e;
      }

  -- and what it leaves of all others
  pub beyond-queue : (m : States) → SameBeyond m q was now
  beyond-queue m =
      record {
        lists = λ l a b. list_same l b;
        keys = λ l n a b h. key_same n;
        holders = λ n a b. queue-holders n b;
        list_count = same.count;
        node_count = ap length same.keys;
      }

pub beyond-states : (m : States) (q : Queue) (was now : NodeLists) → SameOutsideStates m was now → SameBeyond m q was now
beyond-states m q was now same =
    record {
      lists = λ l a b. same.lists l a;
      keys = λ l n a b h. same.keys l n a h;
      holders = λ n a b. same.holders n a;
      list_count = same.list_count;
      node_count = same.node_count;
    }

-- two changes after one another
pub beyond-both : (m : States) (q : Queue) (was then now : NodeLists) → SameBeyond m q was then → SameBeyond m q then now → SameBeyond m q was now
beyond-both m q was then now a b =
    record {
      lists = λ l x y. b.lists l x y ∙ a.lists l x y;
      keys = λ l n x y h. b.keys l n x y (ap (has n) (a.lists l x y) ∙ h) ∙ a.keys l n x y h;
      holders = λ n x y. b.holders n x y ∙ a.holders n x y;
      list_count = b.list_count ∙ a.list_count;
      node_count = b.node_count ∙ a.node_count;
    }

-- the same of the owner states alone
pub outside-none : (m : States) (t : NodeLists) → SameOutsideStates m t t
outside-none m t =
    record { lists = λ l a. refl; keys = λ l n a h. refl; holders = λ n a. refl; list_count = refl; node_count = refl }

pub outside-both : (m : States) (was then now : NodeLists) → SameOutsideStates m was then → SameOutsideStates m then now → SameOutsideStates m was now
outside-both m was then now a b =
    record {
      lists = λ l x. b.lists l x ∙ a.lists l x;
      keys = λ l n x h. b.keys l n x (ap (has n) (a.lists l x) ∙ h) ∙ a.keys l n x h;
      holders = λ n x. b.holders n x ∙ a.holders n x;
      list_count = b.list_count ∙ a.list_count;
      node_count = b.node_count ∙ a.node_count;
    }

-- which rows they have doesn't matter
pub outside-rows : (m m0 : States) (rows : List Row) (was now : NodeLists) → m ≡ record m0 { rows = rows } → SameOutsideStates m was now
    → SameOutsideStates m0 was now
outside-rows m m0 rows was now e same =
    let s : SameOutsideStates (record m0 { rows = rows }) was now = subst (λ (x : States). SameOutsideStates x was now) e same in
    record {
      lists = s.lists;
      keys = s.keys;
      holders = s.holders;
      list_count = s.list_count;
      node_count = s.node_count;
    }
