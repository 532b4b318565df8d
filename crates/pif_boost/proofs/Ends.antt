-- The levels of a run queue after a walk along one chain: of the ready threads only the last of the chain can change
-- its level, since only who waits for nobody is ready.
use Rattle.std.proofs.Common.{◌≡◌, ◌≢◌, ◌⊎◌, ℕ, zero, suc, ◌<◌, ◌≤◌, ◌+◌, ◌-◌, Bool, true, false, ◌==◌, eqb, not, ◌&&◌, List, [], ◌∷◌, ◌++◌, length, Option, Some, None, refl, sym, ap, ◌∙◌, inl, inr, if◌then◌else◌, append-nil, arith}
use Rattle.std.specs.List.{filter, range_with_len}
use Rattle.std.specs.Option.{is_some}
use Rattle.std.proofs.lemmas.Bool.{cases_eq, eq-eqb, ne_eqb, or_right, false_from_ne_true, true≢false}
use Rattle.std.proofs.lemmas.Option.{same_Some}
use Rattle.pif_nodes_model.specs.Lists.{has, list_without}
use Rattle.pif_nodes_model.specs.Table.{NodeLists}
use Rattle.pif_nodes_model.proofs.ListLemmas.{has-head}
use Rattle.pif_nodes_model.specs.Levels.{Queue, IsLevel, level_of, level_with, Holds, level_after_move, level_after_move_if_queued}
use Rattle.pif_nodes_model.proofs.LevelLemmas.{queued_on}
use Rattle.pif_nodes_model.proofs.LevelWithLemmas.{level_with-from_listed, listed-from_level_with}
use Rattle.pif_kernel_model.specs.Owners.{Owners}
use Rattle.pif_kernel_model.specs.Boosts.{IsThread, greatest_base, is_other, joins, threads_of, level_after_walk}
use Rattle.pif_kernel_model.proofs.BoostLevels.{filter_on, has-range}

-- a test that all numbers of a list pass keeps them all, and one that none passes keeps none
filter_all : (f : ℕ → Bool) (xs : List ℕ) → ((x : ℕ) → has x xs ≡ true → f x ≡ true) → filter f xs ≡ xs
filter_all f [] h = refl
filter_all f (x ∷ xs) h =
    rw (h x (has-head x xs)) (ap (λ ys. x ∷ ys) (filter_all f xs (λ y m. h y (or_right (eqb y x) (has y xs) m))))

filter_none : (f : ℕ → Bool) (xs : List ℕ) → ((x : ℕ) → has x xs ≡ true → f x ≡ false) → filter f xs ≡ []
filter_none f [] h = refl
filter_none f (x ∷ xs) h =
    rw (h x (has-head x xs)) (filter_none f xs (λ y m. h y (or_right (eqb y x) (has y xs) m)))

-- of the numbers from a on one that alone passes is left
filter_alone : (f : ℕ → Bool) (a n u : ℕ) → a ≤ u → u < a + n → f u ≡ true → ((x : ℕ) → x ≢ u → f x ≡ false)
    → filter f (range_with_len a n) ≡ u ∷ []
filter_alone f a zero u low high passes fails = absurd (omega arith)
filter_alone f a (suc n) u low high passes fails =
    by_place (λ ne. filter_alone f (a + 1) n u (omega (arith, ne)) (omega arith) passes fails) (cases_eq a u)
  where
    by_place : ((a ≡ u → ⊥) → filter f (range_with_len (a + 1) n) ≡ u ∷ []) → ((a ≡ u) ⊎ (a ≡ u → ⊥))
        → filter f (range_with_len a (suc n)) ≡ u ∷ []
    by_place ih (inl e) =
        let here : f a ≡ true = ap f e ∙ passes in
        rw here ((λ i. e i ∷ filter_none f (range_with_len (a + 1) n)
        (λ x h. fails x (λ s. (let r = has-range (a + 1) n x h in absurd (omega (arith, r.0, s, e))))) i))
    by_place ih (inr ne) = rw (fails a ne) (ih ne)

module _ (v : Owners) (q : Queue) (t : NodeLists) (holds : Holds q t) where
  -- each thread of the run queue but one has the level that it is to have
  abbrev pub AllBut : ℕ → Type 0
  AllBut e = (u p : ℕ) → u ≢ e → IsLevel p → has u (level_of q t p) ≡ true → greatest_base v u ≡ p

  -- so no other one joins a level
  joins_none : (e p x : ℕ) → AllBut e → x ≢ e → joins v q t p x ≡ false
  joins_none e p x all ne = by_level (level_with q t x) refl
    where
      by_level : (o : Option ℕ) → level_with q t x ≡ o → (greatest_base v x == p && is_other p (level_with q t x)) ≡ false
      by_level None is =
          false_from_ne_true (greatest_base v x == p && is_other p (level_with q t x))
          (λ h. absurd (true≢false (sym (and_right_of (greatest_base v x == p) (is_other p (level_with q t x)) h) ∙ ap (is_other p) is)))
        where
          and_right_of : (a b : Bool) → (a && b) ≡ true → b ≡ true
          and_right_of true b h = h
          and_right_of false b h = absurd (true≢false (sym h))
      by_level (Some l) is =
          let on = listed-from_level_with q t x l holds is in
          let at : greatest_base v x ≡ l = all x l ne on.0 on.1 in
          by_same l is at (cases_eq l p)
        where
          by_same : (l : ℕ) → level_with q t x ≡ Some l → greatest_base v x ≡ l → ((l ≡ p) ⊎ (l ≡ p → ⊥))
              → (greatest_base v x == p && is_other p (level_with q t x)) ≡ false
          by_same l is at (inl s) =
              let same : (l == p) ≡ true = eq-eqb l p s in
              let other : is_other p (level_with q t x) ≡ false = ap (is_other p) is ∙ ap not same in
              rw other (and_false (greatest_base v x == p))
            where
              and_false : (a : Bool) → (a && false) ≡ false
              and_false true = refl
              and_false false = refl
          by_same l is at (inr d) =
              let far : (greatest_base v x == p) ≡ false = ne_eqb (greatest_base v x) p (λ s. d (sym at ∙ s)) in rw far refl

  -- if all of them have it, a walk leaves every level
  pub stop_levels : AllBut 0 → (p : ℕ) → IsLevel p → level_after_walk v q t p ≡ level_of q t p
  stop_levels all p lp =
      let kept : filter (λ u. greatest_base v u == p) (level_of q t p) ≡ level_of q t p =
      filter_all (λ u. greatest_base v u == p) (level_of q t p)
      (λ x h. eq-eqb (greatest_base v x) p
      (all x p (λ z. (let one = (queued_on q t x holds (p, lp, h)).some in absurd (omega (arith, one, z)))) lp h)) in
      let none : filter (joins v q t p) (threads_of v) ≡ [] =
      filter_none (joins v q t p) (threads_of v)
      (λ x h. joins_none 0 p x all (λ z. (let r = has-range 1 (length v.seats - 1) x h in absurd (omega (arith, r.0, z))))) in
      (λ i. kept i ++ none i) ∙ append-nil (level_of q t p)

  -- if all but one have it, that one is moved, if it is on a level
  module _ (e to : ℕ) (th : IsThread v e) (is : greatest_base v e ≡ to) (all : AllBut e) where
    -- it is on this level
    module _ (l : ℕ) (at : level_with q t e ≡ Some l) where
      on : IsLevel l × (has e (level_of q t l) ≡ true)
      on = listed-from_level_with q t e l holds at

      here_alone : (p : ℕ) → IsLevel p → p ≢ l → has e (level_of q t p) ≡ false
      here_alone p lp ne =
          false_from_ne_true (has e (level_of q t p))
          (λ h. (let two : Some l ≡ Some p = sym at ∙ level_with-from_listed q t e p holds lp h in
          ne (sym (same_Some l p two))))

      join_here : (p : ℕ) → (joins v q t p e) ≡ ((to == p) && not (l == p))
      join_here p = (λ i. (is i == p) && is_other p (at i))

      others_kept : (p : ℕ) → IsLevel p → has e (level_of q t p) ≡ false
          → filter (λ u. greatest_base v u == p) (level_of q t p) ≡ level_of q t p
      others_kept p lp absent =
          filter_all (λ u. greatest_base v u == p) (level_of q t p)
          (λ x h. eq-eqb (greatest_base v x) p
          (all x p (λ s. true≢false (sym h ∙ ap (λ (y : ℕ). has y (level_of q t p)) s ∙ absent)) lp h))

      none_joins : (p : ℕ) → joins v q t p e ≡ false → filter (joins v q t p) (threads_of v) ≡ []
      none_joins p fails =
          filter_none (joins v q t p) (threads_of v)
          (λ x h. by_number x (cases_eq x e))
        where
          by_number : (x : ℕ) → ((x ≡ e) ⊎ (x ≡ e → ⊥)) → joins v q t p x ≡ false
          by_number x (inl s) = ap (joins v q t p) s ∙ fails
          by_number x (inr ne) = joins_none e p x all ne

      one_joins_here : (p : ℕ) → joins v q t p e ≡ true → filter (joins v q t p) (threads_of v) ≡ e ∷ []
      one_joins_here p passes =
          filter_alone (joins v q t p) 1 (length v.seats - 1) e th.0 (omega (arith, th.1)) passes
          (λ x ne. joins_none e p x all ne)

      moved : (p : ℕ) → IsLevel p → ((p ≡ to) ⊎ (p ≡ to → ⊥)) → ((p ≡ l) ⊎ (p ≡ l → ⊥))
          → level_after_walk v q t p ≡ level_after_move e to p (level_of q t p)
      -- it keeps its level
      moved p lp (inl a) (inl b) =
          let here : (p == to) ≡ true = eq-eqb p to a in
          let listed : has e (level_of q t p) ≡ true = ap (λ (x : ℕ). has e (level_of q t x)) b ∙ on.1 in
          let kept : filter (λ u. greatest_base v u == p) (level_of q t p) ≡ level_of q t p =
          filter_all (λ u. greatest_base v u == p) (level_of q t p)
          (λ x h. eq-eqb (greatest_base v x) p (by_number x h (cases_eq x e))) in
          let fails : joins v q t p e ≡ false =
          join_here p ∙ ap (λ (c : Bool). (to == p) && not c) (eq-eqb l p (sym b)) ∙ and_false (to == p) in
          (λ i. kept i ++ none_joins p fails i) ∙ append-nil (level_of q t p) ∙ sym (rw (here, listed) refl)
        where
          and_false : (c : Bool) → (c && false) ≡ false
          and_false true = refl
          and_false false = refl

          by_number : (x : ℕ) → has x (level_of q t p) ≡ true → ((x ≡ e) ⊎ (x ≡ e → ⊥)) → greatest_base v x ≡ p
          by_number x h (inl s) = ap (greatest_base v) s ∙ is ∙ sym a
          by_number x h (inr ne) = all x p ne lp h
      -- it joins this one
      moved p lp (inl a) (inr b) =
          let here : (p == to) ≡ true = eq-eqb p to a in
          let absent : has e (level_of q t p) ≡ false = here_alone p lp b in
          let passes : joins v q t p e ≡ true =
          join_here p ∙ (λ i. (eq-eqb to p (sym a) i) && not (ne_eqb l p (λ s. b (sym s)) i)) in
          (λ i. others_kept p lp absent i ++ one_joins_here p passes i) ∙ sym (rw (here, absent) refl)
      -- it leaves this one, or never was here
      moved p lp (inr a) b =
          let other : (p == to) ≡ false = ne_eqb p to a in
          let fails : joins v q t p e ≡ false =
          join_here p ∙ ap (λ (c : Bool). c && not (l == p)) (ne_eqb to p (λ s. a (sym s))) in
          let kept : filter (λ u. greatest_base v u == p) (level_of q t p) ≡ list_without e (level_of q t p) =
          filter_on (λ u. greatest_base v u == p) (λ u. not (eqb e u)) (level_of q t p)
          (λ x h. by_number x h (cases_eq e x)) in
          (λ i. kept i ++ none_joins p fails i) ∙ append-nil (list_without e (level_of q t p)) ∙ sym (rw other refl)
        where
          by_number : (x : ℕ) → has x (level_of q t p) ≡ true → ((e ≡ x) ⊎ (e ≡ x → ⊥))
              → (greatest_base v x == p) ≡ not (eqb e x)
          by_number x h (inl s) =
              ne_eqb (greatest_base v x) p (λ z. a (sym z ∙ ap (greatest_base v) (sym s) ∙ is))
              ∙ sym (ap not (eq-eqb e x s))
          by_number x h (inr ne) =
              eq-eqb (greatest_base v x) p (all x p (λ s. ne (sym s)) lp h) ∙ sym (ap not (ne_eqb e x ne))

    pub end_levels : (p : ℕ) → IsLevel p
        → level_after_walk v q t p ≡ level_after_move_if_queued q t e to p
    end_levels p lp = by_level (level_with q t e) refl
      where
        by_level : (o : Option ℕ) → level_with q t e ≡ o
            → level_after_walk v q t p ≡ (if is_some (level_with q t e) then level_after_move e to p (level_of q t p) else level_of q t p)
        by_level None at =
            stop_levels off p lp ∙ sym (ap (λ (o : Option ℕ). if is_some o then level_after_move e to p (level_of q t p) else level_of q t p) at)
          where
            off : AllBut 0
            off u r z lr h = all u r (λ s. (let two : None ≡ Some r = sym at ∙ ap (level_with q t) (sym s) ∙ level_with-from_listed q t u r holds lr h in absurd cc)) lr h
        by_level (Some l) at =
            moved l at p lp (cases_eq p to) (cases_eq p l)
            ∙ sym (ap (λ (o : Option ℕ). if is_some o then level_after_move e to p (level_of q t p) else level_of q t p) at)
