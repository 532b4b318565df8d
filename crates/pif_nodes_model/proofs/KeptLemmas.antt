-- A queue stands in its table whatever others change there, as long as they keep what it needs.
use Rattle.std.proofs.Common.{◌≡◌, ℕ, ◌↔◌, List, [], Option, Some, None, true, refl, sym, ◌∙◌, ap, subst, map, arith}
use Rattle.std.proofs.lemmas.Option.{same_Some}
use Rattle.std.specs.Int.{bit_at}
use Rattle.pif_nodes_model.specs.Lists.{has}
use Rattle.pif_nodes_model.specs.Table.{NodeLists, list_at, holder, IsApart}
use Rattle.pif_nodes_model.specs.Levels.{Queue, IsLevel, IsLevelList, IsThreadNode, list_for, thread_for, level_of, Holds, KeepsQueue}

module _ (q : Queue) (was now : NodeLists) (keeps : KeepsQueue q was now) where
  -- the list of a level is one of the queue
  level_list : (p : ℕ) → IsLevel p → list_at now (list_for q p) ≡ list_at was (list_for q p)
  level_list p lp = keeps.lists (list_for q p) (omega arith, omega (arith, lp.0, lp.1))

  pub levels-framed : (p : ℕ) → IsLevel p → level_of q now p ≡ level_of q was p
  levels-framed p lp = ap (map (thread_for q)) (level_list p lp)

  pub queue-framed : Holds q was → IsApart now → Holds q now
  queue-framed holds apart =
      record {
        apart = apart;
        lists = omega (arith, holds.lists, keeps.count);
        nodes = omega (arith, holds.nodes, keeps.nodes);
        threads = λ p n lp h. holds.threads p n lp (subst (λ (xs : List ℕ). has n xs ≡ true) (level_list p lp) h);
        alone = λ n l mine held. by_holder n l mine held (holder was n) refl;
        bits = λ p lp. subst (λ (xs : List ℕ). (bit_at q.mask p ≡ 0) ↔ (xs ≡ [])) (sym (level_list p lp)) (holds.bits p lp);
        no_more = holds.no_more;
      }
    where
      by_holder : (n l : ℕ) → IsThreadNode q n → holder now n ≡ Some l → (o : Option ℕ) → holder was n ≡ o
          → IsLevelList q l
      by_holder n l mine held None e = let none : None ≡ Some l = sym (keeps.free n mine e) ∙ held in absurd cc
      by_holder n l mine held (Some k) e =
          let level : IsLevelList q k = holds.alone n k mine e in
          let there : has n (list_at now k) ≡ true = ap (has n) (keeps.lists k level) ∙ holds.apart.listed k n e in
          let same : k ≡ l = same_Some k l (sym (apart.alone k n there) ∙ held) in
          subst (IsLevelList q) same level
