-- Who is on no level has a node that is in no list.
use Rattle.std.proofs.Common.{◌≡◌, ℕ, ◌+◌, ◌-◌, ◌≤◌, true, Option, Some, None, refl, ap, ◌∙◌, arith}
use Rattle.pif_nodes_model.specs.Lists.{has}
use Rattle.pif_nodes_model.specs.Table.{NodeLists, holder, list_at}
use Rattle.pif_nodes_model.specs.Levels.{Queue, IsQueued, IsLevel, IsLevelList, Holds, level_of, list_for, node_for}
use Rattle.pif_nodes_model.proofs.LevelLemmas.{has-threads}

pub off_free : (q : Queue) (t : NodeLists) (u : ℕ) → Holds q t → 1 ≤ u → u ≤ q.threads → (IsQueued q t u → ⊥)
    → holder t (node_for q u) ≡ None
off_free q t u h some few off = by_holder (holder t (node_for q u)) refl
  where
    by_holder : (o : Option ℕ) → holder t (node_for q u) ≡ o → holder t (node_for q u) ≡ None
    by_holder None e = e
    by_holder (Some l) e =
        let stands : IsLevelList q l = h.alone (node_for q u) l (omega arith, omega (arith, some, few)) e in
        let r : ℕ = l - q.first_list + 1 in
        let level : IsLevel r = (omega arith, omega (arith, stands.0, stands.1)) in
        let list : list_for q r ≡ l = omega (arith, stands.0) in
        let listed : has (node_for q u) (list_at t (list_for q r)) ≡ true
        = ap (λ (x : ℕ). has (node_for q u) (list_at t x)) list ∙ h.apart.listed l (node_for q u) e in
        let on : has u (level_of q t r) ≡ true
        = has-threads q u (list_at t (list_for q r)) some (λ n x. (h.threads r n level x).0) ∙ listed in
        absurd (off (r, level, on))
