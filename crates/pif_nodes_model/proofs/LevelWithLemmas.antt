-- The level on which a thread is, by the list of its node, is the one that has it.
use Rattle.std.proofs.Common.{◌≡◌, ℕ, ◌+◌, ◌-◌, ◌<◌, ◌≤◌, ◌↔◌, Bool, true, false, nat_le, nat_lt, ◌&&◌, Option, Some, None, if◌then◌else◌, refl, sym, ◌∙◌, ap, subst, arith}
use Rattle.std.specs.Prelude.{option_and_then}
use Rattle.std.specs.Option.{is_some}
use Rattle.std.proofs.lemmas.Bool.{and_parts}
use Rattle.std.proofs.lemmas.Bool.Decides.{nat_tests}
use Rattle.pif_nodes_model.specs.Lists.{has}
use Rattle.pif_nodes_model.specs.Table.{NodeLists, list_at, holder}
use Rattle.pif_nodes_model.specs.Levels.{Queue, IsLevel, list_for, node_for, level_of, level_for, level_with, Holds, IsQueued}
use Rattle.std.proofs.lemmas.Option.{same_Some}
use Rattle.pif_nodes_model.proofs.LevelLemmas.{has-threads, queued_on}

-- the list of a level is that of this level
level_for-list : (q : Queue) (p : ℕ) → IsLevel p → level_for q (list_for q p) ≡ Some p
level_for-list q p lp =
    let low : nat_le q.first_list (list_for q p) ≡ true = grind (arith, nat_tests) in
    let high : nat_lt (list_for q p) (q.first_list + 99) ≡ true = grind (arith, nat_tests, lp.0, lp.1) in
    let back : list_for q p - q.first_list + 1 ≡ p = omega (arith, lp.0) in
    rw (low, high) (ap (λ (k : ℕ). Some k) back)

-- a thread that a level has is on that level
pub level_with-from_listed : (q : Queue) (t : NodeLists) (u p : ℕ) → Holds q t → IsLevel p → has u (level_of q t p) ≡ true → level_with q t u ≡ Some p
level_with-from_listed q t u p holds lp listed =
    let stands = queued_on q t u holds (p, lp, listed) in
    let some : nat_le 1 u ≡ true = grind (arith, nat_tests, stands.some) in
    let within : nat_le u q.threads ≡ true = grind (arith, nat_tests, stands.within) in
    rw (some, within, stands.held) (level_for-list q p lp)

-- what a test lets through
let_through : {A : Type 0} (b : Bool) (x : Option A) (y : A) → (if b then x else None) ≡ Some y → (b ≡ true) × (x ≡ Some y)
let_through true x y e = (refl, e)
let_through false x y e = absurd cc

-- what follows some value
followed : {A B : Type 0} (f : A → Option B) (o : Option A) (y : B) → option_and_then f o ≡ Some y → (x : A) × (o ≡ Some x) × (f x ≡ Some y)
followed f None y e = absurd cc
followed f (Some x) y e = (x, refl, e)

-- a list that is that of a level
level_for-some : (q : Queue) (l p : ℕ) → level_for q l ≡ Some p → IsLevel p × (l ≡ list_for q p)
level_for-some q l p e =
    let t = let_through (nat_le q.first_list l && nat_lt l (q.first_list + 99)) (Some (l - q.first_list + 1)) p e in
    let r = and_parts (nat_le q.first_list l) (nat_lt l (q.first_list + 99)) t.0 in
    let low : q.first_list ≤ l = grind (arith, nat_tests, r.0) in
    let high : l < q.first_list + 99 = grind (arith, nat_tests, r.1) in
    let here : l - q.first_list + 1 ≡ p = same_Some (l - q.first_list + 1) p t.1 in
    ((omega arith, omega arith), omega arith)

-- a thread that is on a level is among those that the level has
pub listed-from_level_with : (q : Queue) (t : NodeLists) (u p : ℕ) → Holds q t → level_with q t u ≡ Some p → IsLevel p × (has u (level_of q t p) ≡ true)
listed-from_level_with q t u p holds e =
    let r = let_through (nat_le 1 u && nat_le u q.threads) (option_and_then (level_for q) (holder t (node_for q u))) p e in
    let some : 1 ≤ u = grind (arith, nat_tests, (and_parts (nat_le 1 u) (nat_le u q.threads) r.0).0) in
    let found = followed (level_for q) (holder t (node_for q u)) p r.1 in
    let at = level_for-some q found.0 p found.2 in
    let listed : has (node_for q u) (list_at t (list_for q p)) ≡ true =
    subst (λ (l : ℕ). has (node_for q u) (list_at t l) ≡ true) at.1 (holds.apart.listed found.0 (node_for q u) found.1) in
    (at.0, has-threads q u (list_at t (list_for q p)) some (λ n h. (holds.threads p n at.0 h).0) ∙ listed)

-- both in one, for an answer that is the level
pub queued-by_level : (q : Queue) (t : NodeLists) (u : ℕ) (level : Option ℕ) → Holds q t → level ≡ level_with q t u
    → (p : ℕ) → IsLevel p → (level ≡ Some p) ↔ (has u (level_of q t p) ≡ true)
queued-by_level q t u level holds is p lp =
    (λ e. (listed-from_level_with q t u p holds (sym is ∙ e)).1, λ h. is ∙ level_with-from_listed q t u p holds lp h)

-- a thread whose level is found is queued
pub queued_found : (q : Queue) (t : NodeLists) (u : ℕ) → Holds q t → is_some (level_with q t u) ≡ true → IsQueued q t u
queued_found q t u holds some = by_level (level_with q t u) refl some
  where
    by_level : (o : Option ℕ) → level_with q t u ≡ o → is_some o ≡ true → IsQueued q t u
    by_level None is e = absurd cc
    by_level (Some p) is e = let r = listed-from_level_with q t u p holds is in (p, r.0, r.1)
