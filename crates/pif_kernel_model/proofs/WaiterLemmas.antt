-- Who the first waiter of a state is, and where it stands.
use Rattle.std.proofs.Common.{◌≡◌, ◌⊎◌, ℕ, ◌<◌, ◌≤◌, true, length, Option, Some, None, IsSome, option_map, option_and_then, refl, sym, ◌∙◌, ap, subst, inl, inr, arith}
use Rattle.std.proofs.lemmas.Bool.{cases_eq, cases_lt}
use Rattle.std.proofs.lemmas.List.{get_or_past}
use Rattle.std.specs.FinMap.{get}
use Rattle.pif_nodes_model.specs.Lists.{has, first_of}
use Rattle.pif_nodes_model.specs.Table.{NodeLists, list_at, key_at}
use Rattle.pif_nodes_model.proofs.ListLemmas.{first_of-has}
use Rattle.pif_kernel_model.specs.Owners.{Task, state_of}
use Rattle.pif_kernel_model.specs.States.{Row, States, IsThread, no_row, wait_of, wait_node, wait_list, waiter_for, first_waiter}
use Rattle.pif_kernel_model.proofs.ViewLemmas.{task_at-owners_in, waits_on-owners_in}
use Rattle.pif_kernel_model.specs.Holds.{HoldsWaiters, IsWaiterIn}

-- the thread of a thread's node is that thread
pub waiter_for-node : (m : States) (u : ℕ) → 1 ≤ u → waiter_for m (wait_node m u) ≡ u
waiter_for-node m u l = omega arith

-- a mapped option that is there is the image of what is there
from_mapped : (f : ℕ → ℕ) (o : Option ℕ) (y : ℕ) → option_map f o ≡ Some y → (x : ℕ) × (o ≡ Some x) × (f x ≡ y)
from_mapped f None y e = absurd cc
from_mapped f (Some x) y e = (x, refl, cc)

-- the first waiter of a state that has a row, by the list of that row
pub first_waiter-by_row : (m : States) (t : NodeLists) (k r : ℕ) → get m.places k ≡ Some r
    → first_waiter m t k ≡ option_map (waiter_for m) (first_of (list_at t (wait_list m r)))
first_waiter-by_row m t k r e =
    ap (λ (o : Option ℕ). option_and_then (λ r. option_map (waiter_for m) (first_of (list_at t (wait_list m r)))) o) e

-- where the first waiter of a state stands
pub record StandsFirst (m : States) (t : NodeLists) (k u : ℕ) : Type 0 where
  pub is_thread : IsThread m u
  pub waits : wait_of m u ≡ Some k
  pub row : ℕ
  pub place : get m.places k ≡ Some row
  pub below : row < m.threads
  pub first : first_of (list_at t (wait_list m row)) ≡ Some (wait_node m u)
  pub listed : has (wait_node m u) (list_at t (wait_list m row)) ≡ true

pub stands-first : (m : States) (t : NodeLists) (k u : ℕ) → HoldsWaiters m t → IsSome (get m.owners k)
    → first_waiter m t k ≡ Some u
    → StandsFirst m t k u
stands-first m t k u h some e =
    let at : (r : ℕ) × (get m.places k ≡ Some r) × (r < m.threads) = h.placed k some in
    let node : (n : ℕ) × (first_of (list_at t (wait_list m at.0)) ≡ Some n) × (waiter_for m n ≡ u) =
    from_mapped (waiter_for m) (first_of (list_at t (wait_list m at.0))) u (sym (first_waiter-by_row m t k at.0 at.1)
    ∙ e) in
    let is : IsWaiterIn m at.0 node.0 =
    h.waiters at.0 node.0 at.2 (first_of-has (list_at t (wait_list m at.0)) node.0 node.1) in
    let same : is.thread ≡ u = omega (arith, is.is_thread, is.node, node.2) in
    let place : node.0 ≡ wait_node m u = is.node ∙ ap (wait_node m) same in
    record {
      is_thread = subst (IsThread m) same is.is_thread;
      waits = ap (wait_of m) (sym same) ∙ is.waits ∙ ap Some (h.alone is.state k at.0 is.place at.1);
      row = at.0;
      place = at.1;
      below = at.2;
      first = node.1 ∙ ap Some place;
      listed = first_of-has (list_at t (wait_list m at.0)) (wait_node m u) (node.1 ∙ ap Some place);
    }

-- who waits does so on a state that there is
pub waits-state : (m : States) (t : NodeLists) (u k : ℕ) → HoldsWaiters m t → wait_of m u ≡ Some k → IsSome (get m.owners k)
waits-state m t u k h w =
    (h.sound.seats u).state (record { state = k; rank = key_at t (wait_node m u) })
    (ap (λ (x : Task). x.wait) (task_at-owners_in m t u)
    ∙ ap (λ (o : Option ℕ). option_map (λ k. record { state = k; rank = key_at t (wait_node m u) }) o) w)

-- and is a thread
pub waits-thread : (m : States) (t : NodeLists) (u k : ℕ) → HoldsWaiters m t → wait_of m u ≡ Some k → IsThread m u
waits-thread m t u k h w = (by_zero (cases_eq u 0), by_place (cases_lt u (length m.rows)))
  where
    by_zero : ((u ≡ 0) ⊎ (u ≡ 0 → ⊥)) → 1 ≤ u
    by_zero (inl e) =
        let none : Some k ≡ None = sym w ∙ ap (wait_of m) e ∙ sym (waits_on-owners_in m t 0)
        ∙ ap state_of h.sound.nobody in
        absurd cc
    by_zero (inr n) = omega arith

    by_place : ((u < length m.rows) ⊎ (length m.rows ≤ u)) → u ≤ m.threads
    by_place (inl l) = omega (arith, h.rows)
    by_place (inr p) =
        let none : Some k ≡ None = sym w ∙ ap (λ (x : Row). x.wait) (get_or_past m.rows u no_row p) in
        absurd cc

-- a state that has an owner is there
pub some_owner : (m : States) (k o : ℕ) → get m.owners k ≡ Some o → IsSome (get m.owners k)
some_owner m k o e = subst IsSome (sym e) refl
