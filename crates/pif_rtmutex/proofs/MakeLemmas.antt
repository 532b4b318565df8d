-- A state is made, and one ends: which row each state has then.
use Rattle.std.proofs.Common.{◌≡◌, ◌≢◌, ◌⊎◌, ℕ, ◌<◌, Some, None, IsSome, refl, sym, ◌∙◌, subst, inl, inr}
use Rattle.std.proofs.lemmas.Bool.{false≢true, cases_eq}
use Rattle.std.proofs.lemmas.Option.{same_Some}
use Rattle.std.specs.Ordering.{nat_cmp}
use Rattle.std.specs.FinMap.{FinMap, get, insert, remove}
use Rattle.pif_nodes_model.specs.Table.{NodeLists}
use Rattle.pif_kernel_model.specs.Owners.{HasNoWaiter}
use Rattle.pif_kernel_model.proofs.MapLemmas.{get-insert_same, get-insert_other, get-remove_same, get-remove_other}
use Rattle.pif_kernel_model.specs.States.{States, IsThread, owners_in}
use Rattle.pif_kernel_model.specs.Holds.{HoldsStates}
use Rattle.pif_kernel_model.proofs.ViewLemmas.{waits_on-owners_in}
use Rattle.pif_kernel_model.proofs.WaiterLemmas.{waits-state}
use Rattle.pif_rtmutex.proofs.StateLemmas.{IsStateChange}

-- a number that a map has after an insert it had, or is the new one
pub from_made : (p : FinMap nat_cmp ℕ) (k r j q : ℕ) → get (insert p k r) j ≡ Some q → (get p j ≡ Some q) ⊎ (q ≡ r)
from_made p k r j q e = by_key (cases_eq j k)
  where
    by_key : ((j ≡ k) ⊎ (j ≡ k → ⊥)) → (get p j ≡ Some q) ⊎ (q ≡ r)
    by_key (inl same) = inr (same_Some q r (sym e ∙ get-insert_same p k r j same))
    by_key (inr ne) = inl (sym (get-insert_other p k r j ne) ∙ e)

-- a number that a map has after a removal it had, under another key
pub from_ended : (p : FinMap nat_cmp ℕ) (k j q : ℕ) → get (remove p k) j ≡ Some q → (j ≢ k) × (get p j ≡ Some q)
from_ended p k j q e = by_key (cases_eq j k)
  where
    by_key : ((j ≡ k) ⊎ (j ≡ k → ⊥)) → (j ≢ k) × (get p j ≡ Some q)
    by_key (inl same) = let wrong : None ≡ Some q = sym (get-remove_same p k j same) ∙ e in absurd cc
    by_key (inr ne) = (ne, sym (get-remove_other p k j ne) ∙ e)

pub state-made : (m : States) (t : NodeLists) (k o r : ℕ) → HoldsStates m t → get m.owners k ≡ None → IsThread m o → r < m.threads
    → ((j : ℕ) → get m.places j ≡ Some r → ⊥) → IsStateChange m (insert m.owners k o) (insert m.places k r) k
state-made m t k o r h fresh i low unused =
    record {
      nobody = λ u e. false≢true (subst IsSome fresh (waits-state m t u k h.waiters e));
      owners_kept = λ j ne. get-insert_other m.owners k o j ne;
      places_kept = λ j ne. get-insert_other m.places k r j ne;
      owned = λ p e. subst (IsThread m) (same_Some o p (sym (get-insert_same m.owners k o k refl) ∙ e)) i;
      placed = λ some. (r, get-insert_same m.places k r k refl, low);
      stated = λ q e. subst IsSome (sym (get-insert_same m.owners k o k refl)) refl;
      alone = λ j q ne e f. unused j (f ∙ sym e ∙ get-insert_same m.places k r k refl);
    }

pub state-ended : (m : States) (t : NodeLists) (k : ℕ) → HasNoWaiter (owners_in m t) k
    → IsStateChange m (remove m.owners k) (remove m.places k) k
state-ended m t k free =
    record {
      nobody = λ u e. free u (waits_on-owners_in m t u ∙ e);
      owners_kept = λ j ne. get-remove_other m.owners k j ne;
      places_kept = λ j ne. get-remove_other m.places k j ne;
      owned = λ p e. let wrong : None ≡ Some p = sym (get-remove_same m.owners k k refl) ∙ e in absurd cc;
      placed = λ some. absurd (false≢true (subst IsSome (get-remove_same m.owners k k refl) some));
      stated = λ q e. let wrong : None ≡ Some q = sym (get-remove_same m.places k k refl) ∙ e in absurd cc;
      alone = λ j q ne e f. let wrong : None ≡ Some q = sym (get-remove_same m.places k k refl) ∙ e in absurd cc;
    }
