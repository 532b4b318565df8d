-- Parked threads fit to the owner states still, whatever a call changes of those that are not parked.
use Rattle.std.proofs.Common.{◌≡◌, ◌≢◌, ◌⊎◌, ℕ, Option, Some, None, IsSome, refl, sym, ap, ◌∙◌, subst, inl, inr, arith}
use Rattle.std.proofs.lemmas.Bool.{false≢true}
use Rattle.std.specs.FinMap.{FinMap}
use Rattle.std.specs.Ordering.{nat_cmp}
use Rattle.pif_kernel_model.specs.Owners.{Owners, Task, task_at, state_of, waits_on, with_task, with_base}
use Rattle.pif_kernel_model.proofs.OwnersLemmas.{task_at-with_task, task_at-with_task_other}
use Rattle.pif_kernel_model.specs.Boosts.{local_of}
use Rattle.pif_kernel_model.specs.Parked.{Parked}
use Rattle.pif_chains_linked.specs.Linked.{FitsParked}

module _ (v : Owners) (at : ℕ → Option Parked) (n next : ℕ) (h : FitsParked v at n next) where
  -- who is parked is another than one who is not
  other : (t u : ℕ) (x : Parked) → at t ≡ None → at u ≡ Some x → u ≢ t
  other t u x none e same = let wrong : None ≡ Some x = sym none ∙ ap at (sym same) ∙ e in absurd cc

  -- each parked thread has the effective priority that it had, and waits for nothing still
  pub fits_as : (v' : Owners) → ((u : ℕ) (x : Parked) → at u ≡ Some x → (local_of v' u ≡ local_of v u)
      × (waits_on v' u ≡ waits_on v u)) → FitsParked v' at n next
  fits_as v' same = record {
    parked = h.parked;
    ranked = λ u x e. h.ranked u x e ∙ sym (same u x e).0;
    idle = λ u x e. (same u x e).1 ∙ h.idle u x e;
    admitted = λ u x e. omega (arith, h.admitted u x e, (same u x e).0);
  }

  -- one who is not parked got another seat
  pub fits_but : (t : ℕ) (s : Task) → at t ≡ None → FitsParked (with_task t s v) at n next
  fits_but t s none =
      fits_as (with_task t s v) (λ u x e.
      let same : task_at (with_task t s v) u ≡ task_at v u = task_at-with_task_other t s v u (other t u x none e) in
      (ap (λ (y : Task). y.local) same, ap state_of same))

  -- a state got another owner, was made, or ended
  pub fits_owned : (owners : FinMap nat_cmp ℕ) → FitsParked (record v { owners = owners }) at n next
  fits_owned owners = fits_as (record v { owners = owners }) (λ u x e. (refl, refl))

  -- one got another base priority
  pub fits_based : (t prio : ℕ) → FitsParked (with_base t prio v) at n next
  fits_based t prio = fits_as (with_base t prio v) (λ u x e. by_seat u (task_at-with_task t (record (task_at v t) { base = prio }) v u))
    where
      by_seat : (u : ℕ) → ((u ≡ t) × (task_at (with_base t prio v) u ≡ record (task_at v t) { base = prio }))
          ⊎ (task_at (with_base t prio v) u ≡ task_at v u)
          → (local_of (with_base t prio v) u ≡ local_of v u) × (waits_on (with_base t prio v) u ≡ waits_on v u)
      by_seat u (inl a) =
          (ap (λ (y : Task). y.local) a.1 ∙ ap (local_of v) (sym a.0), ap state_of a.1 ∙ ap (waits_on v) (sym a.0))
      by_seat u (inr same) = (ap (λ (y : Task). y.local) same, ap state_of same)

  -- who waits is not parked
  pub waits_unparked : (t k : ℕ) → waits_on v t ≡ Some k → at t ≡ None
  waits_unparked t k waits = by_at (at t) refl
    where
      by_at : (o : Option Parked) → at t ≡ o → at t ≡ None
      by_at None e = e
      by_at (Some x) e = let wrong : None ≡ Some k = sym (h.idle t x e) ∙ waits in absurd cc

  pub waiting_unparked : (t : ℕ) → IsSome (waits_on v t) → at t ≡ None
  waiting_unparked t waits = by_at (at t) refl
    where
      by_at : (o : Option Parked) → at t ≡ o → at t ≡ None
      by_at None e = e
      by_at (Some x) e = absurd (false≢true (subst IsSome (h.idle t x e) waits))

-- the same of owner states and parked threads that are the same
pub fits_moved : (v v' : Owners) (at now : ℕ → Option Parked) (n k next : ℕ) → v' ≡ v → ((u : ℕ) → now u ≡ at u) → k ≡ n
    → FitsParked v at n next → FitsParked v' now k next
fits_moved v v' at now n k next owners same count =
    subst (λ (x : Owners × ((ℕ → Option Parked) × ℕ)). FitsParked x.0 x.1.0 x.1.1 next)
    (λ i. (sym owners i, ((λ u. sym (same u) i), sym count i)))
