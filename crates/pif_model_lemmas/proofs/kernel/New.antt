-- A kernel to which nothing was added keeps what a kernel keeps.
use Rattle.std.proofs.Common.{◌≡◌, ◌≢◌, ◌⊎◌, ℕ, zero, suc, ◌<◌, ◌≤◌, false, ◌==◌, eqb, [], length, get_or, replicate, refl, sym, ap, ◌∙◌, subst, arith, true≢false, inl, inr}
use Rattle.std.specs.List.{IsDistinct}
use Rattle.std.proofs.lemmas.Bool.{cases_eq, cases_lt, false_from_ne_true}
use Rattle.std.proofs.lemmas.List.{get_or_past, get_or-replicate, length-replicate}
use Rattle.pif_types.specs.Bounds.{Bounds}
use Rattle.pif_model.specs.declared.lines.Status.TheVariants.{Ready, Queued, Parked}
use Rattle.pif_model.specs.declared.lines.Woken.TheVariants.{Fresh as WokenFresh}
use Rattle.pif_model.specs.PiKernel.{Seat, IsKernel, no_seat, no_states, seat_at, has_seat, level_at, levels_by, new_kernel, is_among, effective_in}
use Rattle.pif_model_lemmas.proofs.Numbers.{within}
use Rattle.pif_model_lemmas.proofs.kernel.Numbers.{distinct-none}
use Rattle.pif_model_lemmas.proofs.kernel.Levels.{level-by, level-by_none, level-by_past, length-levels_by}
use Rattle.pif_model_lemmas.proofs.kernel.Settled.{IsUnsettled, kernel-from_listed}
use Rattle.pif_model_lemmas.proofs.kernel.Listed.{stands-unadded}

-- a list of the same number
same_at : (n m x : ℕ) → get_or (replicate n x) m x ≡ x
same_at n m x = go (cases_lt m n)
  where
    go : (m < n) ⊎ (n ≤ m) → get_or (replicate n x) m x ≡ x
    go (inl l) = get_or-replicate n m x x l
    go (inr g) = get_or_past (replicate n x) m x (omega (arith, length-replicate n x))

-- no mutex has an owner state
pub no_state : (m : ℕ) → get_or no_states m 0 ≡ 0
unfolding no_states
no_state m = same_at 1025 m 0

-- there is a place for each
pub length-no_states : length no_states ≡ 1025
unfolding no_states
length-no_states = length-replicate {A = ℕ} 1025 0

-- no level has a thread
pub no_level : (p : ℕ) → level_at (levels_by (λ p. [])) p ≡ []
no_level p = go (cases_eq p 0) (cases_lt p 100)
  where
    go : (p ≡ 0) ⊎ (p ≢ 0) → (p < 100) ⊎ (100 ≤ p) → level_at (levels_by (λ p. [])) p ≡ []
    go (inl z) c = ap (level_at (levels_by (λ p. []))) z ∙ level-by_none (λ p. [])
    go (inr d) (inl l) = level-by (λ p. []) p (omega arith) (omega arith)
    go (inr d) (inr g) = level-by_past (λ p. []) p g

-- there is nobody
nobody : (l : Bounds) (u : ℕ) → seat_at (new_kernel l) u ≡ no_seat
nobody l zero = refl
nobody l (suc u) = refl

-- nobody was added
pub none_added : (l : Bounds) (u : ℕ) → has_seat (new_kernel l) u ≡ false
none_added l u = false_from_ne_true (has_seat (new_kernel l) u) (λ e. let r = within u 1 e in omega (arith, r.0, r.1))

-- nobody is queued
none_queued : (l : Bounds) (u m : ℕ) → (seat_at (new_kernel l) u).status ≡ Queued m → ⊥
none_queued l u m e = let both : Ready WokenFresh ≡ Queued m = sym (ap (λ (x : Seat). x.status) (nobody l u)) ∙ e in cc

-- nor parked
none_parked : (l : Bounds) (u c : ℕ) → (seat_at (new_kernel l) u).status ≡ Parked c → ⊥
none_parked l u c e = let both : Ready WokenFresh ≡ Parked c = sym (ap (λ (x : Seat). x.status) (nobody l u)) ∙ e in cc

-- all but the levels
unsettled-new : (l : Bounds) → IsUnsettled (new_kernel l)
unfolding IsDistinct
unsettled-new l = record {
  shape = record {
    some = omega arith;
    few = omega arith;
    nobody = refl;
    priorities = λ t e. absurd (true≢false (sym e ∙ none_added l t));
    states = length-no_states;
    no_mutex = no_state 0;
    levels = length-levels_by (λ p. []);
  };
  queue = λ u m e. absurd (true≢false (sym e));
  queued = λ u m e. absurd (none_queued l u m e);
  once = tt;
  parking = record {
    status = λ u c e. absurd (true≢false (sym e));
    parked = λ u c e. absurd (none_parked l u c e);
    once = tt;
  };
  states = λ m. ap (λ n. n == 0) (no_state m);
  owners = λ m n. absurd (n (no_state m));
  acyclic = λ u n. absurd (n (no_state _));
}

pub kernel-new : (l : Bounds) → IsKernel (new_kernel l)
kernel-new l = kernel-from_listed (new_kernel l) (unsettled-new l) (record {
  on = λ t p. ap (λ xs. is_among xs t) (no_level p)
      ∙ sym (stands-unadded (new_kernel l) (effective_in (new_kernel l)) t p (none_added l t));
  range = λ t e. absurd (true≢false (sym e ∙ none_added l t));
  once = λ p. subst (IsDistinct eqb) (sym (no_level p)) distinct-none;
})
