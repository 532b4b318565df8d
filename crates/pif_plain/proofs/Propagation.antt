-- A priority is propagated along a chain, hop by hop, if the threads have the numbers below n.
use Rattle.std.proofs.Common.{◌≡◌, ◌≢◌, ◌⊎◌, ◌<◌, ◌≤◌, ◌+◌, ℕ, zero, suc, max, Bool, true, false, List, length, replicate, get_or, set, Option, Some, None, refl, sym, ap, ◌∙◌, inl, inr, if◌then◌else◌, arith, length-set}
use Rattle.std.specs.Prelude.{unwrap_or}
use Rattle.std.proofs.lemmas.Bool.{cases_eq, cases_lt, eq-eqb, ne_eqb}
use Rattle.std.proofs.lemmas.List.{get_or-set_same, get_or-set_other, get_or-replicate, get_or_past, length-replicate}
use Rattle.pif_model.specs.Graph.{reaches_within, greatest_where}
use Rattle.pif_model_lemmas.proofs.Following.{greatest_more, greatest_same}
use Rattle.pif_kernel_model.specs.Boosts.{priority_at, after_propagation}

-- what is to stand by u once a priority was propagated from `at` over so many hops more
pub still_handed : ℕ → (ℕ → ℕ) → ℕ → ℕ → (ℕ → ℕ) → ℕ → ℕ
still_handed zero waits_for priority at now u = now u
still_handed (suc hops) waits_for priority at now u = after_propagation hops waits_for priority at now u

-- it was propagated to `at`, and to nobody else
pub record IsHandedTo (n priority at : ℕ) (now after : ℕ → ℕ) : Type 0 where
  pub here : (u : ℕ) → u < n → u ≡ at → after u ≡ max priority (now u)
  pub others : (u : ℕ) → u < n → u ≢ at → after u ≡ now u

-- a place in a list is set to what is propagated to it
pub handed-set : (n p at : ℕ) (xs ys : List (Option ℕ)) → n ≤ length ys
    → ys ≡ set xs at (Some (max p (priority_at xs at)))
    → IsHandedTo n p at (priority_at xs) (priority_at ys)
handed-set n p at xs ys long is =
    record {
      here = λ u l same.
          ap (λ zs. priority_at zs u) is ∙ ap (priority_at (set xs at (Some most))) same
          ∙ ap (λ (o : Option ℕ). unwrap_or o 0)
          (get_or-set_same xs at (Some most) None (omega (arith, same, ap length is, length-set xs at (Some most))))
          ∙ ap (λ x. max p (priority_at xs x)) (sym same);
      others = λ u l ne. ap (λ zs. priority_at zs u) is
          ∙ ap (λ (o : Option ℕ). unwrap_or o 0) (get_or-set_other xs at u (Some most) None ne);
    }
  where
    most : ℕ
    most = max p (priority_at xs at)

module _ (n : ℕ) (w : ℕ → ℕ) (p at : ℕ) (now after : ℕ → ℕ) (h : IsHandedTo n p at now after) (u : ℕ) (l : u < n) where
  -- to propagate it to where it was propagated already changes nothing
  again : (b : Bool) → u ≡ at → (if b then max p (after u) else after u) ≡ max p (now u)
  again true e = ap (max p) (h.here u l e) ∙ omega arith
  again false e = h.here u l e

  -- one hop more
  handed-hop : (k : ℕ) → w at ≢ 0 → ((u ≡ at) ⊎ (u ≢ at))
      → after_propagation k w p (w at) after u ≡ after_propagation (suc k) w p at now u
  unfolding reaches_within
  handed-hop k some (inl e) = again (reaches_within k w (w at) u) e ∙ sym (rw (eq-eqb at u (sym e)) refl)
  handed-hop k some (inr ne) =
      ap (λ x. if reaches_within k w (w at) u then max p x else x) (h.others u l ne)
      ∙ sym (rw (ne_eqb at u (λ e. ne (sym e)), ne_eqb (w at) 0 some) refl)

  -- the last hop
  handed-last : ((u ≡ at) ⊎ (u ≢ at)) → after u ≡ after_propagation zero w p at now u
  unfolding reaches_within
  handed-last (inl e) = h.here u l e ∙ sym (rw (eq-eqb at u (sym e)) refl)
  handed-last (inr ne) = h.others u l ne ∙ sym (rw (ne_eqb at u (λ e. ne (sym e))) refl)

  -- who waits for nobody propagates to nobody
  handed-end : (k : ℕ) → w at ≡ 0 → ((u ≡ at) ⊎ (u ≢ at)) → after u ≡ after_propagation k w p at now u
  unfolding reaches_within
  handed-end zero none c = handed-last c
  handed-end (suc k) none (inl e) = h.here u l e ∙ sym (rw (eq-eqb at u (sym e)) refl)
  handed-end (suc k) none (inr ne) = h.others u l ne ∙ sym (rw (ne_eqb at u (λ e. ne (sym e)), eq-eqb (w at) 0 none) refl)

  -- to somebody else
  pub still_handed-hop : (k : ℕ) → w at ≢ 0 → still_handed k w p (w at) after u ≡ still_handed (suc k) w p at now u
  unfolding still_handed
  still_handed-hop zero some = handed-last (cases_eq u at)
  still_handed-hop (suc k) some = handed-hop k some (cases_eq u at)

  -- to nobody else
  pub still_handed-end : (k : ℕ) → w at ≡ 0 → after u ≡ still_handed (suc k) w p at now u
  unfolding still_handed
  still_handed-end k none = handed-end k none (cases_eq u at)

-- before the first hop
pub still_handed-all : (n k : ℕ) (w : ℕ → ℕ) (p at : ℕ) (now : ℕ → ℕ) (u : ℕ) → k ≡ suc n
    → still_handed k w p at now u ≡ after_propagation n w p at now u
unfolding still_handed
still_handed-all n k w p at now u e = ap (λ hops. still_handed hops w p at now u) e

-- after the last
pub still_handed-done : (k : ℕ) (w : ℕ → ℕ) (p at : ℕ) (now : ℕ → ℕ) (u : ℕ) → k ≡ 0 → still_handed k w p at now u ≡ now u
unfolding still_handed
still_handed-done k w p at now u e = ap (λ hops. still_handed hops w p at now u) e

-- once each number below k propagated its base priority, the greatest that came to u
abbrev pub handed_by : ℕ → ℕ → (ℕ → ℕ) → (ℕ → ℕ) → ℕ → ℕ
handed_by k n waits_for base u = greatest_where (λ x. reaches_within n waits_for x u) base k

-- one number more
pub handed_by-more : (k t n : ℕ) (w b now : ℕ → ℕ) (u : ℕ) → t ≡ k → now u ≡ handed_by k n w b u
    → after_propagation n w (b t) t now u ≡ handed_by (k + 1) n w b u
handed_by-more k t n w b now u e is = ap (λ x. after_propagation n w (b x) x now u) e
    ∙ by_test (reaches_within n w k u) refl
  where
    by_test : (x : Bool) → reaches_within n w k u ≡ x → after_propagation n w (b k) k now u ≡ handed_by (k + 1) n w b u
    by_test true reached = rw reached (greatest_more (λ x. reaches_within n w x u) b k (now u) is reached)
    by_test false apart = rw apart (greatest_same (λ x. reaches_within n w x u) b k (now u) is apart)

-- no priority changes nothing
pub propagation-none : (n p t : ℕ) (w now : ℕ → ℕ) (u : ℕ) → p ≡ 0 → now u ≡ after_propagation n w p t now u
propagation-none n p t w now u e = by_test (reaches_within n w t u)
  where
    by_test : (x : Bool) → now u ≡ (if x then max p (now u) else now u)
    by_test true = omega arith
    by_test false = refl

-- nothing stands anywhere yet
pub nothing_at : (n t : ℕ) → priority_at (replicate n None) t ≡ 0
nothing_at n t = ap (λ (o : Option ℕ). unwrap_or o 0) (by_place (cases_lt t n))
  where
    by_place : ((t < n) ⊎ (n ≤ t)) → ◌≡◌ {A = Option ℕ} (get_or (replicate n None) t None) None
    by_place (inl l) = get_or-replicate n t None None l
    by_place (inr l) = get_or_past (replicate n None) t None (omega (arith, length-replicate {A = Option ℕ} n None))
