-- The thread of the lowest ticket, of those that were gone through.
use Rattle.std.proofs.Common.{◌≡◌, ◌⊎◌, ℕ, ◌+◌, ◌<◌, ◌≤◌, nat_lt, Bool, true, false, if◌then◌else◌, Option, Some, None, sym, ap, subst, inl, inr, arith}
use Rattle.std.proofs.lemmas.Bool.{cases_eq}
use Rattle.std.proofs.lemmas.Bool.Decides.{nat_tests}
use Rattle.pif_model_lemmas.proofs.Waiting.{by_test}
use Rattle.pif_kernel_model.specs.Tickets.{has_sooner_ticket, HasFirstTicketFrom}

module _ (ticket : ℕ → ℕ) (least : ℕ) where
  pub first-start : HasFirstTicketFrom ticket least 1 None
  first-start u low high = absurd (omega (arith, low, high))

  -- a thread whose ticket is too low
  first-low : (k : ℕ) (first : Option ℕ) → ticket k < least → HasFirstTicketFrom ticket least k first
      → HasFirstTicketFrom ticket least (k + 1) first
  first-low k None low h = below
    where
      below : (u : ℕ) → 1 ≤ u → u < k + 1 → ticket u < least
      below u one l = by_place (cases_eq u k)
        where
          by_place : ((u ≡ k) ⊎ (u ≡ k → ⊥)) → ticket u < least
          by_place (inl same) = subst (λ (x : ℕ). ticket x < least) (sym same) low
          by_place (inr ne) = h u one (omega (arith, l, ne))
  first-low k (Some v) low h = (h.0, omega (arith, h.1), h.2, all)
    where
      all : (u : ℕ) → 1 ≤ u → u < k + 1 → least ≤ ticket u → ticket v ≤ ticket u
      all u one below from = by_place (cases_eq u k)
        where
          by_place : ((u ≡ k) ⊎ (u ≡ k → ⊥)) → ticket v ≤ ticket u
          by_place (inl same) = absurd (omega (arith, from, low, ap ticket same))
          by_place (inr ne) = h.3 u one (omega (arith, below, ne)) from

  -- one that is first so far
  first-new : (k : ℕ) → 1 ≤ k → least ≤ ticket k
      → ((u : ℕ) → 1 ≤ u → u < k → least ≤ ticket u → ticket k ≤ ticket u) → HasFirstTicketFrom ticket least (k + 1) (Some k)
  first-new k one high low = (one, omega arith, high, all)
    where
      all : (u : ℕ) → 1 ≤ u → u < k + 1 → least ≤ ticket u → ticket k ≤ ticket u
      all u one below from = by_place (cases_eq u k)
        where
          by_place : ((u ≡ k) ⊎ (u ≡ k → ⊥)) → ticket k ≤ ticket u
          by_place (inl same) = omega (arith, ap ticket same)
          by_place (inr ne) = low u one (omega (arith, below, ne)) from

  pub first-more : (k : ℕ) (first : Option ℕ) → 1 ≤ k → HasFirstTicketFrom ticket least k first
      → HasFirstTicketFrom ticket least (k + 1) (if has_sooner_ticket ticket least first k then Some k else first)
  first-more k None one h =
      by_test (λ b. HasFirstTicketFrom ticket least (k + 1) (if (if b then false else true) then Some k else None))
      (nat_lt (ticket k) least)
      (λ e. let low : ticket k < least = grind (arith, nat_tests, e) in first-low k None low h)
      (λ e. let high : least ≤ ticket k = grind (arith, nat_tests, e) in
      first-new k one high (λ u l below from. absurd (omega (arith, from, h u l below))))
  first-more k (Some v) one h =
      by_test (λ b. HasFirstTicketFrom ticket least (k + 1)
      (if (if b then false else nat_lt (ticket k) (ticket v)) then Some k else Some v))
      (nat_lt (ticket k) least)
      (λ e. let low : ticket k < least = grind (arith, nat_tests, e) in first-low k (Some v) low h)
      (λ e. let high : least ≤ ticket k = grind (arith, nat_tests, e) in
      by_test (λ b. HasFirstTicketFrom ticket least (k + 1) (if b then Some k else Some v))
      (nat_lt (ticket k) (ticket v))
      (λ f. let sooner : ticket k < ticket v = grind (arith, nat_tests, f) in
      first-new k one high (λ u l below from. omega (arith, sooner, h.3 u l below from)))
      (λ f. let later : ticket v ≤ ticket k = grind (arith, nat_tests, f) in
      (h.0, omega (arith, h.1), h.2, (λ u l below from. at_last later u l below from))))
    where
      at_last : ticket v ≤ ticket k → (u : ℕ) → 1 ≤ u → u < k + 1 → least ≤ ticket u → ticket v ≤ ticket u
      at_last later u l below from = by_place (cases_eq u k)
        where
          by_place : ((u ≡ k) ⊎ (u ≡ k → ⊥)) → ticket v ≤ ticket u
          by_place (inl same) = omega (arith, later, ap ticket same)
          by_place (inr ne) = h.3 u l (omega (arith, below, ne)) from
