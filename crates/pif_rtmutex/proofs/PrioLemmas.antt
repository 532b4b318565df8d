-- What is read of a priority, or of none.
use Rattle.std.proofs.Common.{◌≡◌, ◌↔◌, ℕ, ◌≤◌, Option, Some, None, IsSome, IfSome, unwrap_or, refl, arith}
use Rattle.std.proofs.lemmas.Bool.{false≢true}
use Rattle.pif_kernel_model.specs.Owners.{IsPrio}

-- a priority, or none, by its number
pub prio-given : (o : Option ℕ) (n : ℕ) → IsPrio o → unwrap_or o 0 ≡ n → IsSome o ↔ (1 ≤ n)
prio-given None n h e = (λ f. absurd (false≢true f), λ l. absurd (omega (arith, e)))
prio-given (Some p) n h e = (λ f. omega (arith, e, h.0), λ l. refl)

pub prio-value : (o : Option ℕ) (n : ℕ) → unwrap_or o 0 ≡ n → IfSome o (λ p. p ≡ n)
prio-value None n e = tt
prio-value (Some p) n e = e

pub prio-most : (o : Option ℕ) (n : ℕ) → IsPrio o → unwrap_or o 0 ≡ n → n ≤ 99
prio-most None n h e = omega (arith, e)
prio-most (Some p) n h e = omega (arith, e, h.1)
