-- The base and the effective priority of a thread.
use Rattle.std.specs.Prelude.{ℕ, refl}
use Rattle.std.specs.Coded.{Coded, code_by, coded×, coded_ℕ}

-- both, each 0 if it was given none
pub record ThreadPriorities : Type 0 where
  pub base : ℕ
  pub local : ℕ

-- how they are stored
abbrev pub priorities_code : Coded ThreadPriorities
priorities_code =
    code_by (ℕ × ℕ) (coded× coded_ℕ coded_ℕ)
    (λ p. (p.base, p.local)) (λ p. record { base = p.0; local = p.1 }) (λ _. refl)
