-- What `base` and `local` say if they answer a priority, and if they answer none.
use Rattle.std.proofs.Common.{◌≡◌, ◌⊎◌, ◌↔◌, ℕ, ◌<◌, ◌≤◌, Option, None, IsSome, inl, inr, sym, ◌∙◌, ap, arith}
use Rattle.std.specs.Option.{is_some}
use Rattle.std.proofs.lemmas.Bool.{cases_lt, true≢false}

-- who was given no priority has the number 0
pub none_given : (o : Option ℕ) (n : ℕ) → (IsSome o ↔ (1 ≤ n)) → o ≡ None → n ≡ 0
none_given o n h e = by_place (cases_lt 0 n)
  where
    by_place : ((0 < n) ⊎ (n ≤ 0)) → n ≡ 0
    by_place (inl l) = absurd (true≢false (sym (h.1 (omega arith)) ∙ ap is_some e))
    by_place (inr l) = omega arith
