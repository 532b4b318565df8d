-- What happens to others at a step, thread by thread.
use Rattle.std.proofs.Common.{◌≡◌, ℕ, suc, ◌+◌, List, ◌++◌, ap, ◌∙◌, arith, append_assoc}
use Rattle.pif_model.specs.Posix.{World}
use Rattle.pif_history_text.specs.Tellings.{if_other, others_below}

-- one thread more
pub others-more : (moving n : ℕ) (w v : World) (old mid new : List ℕ) → mid ≡ old ++ others_below n moving w v
    → new ≡ mid ++ if_other moving n w v → new ≡ old ++ others_below (n + 1) moving w v
others-more moving n w v old mid new e f =
    let next : suc n ≡ n + 1 = omega arith in
    f ∙ (ap (λ (l : List ℕ). l ++ if_other moving n w v) e
    ∙ (append_assoc old (others_below n moving w v) (if_other moving n w v)
    ∙ ap (λ (j : ℕ). old ++ others_below j moving w v) next))
