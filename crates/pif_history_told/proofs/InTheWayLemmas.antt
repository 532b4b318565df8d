-- What a fact is told by, by the numbers that were read of it.
use Rattle.std.proofs.Common.{◌≡◌, ◌∙◌, ℕ, List, ◌++◌, Option, ap, sym}
use Rattle.std.specs.Prelude.{codes}
use Rattle.pif_history_model.specs.declared.facts.Fact.{Fact}
use Rattle.pif_history_model.specs.declared.facts.Fact.TheVariants.{Held, Next, ClosesNoCycle, Awake}
use Rattle.pif_history_told.specs.InTheWay.{fact_words, numbered, thread_words}

pub held_told : (f : Fact) (p : Option ℕ) (m t k n : ℕ) (old new : List ℕ) → f ≡ Held m t → k ≡ m → n ≡ t
    → new ≡ old ++ (numbered (codes "m") k ++ numbered (codes " is held by t") n) → new ≡ old ++ fact_words f p
unfolding fact_words
held_told f p m t k n old new is first second all =
    all ∙ ap (λ (i : ℕ). old ++ (numbered (codes "m") i ++ numbered (codes " is held by t") n)) first
    ∙ ap (λ (i : ℕ). old ++ (numbered (codes "m") m ++ numbered (codes " is held by t") i)) second
    ∙ ap (λ (g : Fact). old ++ fact_words g p) (sym is)

pub next_told : (f : Fact) (p : Option ℕ) (m t k n : ℕ) (old new : List ℕ) → f ≡ Next m t → k ≡ m → n ≡ t
    → new ≡ old ++ (thread_words n p ++ numbered (codes " waits for m") k ++ codes " and is next") → new ≡ old ++ fact_words f p
unfolding fact_words
next_told f p m t k n old new is first second all =
    all ∙ ap (λ (i : ℕ). old ++ (thread_words n p ++ numbered (codes " waits for m") i ++ codes " and is next")) first
    ∙ ap (λ (i : ℕ). old ++ (thread_words i p ++ numbered (codes " waits for m") m ++ codes " and is next")) second
    ∙ ap (λ (g : Fact). old ++ fact_words g p) (sym is)

pub no_cycle_told : (f : Fact) (p : Option ℕ) (m t k n : ℕ) (old new : List ℕ) → f ≡ ClosesNoCycle m t → k ≡ m → n ≡ t
    → new ≡ old ++ (numbered (codes "the owner of m") k ++ numbered (codes " doesn't wait for t") n) → new ≡ old ++ fact_words f p
unfolding fact_words
no_cycle_told f p m t k n old new is first second all =
    all ∙ ap (λ (i : ℕ). old ++ (numbered (codes "the owner of m") i ++ numbered (codes " doesn't wait for t") n)) first
    ∙ ap (λ (i : ℕ). old ++ (numbered (codes "the owner of m") m ++ numbered (codes " doesn't wait for t") i)) second
    ∙ ap (λ (g : Fact). old ++ fact_words g p) (sym is)

pub awake_told : (f : Fact) (p : Option ℕ) (t n : ℕ) (old new : List ℕ) → f ≡ Awake t → n ≡ t
    → new ≡ old ++ (numbered (codes "t") n ++ codes " isn't blocked") → new ≡ old ++ fact_words f p
unfolding fact_words
awake_told f p t n old new is first all =
    all ∙ ap (λ (i : ℕ). old ++ (numbered (codes "t") i ++ codes " isn't blocked")) first
    ∙ ap (λ (g : Fact). old ++ fact_words g p) (sym is)
