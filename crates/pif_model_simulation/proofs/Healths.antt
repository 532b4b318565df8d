-- What a health word and OWNER_DIED say of a mutex's health.
use Rattle.std.proofs.Common.{◌≡◌, ◌≢◌, ℕ, Bool, true, false, ◌==◌, refl, sym, ap, ◌∙◌, if◌then◌else◌, eqb-true}
use Rattle.std.proofs.lemmas.Bool.{true≢false, eqb-false}
use Rattle.pif_model.specs.Posix.{Health}
use Rattle.pif_model.specs.World.Health.{Fine, Inconsistent, Unusable}
use Rattle.pif_model.specs.Projection.{health_of}
use Rattle.pif_model_lemmas.proofs.Waiting.{by_test}

-- a fact on a health, by the health word and OWNER_DIED
pub health-cases : (P : Health → Type 0) (h : ℕ) (d : Bool) → (h ≡ 2 → P Unusable) → (h ≡ 1 → P Inconsistent)
    → (h ≢ 2 → h ≢ 1 → d ≡ true → P Inconsistent) → (h ≢ 2 → h ≢ 1 → d ≡ false → P Fine) → P (health_of h d)
health-cases P h d unusable inconsistent behind fine =
    by_test (λ b. P (if b then Unusable else (if h == 1 then Inconsistent else (if d then Inconsistent else Fine))))
    (h == 2) (λ e. unusable (eqb-true h 2 e))
    (λ e. by_test (λ b. P (if b then Inconsistent else (if d then Inconsistent else Fine)))
    (h == 1) (λ f. inconsistent (eqb-true h 1 f))
    (λ f. by_test (λ b. P (if b then Inconsistent else Fine)) d
    (behind (eqb-false h 2 e) (eqb-false h 1 f)) (fine (eqb-false h 2 e) (eqb-false h 1 f))))

-- the three differ
pub fine_not_inconsistent : Fine ≢ Inconsistent
fine_not_inconsistent e = absurd (cc)

pub fine_not_unusable : Fine ≢ Unusable
fine_not_unusable e = absurd (cc)

pub inconsistent_not_unusable : Inconsistent ≢ Unusable
inconsistent_not_unusable e = absurd (cc)

-- health word 2 says Unusable, and 1 Inconsistent
pub health-unusable : (h : ℕ) (d : Bool) → h ≡ 2 → health_of h d ≡ Unusable
health-unusable h d e = ap (λ x. health_of x d) e

pub health-inconsistent : (h : ℕ) (d : Bool) → h ≡ 1 → health_of h d ≡ Inconsistent
health-inconsistent h d e = ap (λ x. health_of x d) e

-- a mutex whose owner ended is Inconsistent, unless it is Unusable
pub health-behind : (h : ℕ) (d : Bool) → h ≢ 2 → d ≡ true → health_of h d ≡ Inconsistent
health-behind h d n e = health-cases (λ x. x ≡ Inconsistent) h d (λ f. absurd (n f)) (λ f. refl) (λ f g i. refl)
    (λ f g i. absurd (true≢false (sym e ∙ i)))

-- with neither it is Fine
pub health-fine : (h : ℕ) (d : Bool) → h ≢ 2 → h ≢ 1 → d ≡ false → health_of h d ≡ Fine
health-fine h d n m e = health-cases (λ x. x ≡ Fine) h d (λ f. absurd (n f)) (λ f. absurd (m f))
    (λ f g i. absurd (true≢false (sym i ∙ e))) (λ f g i. refl)

-- what an Unusable mutex has
pub unusable-word : (h : ℕ) (d : Bool) → health_of h d ≡ Unusable → h ≡ 2
unusable-word h d = health-cases (λ x. x ≡ Unusable → h ≡ 2) h d (λ f e. f)
    (λ f e. absurd (inconsistent_not_unusable e)) (λ f g i e. absurd (inconsistent_not_unusable e))
    (λ f g i e. absurd (fine_not_unusable e))

-- what a Fine one has not
pub fine-undied : (h : ℕ) (d : Bool) → health_of h d ≡ Fine → d ≡ false
fine-undied h d = health-cases (λ x. x ≡ Fine → d ≡ false) h d (λ f e. absurd (fine_not_unusable (sym e)))
    (λ f e. absurd (fine_not_inconsistent (sym e))) (λ f g i e. absurd (fine_not_inconsistent (sym e)))
    (λ f g i e. i)

-- what an Inconsistent one has
pub inconsistent-word : (h : ℕ) (d : Bool) → d ≡ false → health_of h d ≡ Inconsistent → h ≡ 1
inconsistent-word h d u = health-cases (λ x. x ≡ Inconsistent → h ≡ 1) h d
    (λ f e. absurd (inconsistent_not_unusable (sym e))) (λ f e. f) (λ f g i e. absurd (true≢false (sym i ∙ u)))
    (λ f g i e. absurd (fine_not_inconsistent e))
