-- What is told of parts in a text.
use Rattle.std.proofs.Common.{ℕ, ◌≡◌, ◌∙◌, ◌+◌, ◌<◌, true, List, [], ◌∷◌, ◌++◌, ap, arith, bytes_eq, drop, get_or, length, refl, subst, sym, take}
use Rattle.std.proofs.lemmas.Slice.Eq.{bytes_eq-Decides}
use Rattle.std.proofs.lemmas.List.{length-take-le, take-append-drop, take_more}
use Rattle.pif_parts.specs.declared.joining.PartVerdict.{PartVerdict}
use Rattle.pif_parts.specs.declared.joining.PartVerdict.TheVariants as part
use Rattle.pif_parts.specs.declared.parts.Span.{Span}
use Rattle.pif_job_parts.specs.declared.told.Told.{Told}
use Rattle.pif_job_parts.specs.Told.{AreTold, IsBy, IsTold, Stands, told_text}

-- bytes that stand at a place of a text
pub at_place : (text told rest : List ℕ) (place : ℕ) → drop place text ≡ told ++ rest → Stands text told
at_place text told rest place e =
    (take place text, rest, sym (take-append-drop place text) ∙ ap (λ (xs : List ℕ). take place text ++ xs) e)

-- the same, as it is tested
pub begins_there : (text told : List ℕ) (place : ℕ) → bytes_eq told (take (length told) (drop place text)) ≡ true
    → Stands text told
begins_there text told place e =
    let rest : List ℕ = drop (length told) (drop place text) in
    let same : told ≡ take (length told) (drop place text) = (bytes_eq-Decides told (take (length told) (drop place text))).0 e in
    at_place text told rest place
    (sym (take-append-drop (length told) (drop place text)) ∙ ap (λ (xs : List ℕ). xs ++ rest) (sym same))

-- what stands in a text, as what is told of a part
pub told_by : (text : List ℕ) (t : Told) (s : Span) (v : PartVerdict) → IsBy t s v → Stands text (told_text t)
    → IsTold text t.part s v
told_by text t s part.Legal by stands = (t, refl, by, stands)
told_by text t s (part.Illegal n) by stands = (t, refl, by, stands)
told_by text t s part.Undecided by stands = tt

-- one part more
next_told : (text : List ℕ) (k : ℕ) (ss : List Span) (vs : List PartVerdict) (s : Span) (v : PartVerdict) → AreTold text k ss vs
    → IsTold text (length ss + k + 1) s v → AreTold text k (ss ++ s ∷ []) (vs ++ v ∷ [])
next_told text k [] [] s v all one = (subst (λ (n : ℕ). IsTold text n s v) (omega arith) one, tt)
next_told text k [] (w ∷ vs) s v all one = absurd all
next_told text k (q ∷ ss) [] s v all one = absurd all
next_told text k (q ∷ ss) (w ∷ vs) s v all one =
    (all.0, next_told text (k + 1) ss vs s v all.1 (subst (λ (n : ℕ). IsTold text n s v) (omega arith) one))

-- the first parts, and one more
pub told_more : (text : List ℕ) (ss : List Span) (n : ℕ) (d : Span) → n < length ss → (vs ws : List PartVerdict) (v : PartVerdict)
    → AreTold text 0 (take n ss) vs → IsTold text (n + 1) (get_or ss n d) v → ws ≡ vs ++ v ∷ [] → AreTold text 0 (take (n + 1) ss) ws
told_more text ss n d le vs ws v all one is =
    subst (λ (us : List PartVerdict). AreTold text 0 (take (n + 1) ss) us) (sym is)
    (subst (λ (qs : List Span). AreTold text 0 qs (vs ++ v ∷ [])) (sym (take_more ss n d le))
    (next_told text 0 (take n ss) vs (get_or ss n d) v all
    (subst (λ (k : ℕ). IsTold text k (get_or ss n d) v) (omega (arith, length-take-le n ss (omega (arith, le)))) one)))
