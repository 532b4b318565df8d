-- Texts that grow by parts.
use Rattle.std.proofs.Common.{ℕ, ◌≡◌, ◌∙◌, List, ◌++◌, refl}
use Rattle.std.proofs.lemmas.List.{append_assoc}

-- three parts more, and five
three_more : (out one two new a b c d : List ℕ) → one ≡ out ++ a → two ≡ one ++ b → new ≡ two ++ c → c ≡ d
    → new ≡ out ++ (a ++ (b ++ d))
three_more out one two new a b c d e f g h =
    g ∙ ((λ i. f i ++ h i) ∙ ((λ i. (e i ++ b) ++ d) ∙ (append_assoc (out ++ a) b d ∙ append_assoc out a (b ++ d))))

pub five_more : (out one two three four new a b c d e : List ℕ) → one ≡ out ++ a → two ≡ one ++ b → three ≡ two ++ c → four ≡ three ++ d
    → new ≡ four ++ e → new ≡ out ++ (a ++ (b ++ (c ++ (d ++ e))))
five_more out one two three four new a b c d e ea eb ec ed ee =
    three_more out one two new a b (c ++ (d ++ e)) (c ++ (d ++ e)) ea eb
    (three_more two three four new c d e e ec ed ee refl) refl
