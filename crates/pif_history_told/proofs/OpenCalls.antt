-- Which call is open after a line, one line back.
use Rattle.std.proofs.Common.{◌≡◌, ℕ, ◌-◌, ◌+◌, ◌<◌, ◌≤◌, arith, List, ◌∷◌, Some, [], length, get_or, reverse, take, sym, ap, ◌∙◌}
use Rattle.std.proofs.lemmas.List.{reverse-append, take_more}
use Rattle.pif_history_model.specs.declared.lines.Line.{Line}
use Rattle.pif_history_text.specs.Histories.{Heard}
use Rattle.pif_history_told.specs.declared.telling.Says.{Says}
use Rattle.pif_history_told.specs.Why.{open_behind, open_call, open_of, said_of}

-- one item more
more : {X : Type 0} (xs : List X) (i : ℕ) (x : X) → i < length xs → reverse (take (i + 1) xs) ≡ get_or xs i x ∷ reverse (take i xs)
more {X} xs i x within =
    ap (λ (ys : List X). reverse ys) (take_more xs i x within) ∙ reverse-append (take i xs) (get_or xs i x ∷ [])

open-more : (h : Heard) (t i : ℕ) (line : Line) (says : Says) → i < length h.shown → i < length h.numbers
    → line ≡ get_or h.shown i line → says ≡ said_of t line
    → open_of (Some t) h (i + 1) ≡ open_behind t (get_or h.numbers i 0) says (open_of (Some t) h i)
open-more h t i line says a b is e =
    let ns = reverse (take i h.numbers) in
    let n = get_or h.numbers i 0 in
    ap (λ (lines : List Line). open_call t lines (reverse (take (i + 1) h.numbers))) (more h.shown i line a)
    ∙ (ap (λ (z : Line). open_call t (z ∷ reverse (take i h.shown)) (reverse (take (i + 1) h.numbers))) (sym is)
    ∙ (ap (λ (numbers : List ℕ). open_call t (line ∷ reverse (take i h.shown)) numbers) (more h.numbers i 0 b)
    ∙ ap (λ (z : Says). open_behind t n z (open_call t (reverse (take i h.shown)) ns)) (sym e)))

-- one line back
pub open-back : (h : Heard) (t before left : ℕ) (line : Line) (says : Says) → 0 < left → left ≤ before → before ≤ length h.shown
    → length h.numbers ≡ length h.shown → line ≡ get_or h.shown (left - 1) line → says ≡ said_of t line
    → open_of (Some t) h before ≡ open_of (Some t) h left
    → open_of (Some t) h before ≡ open_behind t (get_or h.numbers (left - 1) 0) says (open_of (Some t) h (left - 1))
open-back h t before left line says some within all paired is e so_far =
    let one : left ≡ left - 1 + 1 = omega (arith, some) in
    so_far
    ∙ (ap (λ (n : ℕ). open_of (Some t) h n) one
    ∙ open-more h t (left - 1) line says (omega (arith, some, within, all)) (omega (arith, some, within, all, paired)) is e)
