-- A line of a trace is cut at its first mark.
use Rattle.std.proofs.Common.{◌≡◌, ℕ, ◌+◌, ◌<◌, ◌==◌, zero, suc, List, [], ◌∷◌, Option, None, Some, true, false, length, get_or, take, drop, refl, ap, ◌∙◌, add-one, arith, option_map, bytes_eq, codes}
use Rattle.std.proofs.lemmas.Bool.Decides.{nat_tests}
use Rattle.pif_text_model.specs.Traces.{parts_of, is_marked}

-- a byte before what was cut
abbrev pub onto : ℕ → Option (List ℕ × List ℕ) → Option (List ℕ × List ℕ)
onto byte o = option_map (λ parts. (byte ∷ parts.0, parts.1)) o

pub marked_here : (byte : ℕ) (more : List ℕ) → is_marked byte more ≡ true → parts_of (byte ∷ more) ≡ Some ([], drop 2 more)
unfolding parts_of
marked_here byte more e = rw e refl

pub unmarked_here : (byte : ℕ) (more : List ℕ) → is_marked byte more ≡ false → parts_of (byte ∷ more) ≡ onto byte (parts_of more)
unfolding parts_of
unmarked_here byte more e = rw e refl

at_mark : (line : List ℕ) (i : ℕ) → i < length line → is_marked (get_or line i 0) (drop (suc i) line) ≡ true
    → ((k : ℕ) → k < i → is_marked (get_or line k 0) (drop (suc k) line) ≡ false) → parts_of line ≡ Some (take i line, drop (suc (suc (suc i))) line)
at_mark [] i lt here before = absurd (omega arith)
at_mark (x ∷ xs) zero lt here before = marked_here x xs here
at_mark (x ∷ xs) (suc i) lt here before =
    unmarked_here x xs (before 0 (omega arith)) ∙ ap (onto x) (at_mark xs i (omega arith) here (λ k h. before (suc k) (omega arith)))

no_mark : (line : List ℕ) → ((k : ℕ) → k < length line → is_marked (get_or line k 0) (drop (suc k) line) ≡ false) → parts_of line ≡ None
unfolding parts_of
no_mark [] none = refl
no_mark (x ∷ xs) none = unmarked_here x xs (none 0 (omega arith)) ∙ ap (onto x) (no_mark xs (λ k h. none (suc k) (omega arith)))

starts_mark : (byte : ℕ) (more : List ℕ) → byte ≡ 32 → bytes_eq (codes "= ") (take 2 more) ≡ true → is_marked byte more ≡ true
starts_mark byte more e f =
    let space : (byte == 32) ≡ true = grind (arith, nat_tests) in
    rw (space, f) refl

-- a line with a first ` = `
pub parts_of-marked : (line : List ℕ) (i : ℕ) → i < length line → get_or line i 0 ≡ 32 → bytes_eq (codes "= ") (take 2 (drop (i + 1) line)) ≡ true
    → ((k : ℕ) → k < i → is_marked (get_or line k 0) (drop (k + 1) line) ≡ false) → parts_of line ≡ Some (take i line, drop (i + 3) line)
parts_of-marked line i lt space equals before =
    let place : i + 3 ≡ suc (suc (suc i)) = omega arith in
    let here = starts_mark (get_or line i 0) (drop (i + 1) line) space equals in
    rw place (at_mark line i lt (rw add-one at here) (λ k h. let one = before k h in rw add-one at one))

-- a line with none
pub parts_of-unmarked : (line : List ℕ) → ((k : ℕ) → k < length line → is_marked (get_or line k 0) (drop (k + 1) line) ≡ false) → parts_of line ≡ None
parts_of-unmarked line none = no_mark line (λ k h. let one = none k h in rw add-one at one)
