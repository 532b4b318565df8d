-- Mutexes that look free, one after another, and get their owners back.
use Rattle.std.proofs.Common.{ℕ, ◌≡◌, ◌<◌, ◌+◌, ◌∙◌, List, [], ◌∷◌, ◌++◌, length, get_or, take, map, refl, sym, ap, arith}
use Rattle.std.proofs.lemmas.List.{take_more}
use Rattle.pif_model.specs.Posix.{World, mutex_at}
use Rattle.pif_rules_model.specs.Lending.{with_owner, looking_free, owned_as_in}
use Rattle.pif_rules_model.specs.Rules.{Wide, seen_by_lending, owned_as_before}
use Rattle.pif_rules_model.specs.Ruled.{seeing_lending}

looking_free-append : (xs ys : List ℕ) (w : World) → looking_free (xs ++ ys) w ≡ looking_free ys (looking_free xs w)
looking_free-append [] ys w = refl
looking_free-append (x ∷ xs) ys w = looking_free-append xs ys (with_owner x 0 w)

owned_as_in-append : (o : World) (xs ys : List ℕ) (w : World) → owned_as_in o (xs ++ ys) w ≡ owned_as_in o ys (owned_as_in o xs w)
owned_as_in-append o [] ys w = refl
owned_as_in-append o (x ∷ xs) ys w = owned_as_in-append o xs ys (with_owner x (mutex_at o x).owner w)

-- one more
pub looks_free_more : (ms : List ℕ) (i d : ℕ) (w u v : World) → i < length ms → u ≡ looking_free (take i ms) w
    → v ≡ with_owner (get_or ms i d) 0 u → v ≡ looking_free (take (i + 1) ms) w
looks_free_more ms i d w u v lt e h =
    h ∙ ap (with_owner (get_or ms i d) 0) e
    ∙ sym (ap (λ (xs : List ℕ). looking_free xs w) (take_more ms i d lt) ∙ looking_free-append (take i ms) (get_or ms i d ∷ []) w)

pub owned_more : (o : World) (ms : List ℕ) (i d : ℕ) (w u v : World) → i < length ms → u ≡ owned_as_in o (take i ms) w
    → v ≡ with_owner (get_or ms i d) (mutex_at o (get_or ms i d)).owner u → v ≡ owned_as_in o (take (i + 1) ms) w
owned_more o ms i d w u v lt e h =
    h ∙ ap (with_owner (get_or ms i d) (mutex_at o (get_or ms i d)).owner) e
    ∙ sym (ap (λ (xs : List ℕ). owned_as_in o xs w) (take_more ms i d lt) ∙ owned_as_in-append o (take i ms) (get_or ms i d ∷ []) w)

-- what is listed as lending sees it, if no mutex looks free, and if some do
pub seeing_all : (hidden : List ℕ) (f : Wide → List Wide) (s : Wide) → length hidden ≡ 0 → seeing_lending hidden f s ≡ f s
seeing_all [] f s e = refl
seeing_all (m ∷ ms) f s e = absurd (omega (arith, e))

pub seeing_some : (hidden : List ℕ) (f : Wide → List Wide) (s : Wide) → (length hidden ≡ 0 → ⊥)
    → seeing_lending hidden f s ≡ map (owned_as_before hidden s) (f (seen_by_lending hidden s))
seeing_some [] f s n = absurd (n refl)
seeing_some (m ∷ ms) f s n = refl
