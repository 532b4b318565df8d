-- Threads whose clients sleep: each stands once among them, so that 1,024 places are enough.
use Rattle.std.proofs.Common.{◌≡◌, ◌∙◌, ◌⊎◌, ℕ, ◌+◌, ◌<◌, ◌≤◌, Bool, true, false, ◌==◌, ◌||◌, eqb, List, [], ◌∷◌, ◌++◌, length, filter, Some, None, unwrap_or, refl, sym, ap, arith, inl, inr, if◌then◌else◌, true≢false}
use Rattle.std.specs.List.{list_any}
use Rattle.std.proofs.lemmas.Bool.{false_from_ne_true, or_cases}
use Rattle.std.proofs.lemmas.Bool.Decides.{nat_tests}
use Rattle.std.proofs.lemmas.List.{length_push}
use Rattle.std.proofs.lemmas.Map.Steps.{length-le_from_distinct_below}
use Rattle.pif_types.specs.Bounds.{Bounds}
use Rattle.pif_model.specs.declared.events.Entry.{Entry}
use Rattle.pif_model.specs.PiKernel.{is_among, is_living, is_ready}
use Rattle.pif_model.specs.Table.{Table, line_at, status_at}
use Rattle.pif_model.specs.Lines.{is_open, is_due_in}
use Rattle.pif_model_lemmas.proofs.kernel.Facts.{living-added}
use Rattle.pif_model_lemmas.proofs.Numbers.{within}
use Rattle.pif_model_lemmas.proofs.kernel.Numbers.{among-filter, among-push, distinct-filter, distinct-none, distinct-push}
use Rattle.pif_desk.specs.Rooms.{StandsAfter}
use Rattle.pif_desk.specs.Sleeping.{AreSleepers, rests_in}

-- nobody
pub no_sleepers : AreSleepers []
no_sleepers = record { once = distinct-none; within = λ t h. absurd (true≢false (sym h)) }

-- one more, who is not among them
pub sleepers_more : (ts : List ℕ) (t : ℕ) → AreSleepers ts → 1 ≤ t → t ≤ 1024 → is_among ts t ≡ false
    → AreSleepers (ts ++ t ∷ [])
sleepers_more ts t are some few new = record {
  once = distinct-push ts t are.once new;
  within = λ u h. by_place u (or_cases (is_among ts u) (t == u) (sym (among-push ts t u) ∙ h));
}
  where
    by_place : (u : ℕ) → (is_among ts u ≡ true) ⊎ ((t == u) ≡ true) → (1 ≤ u) × (u ≤ 1024)
    by_place u (inl h) = are.within u h
    by_place u (inr e) = let same : t ≡ u = grind (arith, nat_tests, e) in
        (omega (arith, same, some), omega (arith, same, few))

-- some of them
pub sleepers_left : (f : ℕ → Bool) (ts : List ℕ) → AreSleepers ts → AreSleepers (filter f ts)
sleepers_left f ts are = record {
  once = distinct-filter f ts are.once;
  within = λ u h. are.within u (by_test u (f u) (sym (among-filter f ts u) ∙ h));
}
  where
    by_test : (u : ℕ) (b : Bool) → (if b then is_among ts u else false) ≡ true → is_among ts u ≡ true
    by_test u true h = h
    by_test u false h = absurd (true≢false (sym h))

-- who is among a list, asked the other way round
flipped : (q : ℕ) (ts : List ℕ) → list_any (eqb q) ts ≡ is_among ts q
flipped q [] = refl
flipped q (t ∷ ts) =
    let same : eqb q t ≡ (t == q) = grind (arith, nat_tests) in
    ap (λ b. b || list_any (eqb q) ts) same ∙ ap (λ b. (t == q) || b) (flipped q ts)

-- they are at most 1,024, since none of them is 0
at_most : (ts : List ℕ) → AreSleepers ts → length ts ≤ 1024
at_most ts are =
    let none : is_among ts 0 ≡ false =
    false_from_ne_true (is_among ts 0) (λ h. let k = are.within 0 h in absurd (omega (arith, k.0))) in
    let most = length-le_from_distinct_below (ts ++ 0 ∷ []) 1025 (distinct-push ts 0 are.once none) below in
    omega (arith, most, length_push ts 0)
  where
    below : (q : ℕ) → list_any (eqb q) (ts ++ 0 ∷ []) ≡ true → q < 1025
    below q h = by_place (or_cases (is_among ts q) (0 == q) (sym (flipped q (ts ++ 0 ∷ []) ∙ among-push ts 0 q) ∙ h))
      where
        by_place : (is_among ts q ≡ true) ⊎ ((0 == q) ≡ true) → q < 1025
        by_place (inl k) = let w = are.within q k in omega (arith, w.1)
        by_place (inr e) = let same : 0 ≡ q = grind (arith, nat_tests, e) in omega (arith, same)

-- there is room for one more
pub has_place : (ts : List ℕ) (t : ℕ) → AreSleepers ts → 1 ≤ t → t ≤ 1024 → is_among ts t ≡ false → length ts < 1024
has_place ts t are some few new =
    let more = at_most (ts ++ t ∷ []) (sleepers_more ts t are some few new) in
    omega (arith, more, length_push ts t)

-- WHO RESTS

-- a thread that rests lives, and so has one of the numbers that limits allow
pub resting_number : (s : Table) (j : List Entry) → StandsAfter s j → (t : ℕ) → rests_in s t ≡ true → t ≤ 1024
resting_number s j st t h = by_test (is_living s.kernel t) refl h
  where
    by_test : (b : Bool) → is_living s.kernel t ≡ b
        → unwrap_or (if b then (if is_open (line_at s t)
        then Some (if is_ready (status_at s t) then false else (if is_due_in s t then false else true)) else None)
        else None) false ≡ true → t ≤ 1024
    by_test true lives k =
        let added = living-added s.kernel t lives in
        let sound = st.stands.sound in
        let place = within t (length s.kernel.seats) added in
        let same = ap (λ (l : Bounds). l.threads) sound.all.shape.limits in
        omega (arith, place.1, sound.kernel.shape.few, same, sound.all.shape.within.threads)
    by_test false lives k = absurd (true≢false (sym k))
