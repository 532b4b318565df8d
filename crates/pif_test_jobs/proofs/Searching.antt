-- The steps of a counter are among those that are made.
use Rattle.std.proofs.Common.{ℕ, ◌≡◌, ◌<◌, ◌+◌, ◌∙◌, Bool, true, List, [], ◌∷◌, Some, None, Option, not, refl, sym, ap}
use Rattle.pif_search.specs.Steps.{HasCover}
use Rattle.pif_test_jobs.specs.Counting.{Counts, is_hidden}
use Rattle.pif_test_jobs.specs.Counting.Counts.{rises, switches, says}

-- the count of a counter and its lamp
abbrev Counter : Type 0
Counter = ℕ × Bool

abbrev pair : ℕ → Bool → Counter
pair n x = (n, x)

same_counter : (a b : Counter) → a.0 ≡ b.0 → a.1 ≡ b.1 → a ≡ b
same_counter a b e f = ap (λ (n : ℕ). pair n a.1) e ∙ ap (λ (x : Bool). pair b.0 x) f

-- what it says is not hidden
shown : (s : Counter) (l : Option ℕ) → l ≡ Some s.0 → is_hidden l ≡ true → ⊥
shown s l a h = let f : is_hidden (Some s.0) ≡ true = rw a at h in cc

-- if the switch and the rise are made
pub whole_both : (top : ℕ) (s w r t : Counter) (l : Option ℕ) (items : List (Option ℕ × Counter)) → items ≡ (None, w) ∷ (None, r) ∷ []
    → w.0 ≡ s.0 → w.1 ≡ not s.1 → r.0 ≡ s.0 + 1 → r.1 ≡ s.1
    → is_hidden l ≡ true → Counts top s l t → HasCover (λ (a b : Counter). a ≡ b) items t
whole_both top s w r t l items e wc wl rc rl h (rises a lt b d) = record { place = 1; label = None; state = r; there = rw e refl; covers = same_counter r t (rc ∙ sym b) (rl ∙ sym d) }
whole_both top s w r t l items e wc wl rc rl h (switches a b d) = record { place = 0; label = None; state = w; there = rw e refl; covers = same_counter w t (wc ∙ sym b) (wl ∙ sym d) }
whole_both top s w r t l items e wc wl rc rl h (says a b) = absurd (shown s l a h)

-- if only the switch is made, at the top
pub whole_switch : (top : ℕ) (s w t : Counter) (l : Option ℕ) (items : List (Option ℕ × Counter)) → items ≡ (None, w) ∷ []
    → w.0 ≡ s.0 → w.1 ≡ not s.1 → (s.0 < top → ⊥)
    → is_hidden l ≡ true → Counts top s l t → HasCover (λ (a b : Counter). a ≡ b) items t
whole_switch top s w t l items e wc wl none h (rises a lt b d) = absurd (none lt)
whole_switch top s w t l items e wc wl none h (switches a b d) = record { place = 0; label = None; state = w; there = rw e refl; covers = same_counter w t (wc ∙ sym b) (wl ∙ sym d) }
whole_switch top s w t l items e wc wl none h (says a b) = absurd (shown s l a h)
