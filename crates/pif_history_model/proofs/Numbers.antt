-- The numbers that labels show, and which answers and priorities are possible.
use Rattle.std.proofs.Common.{ℕ, ◌≡◌, ◌⊎◌, ◌∙◌, ◌≤◌, ◌<◌, ◌+◌, ◌-◌, nat_lt, zero, suc, Bool, true, false, List, [], ◌∷◌, ◌++◌, Option, Some, None, map, reverse, length, take, get_or, refl, sym, subst, ap, inl, inr, arith}
use Rattle.std.specs.List.{All, AllPairs, Contains}
use Rattle.std.proofs.lemmas.Bool.{ltb-true, ltb-false}
use Rattle.std.proofs.lemmas.List.{take_more, map-append}
use Rattle.std.proofs.lemmas.List.Elements.{All-nil, All-cons, All-push, All-weaker, All-contains, Contains-append_left, Contains-append_cases, Contains-push}
use Rattle.std.proofs.lemmas.List.Kept.{AllPairs-cons}
use Rattle.std.proofs.lemmas.List.Quantifiers.{all_pairs_push}
use Rattle.pif_types.specs.Bounds.{Bounds}
use Rattle.pif_posix_steps.proofs.DoingLists.{among_is, among_from, in_one, not_in_none}
use Rattle.pif_rules_model.specs.declared.rules.Rules.{Rules}
use Rattle.pif_search.specs.Verdicts.{IsSelection, CanFollow, AreNext}
use Rattle.pif_history_model.proofs.Selections.{IsSelection-pairs, IsSelection-sound, IsSelection-complete}
use Rattle.pif_history_model.specs.declared.lines.Line.{Line}
use Rattle.pif_history_model.specs.declared.lines.Line.TheVariants.{Answer, Prio}
use Rattle.pif_history_model.specs.declared.labels.Label.{Label}
use Rattle.pif_history_model.specs.declared.labels.Label.TheVariants.{Shown}
use Rattle.pif_history_model.specs.Searched.{Advances, hides, start_of}
use Rattle.pif_history_model.specs.Verdicts.{answers, is_answer, AreJust, IsShownBy, ArePossibleAnswers, ArePossiblePriorities}
use Rattle.pif_history_model.proofs.Judging.{labels_of, shown-from_next, next-from_shown}
use Rattle.pif_history_model.specs.Numbers.{number_of, before_if, numbers_in, up_to}

-- of candidates that show a number each, just those numbers are kept of which P holds, if P says that a run shows the
-- line next
pub kept : {S : Type 0} (Step : S → Label → S → Type 0) (start : S) (lines : List Label) (P : ℕ → Type 0) (line : ℕ → Line)
    → ((n : ℕ) → number_of (Shown (line n)) ≡ Some n) → ((n : ℕ) → CanFollow Step hides start lines (Shown (line n)) → P n)
    → ((n : ℕ) → P n → CanFollow Step hides start lines (Shown (line n))) → (ns : List ℕ) (found : List Label)
    → IsSelection (CanFollow Step hides start lines) (λ x. CanFollow Step hides start lines x → ⊥) (map (λ n. Shown (line n)) ns) found
    → IsSelection P (λ n. P n → ⊥) ns (numbers_in found)
kept Step start lines P line number from to [] found e = ap (λ (xs : List Label). numbers_in xs) e
kept Step start lines P line number from to (n ∷ ns) found (inl s) =
    let first : numbers_in found ≡ n ∷ numbers_in s.0 =
    ap (λ (xs : List Label). numbers_in xs) s.2 ∙ ap (λ (o : Option ℕ). before_if o (numbers_in s.0)) (number n) in
    inl (numbers_in s.0, from n s.1, first, kept Step start lines P line number from to ns s.0 s.3)
kept Step start lines P line number from to (n ∷ ns) found (inr s) =
    inr (λ x. s.0 (to n x), kept Step start lines P line number from to ns found s.1)

-- of rising numbers, among which are all of which P holds, just these are kept, rising
pub just_kept : (P : ℕ → Type 0) (ns found : List ℕ) → AllPairs (λ m n. m < n) ns → ((n : ℕ) → P n → Contains ns n)
    → IsSelection P (λ n. P n → ⊥) ns found → AreJust P found
just_kept P ns found rising known s = record {
  rising = IsSelection-pairs P (λ n. P n → ⊥) (λ m n. m < n) ns found rising s;
  just = λ n. (All-contains P found n (IsSelection-sound P (λ n. P n → ⊥) ns found s), back n);
}
  where
    back : (n : ℕ) → P n → Contains found n
    back n x = elim (All-contains (λ (m : ℕ). Contains found m ⊎ (P m → ⊥)) ns n (IsSelection-complete P (λ n. P n → ⊥) ns found s) (known n x)) [
      | inl c ↦ c
      | inr never ↦ absurd (never x)
    ]

-- what holds of all candidates may be asked beside
both : (A P : ℕ → Type 0) (ns found : List ℕ) → ((n : ℕ) → Contains ns n → A n) → IsSelection P (λ n. P n → ⊥) ns found
    → IsSelection (λ n. A n × P n) (λ n. (A n × P n) → ⊥) ns found
both A P [] found all s = s
both A P (n ∷ ns) found all (inl s) =
    inl (s.0, (all n (zero, omega arith, refl), s.1), s.2, both A P ns s.0 (λ m c. all m (suc c.0, omega (arith, c.1), c.2)) s.3)
both A P (n ∷ ns) found all (inr s) =
    inr (λ x. s.0 x.1, both A P ns found (λ m c. all m (suc c.0, omega (arith, c.1), c.2)) s.1)

-- of rising candidates, which are just the numbers of which A holds, those are found with which a run shows the line next
possible : (r : Rules) (l : Bounds) (before : List Line) (line : ℕ → Line) (A : ℕ → Type 0) (all : List ℕ) (found : List Label)
    → ((n : ℕ) → number_of (Shown (line n)) ≡ Some n) → AllPairs (λ m n. m < n) all
    → ((n : ℕ) → A n → Contains all n) → ((n : ℕ) → Contains all n → A n)
    → AreNext (Advances r l) hides (start_of l) (labels_of before) (map (λ n. Shown (line n)) all) found
    → AreJust (λ n. A n × IsShownBy r l (line n ∷ reverse before)) (numbers_in found)
possible r l before line A all found number rising known within next =
    just_kept (λ n. A n × IsShownBy r l (line n ∷ reverse before)) all (numbers_in found) rising (λ n x. known n x.0)
    (both A (λ n. IsShownBy r l (line n ∷ reverse before)) all (numbers_in found) within
    (kept (Advances r l) (start_of l) (labels_of before) (λ n. IsShownBy r l (line n ∷ reverse before)) line number
    (λ n x. shown-from_next r l before (line n) x) (λ n x. next-from_shown r l before (line n) x) all found next.selection))

-- numbers that rise from m, each above the one before it
abbrev Rise : ℕ → List ℕ → Type 0
Rise m [] = Unit {0}
Rise m (n ∷ ns) = (m < n) × Rise n ns

all_above : (k m : ℕ) (ns : List ℕ) → k ≤ m → Rise m ns → All (λ n. k < n) ns
all_above k m [] le r = All-nil (λ (n : ℕ). k < n)
all_above k m (n ∷ ns) le r =
    let less : m < n = r.0 in
    All-cons (λ (x : ℕ). k < x) n ns (omega (arith, less, le)) (all_above k n ns (omega (arith, less, le)) r.1)

rise_in_pairs : (m : ℕ) (ns : List ℕ) → Rise m ns → AllPairs (λ i j. i < j) (m ∷ ns)
rise_in_pairs m [] r = AllPairs-cons (λ i j. i < j) m [] (All-nil (λ (n : ℕ). m < n)) (λ i j d lt within. absurd (omega arith))
rise_in_pairs m (n ∷ ns) r =
    AllPairs-cons (λ i j. i < j) m (n ∷ ns) (all_above m m (n ∷ ns) (omega arith) r) (rise_in_pairs n ns r.1)

pub answers_rise : AllPairs (λ i j. i < j) answers
answers_rise =
    rise_in_pairs 0 (1 ∷ 3 ∷ 11 ∷ 16 ∷ 22 ∷ 35 ∷ 75 ∷ 110 ∷ 130 ∷ 131 ∷ [])
    (omega arith, (omega arith, (omega arith, (omega arith, (omega arith, (omega arith, (omega arith, (omega arith, (omega arith, (omega arith, tt))))))))))

possible_answers : (r : Rules) (l : Bounds) (before : List Line) (t : ℕ) (found : List Label)
    → AreNext (Advances r l) hides (start_of l) (labels_of before) (map (λ a. Shown (Answer t a)) answers) found
    → ArePossibleAnswers r l before t (numbers_in found)
possible_answers r l before t found next =
    possible r l before (λ a. Answer t a) (λ n. is_answer n ≡ true) answers found (λ n. refl) answers_rise
    (λ n x. among_is answers n x) (λ n c. among_from answers n c) next

-- PRIORITIES

pub up_to-next : (n : ℕ) → 1 ≤ n → up_to n ≡ up_to (n - 1) ++ n ∷ []
unfolding up_to
up_to-next zero h = absurd (omega arith)
up_to-next (suc n) h = let e : suc n - 1 ≡ n = omega arith in ap (λ (k : ℕ). up_to k ++ suc n ∷ []) (sym e)

le_or_more : (p n : ℕ) → (p ≤ n) ⊎ (n < p)
le_or_more p n = go (nat_lt n p) refl
  where
    go : (b : Bool) → nat_lt n p ≡ b → (p ≤ n) ⊎ (n < p)
    go true e = inr (ltb-true n p e)
    go false e = inl (ltb-false n p e)

in_more : (n p : ℕ) → p ≤ suc n → (p ≤ n → Contains (up_to n) p) → (p ≤ n) ⊎ (n < p) → Contains (up_to n ++ suc n ∷ []) p
in_more n p b f (inl h) = Contains-append_left (up_to n) (suc n ∷ []) p (f h)
in_more n p b f (inr h) = let same : suc n ≡ p = omega arith in subst (λ (k : ℕ). Contains (up_to n ++ suc n ∷ []) k) same (Contains-push (up_to n) (suc n))

pub in_up_to : (n p : ℕ) → 1 ≤ p → p ≤ n → Contains (up_to n) p
unfolding up_to
in_up_to zero p a b = absurd (omega arith)
in_up_to (suc n) p a b = in_more n p b (λ h. in_up_to n p a h) (le_or_more p n)

up_to-within : (n : ℕ) → All (λ m. m < suc n) (up_to n)
unfolding up_to
up_to-within zero = All-nil (λ (m : ℕ). m < 1)
up_to-within (suc n) =
    All-push (λ (m : ℕ). m < suc (suc n)) (up_to n) (suc n)
    (All-weaker (λ (m : ℕ). m < suc n) (λ (m : ℕ). m < suc (suc n)) (λ m h. omega arith) (up_to n) (up_to-within n)) (omega arith)

pub up_to-rises : (n : ℕ) → AllPairs (λ i j. i < j) (up_to n)
unfolding up_to
up_to-rises zero = λ i j d lt within. absurd (omega arith)
up_to-rises (suc n) = all_pairs_push (λ i j. i < j) (up_to n) (suc n) (up_to-rises n) (up_to-within n)

-- the numbers from 1 to n are just those
within_up_to : (n p : ℕ) → Contains (up_to n) p → (1 ≤ p) × (p ≤ n)
unfolding up_to
within_up_to zero p c = absurd (not_in_none p c)
within_up_to (suc n) p c =
    elim (Contains-append_cases (up_to n) (suc n ∷ []) p c) [
      | inl a ↦ let q = within_up_to n p a in (q.0, omega (arith, q.1))
      | inr b ↦ let same : suc n ≡ p = in_one (suc n) p b in (omega (arith, same), omega (arith, same))
    ]

possible_priorities : (r : Rules) (l : Bounds) (before : List Line) (t : ℕ) (found : List Label)
    → AreNext (Advances r l) hides (start_of l) (labels_of before) (map (λ p. Shown (Prio t p)) (up_to 99)) found
    → ArePossiblePriorities r l before t (numbers_in found)
possible_priorities r l before t found next =
    possible r l before (λ p. Prio t p) (λ n. (1 ≤ n) × (n ≤ 99)) (up_to 99) found (λ n. refl) (up_to-rises 99)
    (λ n x. in_up_to 99 n x.0 x.1) (within_up_to 99) next

-- ONE LABEL MORE

pub numbers_in-push : (xs : List Label) (x : Label) → numbers_in (xs ++ x ∷ []) ≡ numbers_in xs ++ before_if (number_of x) []
numbers_in-push [] x = refl
numbers_in-push (y ∷ xs) x = more (number_of y) (numbers_in-push xs x)
  where
    more : (o : Option ℕ) → numbers_in (xs ++ x ∷ []) ≡ numbers_in xs ++ before_if (number_of x) []
        → before_if o (numbers_in (xs ++ x ∷ [])) ≡ before_if o (numbers_in xs) ++ before_if (number_of x) []
    more None e = e
    more (Some m) e = ap (λ (ns : List ℕ). m ∷ ns) e

pub numbers_in-next : (xs : List Label) (i : ℕ) (x : Label) (o : Option ℕ) (old new : List ℕ) → i < length xs
    → old ≡ numbers_in (take i xs) → x ≡ get_or xs i x → o ≡ number_of x → new ≡ old ++ before_if o [] → new ≡ numbers_in (take (i + 1) xs)
numbers_in-next xs i x o old new h inv is e push =
    push
    ∙ (ap (λ (ns : List ℕ). ns ++ before_if o []) inv
    ∙ (ap (λ (p : Option ℕ). numbers_in (take i xs) ++ before_if p []) e
    ∙ (sym (numbers_in-push (take i xs) x)
    ∙ ap (λ (ys : List Label). numbers_in ys) (ap (λ (y : Label). take i xs ++ y ∷ []) is ∙ sym (take_more xs i x h)))))

-- one priority more
pub priorities-next : (t p : ℕ) (old new : List Label) → 1 ≤ p → old ≡ map (λ q. Shown (Prio t q)) (up_to (p - 1))
    → new ≡ old ++ Shown (Prio t p) ∷ [] → new ≡ map (λ q. Shown (Prio t q)) (up_to (p + 1 - 1))
priorities-next t p old new h inv push =
    let e : p + 1 - 1 ≡ p = omega arith in
    push
    ∙ (ap (λ (xs : List Label). xs ++ Shown (Prio t p) ∷ []) inv
    ∙ (sym (map-append (λ (q : ℕ). Shown (Prio t q)) (up_to (p - 1)) (p ∷ []))
    ∙ ap (λ (ns : List ℕ). map (λ (q : ℕ). Shown (Prio t q)) ns) (sym (up_to-next p h) ∙ ap (λ (k : ℕ). up_to k) (sym e))))

pub no_priority : (t : ℕ) (new : List Label) → new ≡ [] → new ≡ map (λ q. Shown (Prio t q)) (up_to (1 - 1))
unfolding up_to
no_priority t new e = let z : 1 - 1 ≡ 0 = omega arith in e ∙ ap (λ (k : ℕ). map (λ (q : ℕ). Shown (Prio t q)) (up_to k)) (sym z)

-- WHAT THE CALLS ANSWER

pub answers_by : (r : Rules) (l : Bounds) (before : List Line) (t : ℕ) (found candidates : List Label) (numbers : List ℕ)
    → candidates ≡ map (λ a. Shown (Answer t a)) answers → numbers ≡ numbers_in found
    → AreNext (Advances r l) hides (start_of l) (labels_of before) candidates found → ArePossibleAnswers r l before t numbers
answers_by r l before t found candidates numbers c n next =
    let x = subst (λ (cs : List Label). AreNext (Advances r l) hides (start_of l) (labels_of before) cs found) c next in
    subst (λ (ns : List ℕ). ArePossibleAnswers r l before t ns) (sym n) (possible_answers r l before t found x)

pub priorities_by : (r : Rules) (l : Bounds) (before : List Line) (t : ℕ) (found candidates : List Label) (numbers : List ℕ)
    → candidates ≡ map (λ p. Shown (Prio t p)) (up_to 99) → numbers ≡ numbers_in found
    → AreNext (Advances r l) hides (start_of l) (labels_of before) candidates found → ArePossiblePriorities r l before t numbers
priorities_by r l before t found candidates numbers c n next =
    let x = subst (λ (cs : List Label). AreNext (Advances r l) hides (start_of l) (labels_of before) cs found) c next in
    subst (λ (ns : List ℕ). ArePossiblePriorities r l before t ns) (sym n) (possible_priorities r l before t found x)
