-- Sets of rules with which lines are illegal, one by one.
use Rattle.std.proofs.Common.{◌≡◌, ◌∙◌, ◌⊎◌, ℕ, zero, suc, ◌+◌, ◌<◌, ◌≤◌, inl, inr, List, [], ◌∷◌, ◌++◌, take, drop, length, get_or, All, refl, sym, subst, ap, arith, append_assoc}
use Rattle.std.proofs.lemmas.List.{append-nil, take_all, take_more, drop_more, take-append-drop}
use Rattle.std.proofs.lemmas.List.Elements.{All-append, All-nil, All-push, All-same}
use Rattle.pif_types.specs.Bounds.{Bounds}
use Rattle.pif_rules_model.specs.declared.rules.Rules.{Rules}
use Rattle.pif_history_model.specs.declared.lines.Line.{Line}
use Rattle.pif_rules.specs.Sets.{both}
use Rattle.pif_job_judge.specs.LeastRules.{IsBehind, IsBehindIllegal, IsFoundIn, IsIllegalSomewhere}
use Rattle.pif_rules_model.specs.declared.rules.Rule.{Rule}
use Rattle.pif_history_told.specs.Sets.{added, sets_below, sets_in_order, sets_of_size}
use Rattle.pif_job_judge.specs.declared.search.Needed.{Needed}
use Rattle.pif_job_judge.specs.declared.search.Needed.TheVariants.{Legal, Undecided}

-- what holds of the first elements of a list, and of the next one
pub all_more : {X : Type 0} (P : X → Type 0) (xs : List X) (i : ℕ) (x : X) → i < length xs → x ≡ get_or xs i x → P x
    → All P (take i xs) → All P (take (i + 1) xs)
all_more {X} P xs i x within at here before =
    All-same P (take (i + 1) xs) (take i xs ++ x ∷ [])
    (take_more xs i x within ∙ ap (λ (y : X). take i xs ++ y ∷ []) (sym at)) (All-push P (take i xs) x before here)

pub all_read : {X : Type 0} (P : X → Type 0) (xs : List X) (i : ℕ) → length xs ≤ i → All P (take i xs) → All P xs
all_read P xs i past before = All-same P xs (take i xs) (sym (take_all i xs past)) before

-- one set more is illegal
pub illegal_more : (l : Bounds) (lines : List Line) (sets : List Rules) (i : ℕ) (r : Rules) → i < length sets
    → r ≡ get_or sets i r → IsIllegalSomewhere l lines r → All (IsIllegalSomewhere l lines) (take i sets)
    → All (IsIllegalSomewhere l lines) (take (i + 1) sets)
illegal_more l lines sets i r within at illegal before =
    all_more (λ (q : Rules). IsIllegalSomewhere l lines q) sets i r within at illegal before

-- a set among these
pub behind_illegal : (l : Bounds) (lines : List Line) (sets : List Rules) (i : ℕ) (r : Rules) → i < length sets
    → r ≡ get_or sets i r → All (IsIllegalSomewhere l lines) (take i sets) → IsBehind l lines sets r
behind_illegal l lines sets i r within at before = (
  take i sets,
  drop (i + 1) sets,
  sym (take-append-drop i sets)
      ∙ ap (λ (ys : List Rules). take i sets ++ ys) (drop_more sets i r within ∙ ap (λ (q : Rules). q ∷ drop (i + 1) sets) (sym at)),
  before,
)

-- all of them
pub all_illegal : (l : Bounds) (lines : List Line) (sets : List Rules) (i : ℕ) → length sets ≤ i
    → All (IsIllegalSomewhere l lines) (take i sets) → All (IsIllegalSomewhere l lines) sets
all_illegal l lines sets i past before = all_read (IsIllegalSomewhere l lines) sets i past before

-- ALL SIZES

equal_or_less : (k n : ℕ) → k ≤ n → (k ≡ n) ⊎ (k < n)
equal_or_less zero zero h = inl refl
equal_or_less zero (suc n) h = inr (omega arith)
equal_or_less (suc k) zero h = absurd (omega (arith, h))
equal_or_less (suc k) (suc n) h =
    elim (equal_or_less k n (omega (arith, h))) [ inl e ↦ inl (ap (λ (j : ℕ). suc j) e) | inr less ↦ inr (omega (arith, less)) ]

-- the sets below a size, those of that size, and the rest
below_parts : (a : Rules) (n k : ℕ) (held : Rules) (rules : List Rule) → k < n
    → (rest : List Rules) × (sets_below a n held rules ≡ sets_below a k held rules ++ (sets_of_size a k held rules ++ rest))
unfolding sets_below
below_parts a zero k held rules within = absurd (omega (arith, within))
below_parts a (suc n) k held rules within = by_order (equal_or_less k n (omega (arith, within))) (λ less. below_parts a n k held rules less)
  where
    by_order : (k ≡ n) ⊎ (k < n)
        → (k < n → (rest : List Rules) × (sets_below a n held rules ≡ sets_below a k held rules ++ (sets_of_size a k held rules ++ rest)))
        → (rest : List Rules) × (sets_below a n held rules ++ sets_of_size a n held rules
        ≡ sets_below a k held rules ++ (sets_of_size a k held rules ++ rest))
    by_order (inl e) fewer = (
      [],
      subst (λ (j : ℕ). sets_below a n held rules ++ sets_of_size a n held rules ≡ sets_below a j held rules ++ (sets_of_size a j held rules ++ [])) (sym e)
          (ap (λ (ys : List Rules). sets_below a n held rules ++ ys) (sym (append-nil (sets_of_size a n held rules)))),
    )
    by_order (inr less) fewer =
        let p = fewer less in (
          p.0 ++ sets_of_size a n held rules,
          ap (λ (ys : List Rules). ys ++ sets_of_size a n held rules) p.1
              ∙ (append_assoc (sets_below a k held rules) (sets_of_size a k held rules ++ p.0) (sets_of_size a n held rules)
              ∙ ap (λ (ys : List Rules). sets_below a k held rules ++ ys) (append_assoc (sets_of_size a k held rules) p.0 (sets_of_size a n held rules))),
        )

-- a set after others with which lines are illegal, and before others
behind_more : (l : Bounds) (lines : List Line) (first sets rest all : List Rules) (r : Rules) → all ≡ first ++ (sets ++ rest)
    → All (IsIllegalSomewhere l lines) first → IsBehind l lines sets r → IsBehind l lines all r
behind_more l lines first sets rest all r are before found = (
  first ++ found.0,
  found.1 ++ rest,
  are ∙ ap (λ (ys : List Rules). first ++ ys)
      (ap (λ (ys : List Rules). ys ++ rest) found.2 ∙ append_assoc found.0 (r ∷ found.1) rest)
      ∙ sym (append_assoc first found.0 (r ∷ found.1 ++ rest)),
  All-append (IsIllegalSomewhere l lines) first found.0 before found.3,
)

found_more : (l : Bounds) (lines : List Line) (first sets rest all : List Rules) (found : Needed) → all ≡ first ++ (sets ++ rest)
    → All (IsIllegalSomewhere l lines) first → IsFoundIn l lines sets found → IsFoundIn l lines all found
found_more l lines first sets rest all (Legal e) are before f = (f.0, behind_more l lines first sets rest all e.set are before f.1)
found_more l lines first sets rest all (Undecided r n) are before f =
    (f.0, f.1, behind_more l lines first sets rest all r are before f.2)

-- what is found among the sets of one size, if with all those of fewer rules lines are illegal
pub found_of_size : (base a : Rules) (l : Bounds) (lines : List Line) (k : ℕ) (rules : List Rule) (found : Needed)
    → rules ≡ added base a → k < length rules → All (IsIllegalSomewhere l lines) (sets_below a k base rules)
    → IsFoundIn l lines (sets_of_size a k base rules) found → IsFoundIn l lines (sets_in_order base a) found
found_of_size base a l lines k rules found are within before here =
    let p = below_parts a (length rules) k base rules within in
    let last = both a base ∷ [] in
    let all : sets_in_order base a ≡ sets_below a k base rules ++ (sets_of_size a k base rules ++ (p.0 ++ last)) =
    ap (λ (rs : List Rule). sets_below a (length rs) base rs ++ last) (sym are)
    ∙ (ap (λ (ys : List Rules). ys ++ last) p.1
    ∙ (append_assoc (sets_below a k base rules) (sets_of_size a k base rules ++ p.0) last
    ∙ ap (λ (ys : List Rules). sets_below a k base rules ++ ys) (append_assoc (sets_of_size a k base rules) p.0 last))) in
    found_more l lines (sets_below a k base rules) (sets_of_size a k base rules) (p.0 ++ last) (sets_in_order base a) found all before
    here

-- before the first size, and one size more
pub none_before : (a : Rules) (l : Bounds) (lines : List Line) (held : Rules) (rules : List Rule)
    → All (IsIllegalSomewhere l lines) (sets_below a 0 held rules)
unfolding sets_below
none_before a l lines held rules = All-nil (IsIllegalSomewhere l lines)

pub none_of_size : (base a : Rules) (l : Bounds) (lines : List Line) (k : ℕ) (rules : List Rule)
    → All (IsIllegalSomewhere l lines) (sets_below a k base rules)
    → All (IsIllegalSomewhere l lines) (sets_of_size a k base rules)
    → All (IsIllegalSomewhere l lines) (sets_below a (k + 1) base rules)
unfolding sets_below
none_of_size base a l lines k rules before here =
    let next : suc k ≡ k + 1 = omega arith in
    subst (λ (n : ℕ). All (IsIllegalSomewhere l lines) (sets_below a n base rules)) next
    (All-append (IsIllegalSomewhere l lines) (sets_below a k base rules) (sets_of_size a k base rules) before here)

-- the set of all, if lines are illegal with each other one
pub all_below : (base a : Rules) (l : Bounds) (lines : List Line) (k : ℕ) (rules : List Rule) (r : Rules) → rules ≡ added base a
    → k ≡ length rules → r ≡ both a base → All (IsIllegalSomewhere l lines) (sets_below a k base rules)
    → IsBehindIllegal base a l lines r
all_below base a l lines k rules r are end is before = (
  sets_below a k base rules,
  [],
  ap (λ (rs : List Rule). sets_below a (length rs) base rs ++ both a base ∷ []) (sym are)
      ∙ (ap (λ (n : ℕ). sets_below a n base rules ++ both a base ∷ []) (sym end)
      ∙ ap (λ (q : Rules). sets_below a k base rules ++ q ∷ []) (sym is)),
  before,
)
