-- What is known of a history once one more of its components was judged, and once all were.
use Rattle.std.proofs.Common.{ℕ, ◌≡◌, ◌∙◌, ◌⊎◌, ◌≤◌, ◌<◌, ◌+◌, ◌-◌, min, Bool, true, false, List, Option, Some, None, inl, inr, refl, sym, ap, subst, length, reverse, take, drop, if◌then◌else◌, arith}
use Rattle.std.proofs.lemmas.List.{take-append-drop, take-append-le, length-take-le}
use Rattle.std.proofs.Math.Nat.{eq-or-lt_of_le}
use Rattle.std.proofs.Math.Seq.{take-length}
use Rattle.std.proofs.lemmas.List.Elements.{filter-append}
use Rattle.pif_types.specs.Bounds.{Bounds}
use Rattle.pif_rules_model.specs.Sets.{no_rules}
use Rattle.pif_history_model.specs.declared.lines.Line.{Line}
use Rattle.pif_history_model.specs.Shown.{IsShown}
use Rattle.pif_history_model.specs.Verdicts.{IsIllegal}
use Rattle.pif_parts_model.proofs.Judging.{illegal_in_first}
use Rattle.pif_components_model.specs.Components.{Side, keeps, lines_of}
use Rattle.pif_components_model.specs.Places.{IsIllegalAt}
use Rattle.pif_components_model.proofs.Judging.{judged_by_parts}
use Rattle.pif_components_model.proofs.Placing.{filter_reverse, legal_before, legal_first, whole_illegal}
use Rattle.pif_parts.specs.declared.joining.PartVerdict.{PartVerdict}
use Rattle.pif_parts.specs.declared.joining.PartVerdict.TheVariants as part
use Rattle.pif_components.specs.declared.groups.Groups.{Groups}
use Rattle.pif_components.specs.declared.judging.Standing.{Standing}
use Rattle.pif_components.specs.Groups.{AreGroupsOf, number_of}
use Rattle.pif_parts.specs.Parts.{IsOf}
use Rattle.pif_components.specs.Sides.{IsOfSide, side_of}
use Rattle.pif_components.specs.Judging.{AreJudged, IsTold, told, verdict_at, verdict_of, within}
use Rattle.pif_components.proofs.HearingLemmas.{groups_numbered}

-- THE FIRST LINES

-- how many lines are to be judged is no more than there are
within_all : (o : Option ℕ) (n : ℕ) → within o n ≤ n
within_all None n = omega arith
within_all (Some p) n = omega arith

module _ (x : Side) (lines : List Line) (w : ℕ) (few : w ≤ length lines) where
  taken_twice : (p : ℕ) → p ≤ w → take p (take w lines) ≡ take p lines
  taken_twice p less =
      let long : p ≤ length (take w lines) = omega (arith, length-take-le w lines few, less) in
      sym (take-append-le p (take w lines) (drop w lines) long) ∙ ap (take p) (take-append-drop w lines)

  -- a verdict on the first lines of a side is one on the side
  pub illegal_of_first : (l : Bounds) (p : ℕ) → IsIllegalAt l x (take w lines) p → IsIllegalAt l x lines p
  illegal_of_first l p i =
      let long = length-take-le w lines few in
      let under : p ≤ w = omega (arith, i.is.within, long) in
      record {
        number = i.number;
        is = record {
          some = i.is.some;
          within = omega (arith, under, few);
          count = ap (λ (ks : List Line). length (lines_of x ks)) (sym (taken_twice p under)) ∙ i.is.count;
          before = ap (λ (ks : List Line). length (lines_of x ks) + 1) (sym (taken_twice (p - 1) (omega (arith, under)))) ∙ i.is.before;
        };
        illegal = subst (λ (ks : List Line). IsIllegal no_rules l ks i.number)
            (sym (filter-append (keeps x) (take w lines) (drop w lines)) ∙ ap (lines_of x) (take-append-drop w lines))
            (illegal_in_first l (lines_of x (take w lines)) (lines_of x (drop w lines)) i.number i.illegal);
      }

  -- the line stands among the first ones
  pub place_of_first : (l : Bounds) (p : ℕ) → IsIllegalAt l x (take w lines) p → p ≤ w
  place_of_first l p i = omega (arith, i.is.within, length-take-le w lines few)

-- what is legal up to a line is so up to an earlier one
legal_less : (l : Bounds) (x : Side) (lines : List Line) (w p : ℕ) → w ≤ length lines → p ≤ w
    → IsShown l (reverse (lines_of x (take w lines))) → IsShown l (reverse (lines_of x (take p lines)))
legal_less l x lines w p few less legal =
    subst (λ (ks : List Line). IsShown l (reverse (lines_of x ks))) (taken_twice x lines w few p less)
    (legal_first l x (take w lines) p legal)

-- ONE MORE COMPONENT

module _ (l : Bounds) (lines : List Line) (g : Groups) (n : ℕ) (s : Standing) (below : n < g.count)
    (h : AreJudged l lines g n s) where
  abbrev w : ℕ
  w = within s.illegal (length lines)

  few : w ≤ length lines
  few = within_all s.illegal (length lines)

  abbrev before : ℕ → Type 0
  before k = IsShown l (reverse (lines_of (side_of g k) (take w lines)))

  -- all up to the last one, and it
  and_last : (P : ℕ → Type 0) → ((k : ℕ) → k < n → P k) → P n → (k : ℕ) → k < n + 1 → P k
  and_last P each last k less = at (less_or_same k less)
    where
      less_or_same : (k : ℕ) → k < n + 1 → (k ≡ n) ⊎ (k < n)
      less_or_same k less = eq-or-lt_of_le (omega (arith, less))

      at : (k ≡ n) ⊎ (k < n) → P k
      at (inl e) = subst P (sym e) last
      at (inr e) = each k e

  next_legal : before n → AreJudged l lines g (n + 1) s
  next_legal x = record { told = h.told; legal = λ e. and_last before (h.legal e) x }

  next_illegal : (p : ℕ) → IsIllegalAt l (side_of g n) (take w lines) p → AreJudged l lines g (n + 1) (told s (part.Illegal p))
  next_illegal p i =
      let under = place_of_first (side_of g n) lines w few l p i in
      let same : min (p - 1) (length lines) ≡ p - 1 = omega (arith, under, few) in
      record {
        told = record { number = n; below = below; illegal = illegal_of_first (side_of g n) lines w few l p i };
        legal = λ e.
            subst (λ (m : ℕ). (k : ℕ) → k < n + 1 → IsShown l (reverse (lines_of (side_of g k) (take m lines)))) (sym same)
            (and_last (λ k. IsShown l (reverse (lines_of (side_of g k) (take (p - 1) lines))))
            (λ k less. legal_less l (side_of g k) lines w (p - 1) few (omega (arith, under)) (h.legal e k less))
            (subst (λ (ks : List Line). IsShown l (reverse (lines_of (side_of g n) ks)))
            (taken_twice (side_of g n) lines w few (p - 1) (omega (arith, under)))
            (legal_before l (side_of g n) (take w lines) p p i (omega arith))));
      }

  next_undecided : AreJudged l lines g (n + 1) (told s part.Undecided)
  next_undecided = record { told = h.told; legal = λ e. absurd (cc) }

  next : (v : PartVerdict) → IsOfSide l (side_of g n) (take w lines) v → AreJudged l lines g (n + 1) (told s v)
  next part.Legal x = next_legal x
  next (part.Illegal p) x = next_illegal p x
  next part.Undecided x = next_undecided

pub next_judged : (l : Bounds) (lines : List Line) (g : Groups) (n : ℕ) (s : Standing) (v : PartVerdict)
    → IsOfSide l (side_of g n) (take (within s.illegal (length lines)) lines) v → n < g.count → AreJudged l lines g n s
    → AreJudged l lines g (n + 1) (told s v)
next_judged l lines g n s v x below h = next l lines g n s below h v x

-- BEFORE ANY COMPONENT

pub none_judged : (l : Bounds) (lines : List Line) (g : Groups) (s : Standing) → IsTold l lines g s.illegal → AreJudged l lines g 0 s
none_judged l lines g s h = record { told = h; legal = λ e k less. absurd (omega (arith, less)) }

-- ALL COMPONENTS

module _ (l : Bounds) (lines : List Line) (g : Groups) (groups : AreGroupsOf (reverse lines) g) where
  whole : (o : Option ℕ) → IsTold l lines g o
      → ((k : ℕ) → k < g.count → IsShown l (reverse (lines_of (side_of g k) (take (within o (length lines)) lines))))
      → IsOf l lines (verdict_at o)
  whole None h legal =
      (judged_by_parts l (reverse lines) g.count (number_of g) (groups_numbered (reverse lines) g groups)).1
      (λ k less. subst (λ (ks : List Line). IsShown l ks)
      (ap (λ (ks : List Line). reverse (lines_of (side_of g k) ks)) (take-length lines) ∙ sym (filter_reverse (keeps (side_of g k)) lines))
      (legal k less))
  whole (Some p) h legal =
      let same : min (p - 1) (length lines) ≡ p - 1 = omega (arith, h.illegal.is.within) in
      whole_illegal l lines g.count (number_of g) (groups_numbered (reverse lines) g groups) h.number p h.illegal
      (λ k less. subst (λ (m : ℕ). IsShown l (reverse (lines_of (side_of g k) (take m lines)))) same (legal k less))

  pub all_judged : (s : Standing) → AreJudged l lines g g.count s → IsOf l lines (verdict_of s)
  all_judged s h = at s.undecided refl
    where
      at : (b : Bool) → s.undecided ≡ b → IsOf l lines (if b then part.Undecided else verdict_at s.illegal)
      at true e = tt
      at false e = whole s.illegal h.told (h.legal e)
