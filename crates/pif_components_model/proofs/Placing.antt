-- Verdicts on sides, and the line of the whole at which they come. Lines are oldest first, but for the histories of runs.
use Rattle.std.proofs.Common.{ℕ, zero, suc, ◌≡◌, ◌+◌, ◌-◌, ◌≤◌, ◌<◌, ◌==◌, ◌∙◌, ◌⊎◌, Bool, true, false, cond, List, [], ◌∷◌, ◌++◌, length, get_or, take, drop, reverse, length-append, append-nil, refl, sym, ap, subst, inl, inr, filter, arith}
use Rattle.std.proofs.lemmas.List.{take-append-le, take-append-drop, take_at, length-take-le, reverse-append}
use Rattle.std.proofs.lemmas.Bool.{cases_eq}
use Rattle.std.proofs.lemmas.List.Elements.{filter-append, filter_more}
use Rattle.std.proofs.Math.Seq.{take-append-add}
use Rattle.pif_types.specs.Bounds.{Bounds}
use Rattle.pif_model.specs.declared.events.Entry.{Entry}
use Rattle.pif_model.specs.Posix.{World, IsRun}
use Rattle.pif_rules_model.specs.Sets.{no_rules}
use Rattle.pif_history_model.specs.declared.lines.Line.{Line}
use Rattle.pif_history_model.specs.declared.lines.Line.TheVariants.{Halted}
use Rattle.pif_history_model.specs.Shown.{IsCut, IsShown}
use Rattle.pif_history_model.specs.Shown.IsCut.{one_more}
use Rattle.pif_history_model.specs.Verdicts.{IsIllegal}
use Rattle.pif_history_model.specs.Verdicts.IsShownBy.{plainly}
use Rattle.pif_history_model.proofs.Entries.{run_before}
use Rattle.pif_history_model.proofs.Widening.{plain-from_shown}
use Rattle.pif_components_model.specs.Components.{Name, Side, variables_of, Joins, IsJoinedBy, AreNumbered, component, keeps, lines_of}
use Rattle.pif_components_model.specs.Components.Name.{OfVariable, OfMutex}
use Rattle.pif_components_model.specs.Components.Joins.{call, bound}
use Rattle.pif_components_model.specs.Components.IsJoinedBy.{call as calls, bound as binds}
use Rattle.pif_components_model.specs.Places.{IsPlaceOf, IsIllegalAt, IsLegalBefore}
use Rattle.pif_components_model.proofs.Runs.{joined_later}
use Rattle.pif_components_model.proofs.Legal.{legal_on_side}
use Rattle.pif_components_model.proofs.Judging.{judged_by_parts}

-- JOINS

-- a list with something in front of its rest, by its first element
pub joined_by : (k : Line) (ks : List Line) (a b : Name) → Joins (k ∷ ks) a b → Joins ks a b ⊎ IsJoinedBy k ks a b
joined_by k ks a b (call before [] t q n e named) = inr (calls t q n (cc) named)
joined_by k ks a b (call before (j ∷ later) t q n e named) = inl (call before later t q n (cc) named)
joined_by k ks a b (bound before [] m e) =
    let same : ks ≡ before = cc in
    subst (λ (js : List Line). Joins ks (OfVariable (variables_of js + 1)) (OfMutex m) ⊎ IsJoinedBy k ks (OfVariable (variables_of js + 1)) (OfMutex m)) same
    (inr (binds m (cc)))
joined_by k ks a b (bound before (j ∷ later) m e) = inl (bound before later m (cc))

less_joined : (later ks : List Line) (a b : Name) → Joins ks a b → Joins (later ++ ks) a b
less_joined [] ks a b h = h
less_joined (k ∷ later) ks a b h = joined_later k (later ++ ks) a b (less_joined later ks a b h)

-- THE FIRST LINES

-- the lines before the last one are legal if all are
cut_before : (l : Bounds) (k : Line) (ks : List Line) (h : List Entry) (r : List World) (w : World) → IsRun l h r w → IsCut (k ∷ ks) h r w
    → IsShown l ks
cut_before l k ks h r w run (one_more {history = history} {piece = piece} {before = before} {last = last} c g p) =
    record { history = history; before = before; last = last; run = run_before l piece history before r last w run g; cut = c }

shown_before : (l : Bounds) (k : Line) (ks : List Line) → IsShown l (k ∷ ks) → IsShown l ks
shown_before l k ks x = cut_before l k ks x.history x.before x.last x.run x.cut

shown_first : (l : Bounds) (later ks : List Line) → IsShown l (later ++ ks) → IsShown l ks
shown_first l [] ks x = x
shown_first l (k ∷ later) ks x = shown_first l later ks (shown_before l k (later ++ ks) x)

-- a filter of a list from behind
pub filter_reverse : {A : Type 0} (f : A → Bool) (xs : List A) → filter f (reverse xs) ≡ reverse (filter f xs)
filter_reverse f [] = refl
filter_reverse f (x ∷ xs) =
    ap (filter f) (reverse-append (x ∷ []) xs) ∙ filter-append f (reverse xs) (x ∷ [])
    ∙ step (f x) (filter_reverse f xs)
  where
    step : (b : Bool) → filter f (reverse xs) ≡ reverse (filter f xs)
        → filter f (reverse xs) ++ cond b (x ∷ []) [] ≡ reverse (cond b (x ∷ filter f xs) (filter f xs))
    step true ih = ap (λ ys. ys ++ x ∷ []) ih ∙ sym (reverse-append (x ∷ []) (filter f xs))
    step false ih = append-nil (filter f (reverse xs)) ∙ ih

-- the first of those that pass are those that pass of the first
pub take_filtered : {A : Type 0} (f : A → Bool) (xs : List A) (p n : ℕ) → length (filter f (take p xs)) ≡ n
    → take n (filter f xs) ≡ filter f (take p xs)
take_filtered f xs p n e =
    ap (λ ys. take n (filter f ys)) (sym (take-append-drop p xs))
    ∙ ap (λ ys. take n ys) (filter-append f (take p xs) (drop p xs))
    ∙ take_at (filter f (take p xs)) (filter f (drop p xs)) n e

module _ (l : Bounds) (x : Side) where
  -- the lines of the side among the first lines are legal if all its lines are
  pub legal_first : (lines : List Line) (p : ℕ) → IsShown l (reverse (lines_of x lines)) → IsShown l (reverse (lines_of x (take p lines)))
  legal_first lines p legal =
      shown_first l (reverse (lines_of x (drop p lines))) (reverse (lines_of x (take p lines)))
      (subst (λ (ks : List Line). IsShown l ks)
      (ap (λ (ks : List Line). reverse (lines_of x ks)) (sym (take-append-drop p lines))
      ∙ ap reverse (filter-append (keeps x) (take p lines) (drop p lines))
      ∙ reverse-append (lines_of x (take p lines)) (lines_of x (drop p lines))) legal)

  -- what is legal before a line is so before an earlier one
  legal_earlier : (lines : List Line) (p q : ℕ) → p ≤ q → q ≤ length lines → IsShown l (reverse (lines_of x (take q lines)))
      → IsShown l (reverse (lines_of x (take p lines)))
  legal_earlier lines p q less within legal =
      let long : p ≤ length (take q lines) = omega (arith, length-take-le q lines within) in
      let same : take p (take q lines) ≡ take p lines =
      sym (take-append-le p (take q lines) (drop q lines) long) ∙ ap (take p) (take-append-drop q lines) in
      subst (λ (ks : List Line). IsShown l (reverse (lines_of x ks))) same (legal_first (take q lines) p legal)

  -- before the first illegal line of a side the side is legal
  pub legal_before : (lines : List Line) (place later : ℕ) → IsIllegalAt l x lines later → place ≤ later → IsLegalBefore l x lines place
  legal_before lines place later i less =
      let count : length (lines_of x (take (later - 1) lines)) ≡ i.number - 1 = omega (arith, i.is.before) in
      let is : take (i.number - 1) (lines_of x lines) ≡ lines_of x (take (later - 1) lines) =
      take_filtered (keeps x) lines (later - 1) (i.number - 1) count in
      legal_earlier lines (place - 1) (later - 1) (omega (arith, less)) (omega (arith, i.is.within))
      (subst (λ (ks : List Line). IsShown l (reverse ks)) is
      (plain-from_shown l (reverse (take (i.number - 1) (lines_of x lines))) i.illegal.legal))

-- if P fails of no number below n, it can't be that it doesn't hold of all of them
not_each : (n : ℕ) (P : ℕ → Type 0) → ((k : ℕ) → k < n → (P k → ⊥) → ⊥) → (((k : ℕ) → k < n → P k) → ⊥) → ⊥
not_each zero P each none = none (λ k h. absurd (omega (arith, h)))
not_each (suc n) P each none =
    not_each n P (λ k h. each k (omega (arith, h)))
    (λ less. each n (omega arith) (λ one. none (λ k h. elim (cases_eq k n) [
      | inl e ↦ subst P (sym e) one
      | inr ne ↦ less k (omega (arith, h, ne))
    ])))

-- THE WHOLE

-- the first lines are numbered as all are
numbered_first : (lines : List Line) (n : ℕ) (number : Name → ℕ) (p : ℕ) → AreNumbered (reverse lines) n number
    → AreNumbered (reverse (take p lines)) n number
numbered_first lines n number p a = record {
  below = a.below;
  joined = λ c d j.
      a.joined c d (subst (λ (ks : List Line). Joins ks c d)
      (sym (reverse-append (take p lines) (drop p lines)) ∙ ap reverse (take-append-drop p lines))
      (less_joined (reverse (drop p lines)) (reverse (take p lines)) c d j));
}

module _ (l : Bounds) (lines : List Line) (n : ℕ) (number : Name → ℕ) (a : AreNumbered (reverse lines) n number) where
  -- if the first lines of the whole are legal, so are those of a component
  component_first : (k p : ℕ) → IsShown l (reverse (take p lines)) → IsShown l (reverse (lines_of (component number k) (take p lines)))
  component_first k p legal =
      subst (λ (ks : List Line). IsShown l ks) (filter_reverse (keeps (component number k)) (take p lines))
      (legal_on_side (component number k) l (reverse (take p lines))
      (λ c d j. ap (λ (m : ℕ). m == k) ((numbered_first lines n number p a).joined c d j)) legal)

  -- if those of each component are, so are those of the whole
  components_first : (p : ℕ) → ((j : ℕ) → j < n → IsShown l (reverse (lines_of (component number j) (take p lines)))) → IsShown l (reverse (take p lines))
  components_first p each =
      (judged_by_parts l (reverse (take p lines)) n number (numbered_first lines n number p a)).1
      (λ j h. subst (λ (ks : List Line). IsShown l ks) (sym (filter_reverse (keeps (component number j)) (take p lines))) (each j h))

  -- if a component is illegal at a line, so is the whole by then
  pub illegal_by : (k place : ℕ) → IsIllegalAt l (component number k) lines place → IsShown l (reverse (take place lines)) → ⊥
  illegal_by k place i legal =
      i.illegal.illegal (plainly refl (subst (λ (ks : List Line). IsShown l (reverse ks))
      (sym (take_filtered (keeps (component number k)) lines place i.number i.is.count)) (component_first k place legal)))

  pub whole_illegal : (k place : ℕ) → IsIllegalAt l (component number k) lines place
      → ((j : ℕ) → j < n → IsLegalBefore l (component number j) lines place) → IsIllegal no_rules l lines place
  whole_illegal k place i each = record {
    some = i.is.some;
    within = i.is.within;
    illegal = λ y. illegal_by k place i (plain-from_shown l (reverse (take place lines)) y);
    legal = plainly refl (components_first (place - 1) each);
  }

  module _ (place : ℕ) (i : IsIllegal no_rules l lines place) where
    -- before the first illegal line each component is legal
    pub each_before : (k : ℕ) → IsLegalBefore l (component number k) lines place
    each_before k = component_first k (place - 1) (plain-from_shown l (reverse (take (place - 1) lines)) i.legal)

    -- a component that isn't legal up to the line is illegal at it
    illegal_there : (k : ℕ) → (IsShown l (reverse (lines_of (component number k) (take place lines))) → ⊥) → IsIllegalAt l (component number k) lines place
    illegal_there k none = by (keeps x line) refl
      where
        x : Side
        x = component number k

        line : Line
        line = get_or lines (place - 1) Halted

        one_more : lines_of x (take place lines) ≡ lines_of x (take (place - 1) lines) ++ cond (keeps x line) (line ∷ []) []
        one_more =
            ap (λ (p : ℕ). lines_of x (take p lines)) (let e : place ≡ (place - 1) + 1 = omega (arith, i.some) in e)
            ∙ filter_more (keeps x) lines (place - 1) Halted (omega (arith, i.some, i.within))

        by : (b : Bool) → keeps x line ≡ b → IsIllegalAt l x lines place
        by false off = absurd (none (subst (λ (ks : List Line). IsShown l (reverse ks))
            (sym (one_more ∙ ap (λ (b : Bool). lines_of x (take (place - 1) lines) ++ cond b (line ∷ []) []) off
            ∙ append-nil (lines_of x (take (place - 1) lines))))
            (each_before k)))
        by true on =
            let count : length (lines_of x (take (place - 1) lines)) + 1 ≡ length (lines_of x (take place lines)) =
            sym (ap length (one_more ∙ ap (λ (b : Bool). lines_of x (take (place - 1) lines) ++ cond b (line ∷ []) []) on)
            ∙ length-append (lines_of x (take (place - 1) lines)) (line ∷ [])) in
            record {
              number = length (lines_of x (take place lines));
              is = record { some = i.some; within = i.within; count = refl; before = count };
              illegal = record {
                some = omega (arith, count);
                within = within_filtered;
                illegal = λ y. none (subst (λ (ks : List Line). IsShown l (reverse ks)) (take_filtered (keeps x) lines place _ refl)
                    (plain-from_shown l (reverse (take (length (lines_of x (take place lines))) (lines_of x lines))) y));
                legal = plainly refl (subst (λ (ks : List Line). IsShown l (reverse ks))
                    (sym (take_filtered (keeps x) lines (place - 1) (length (lines_of x (take place lines)) - 1) (omega (arith, count)))) (each_before k));
              };
            }
          where
            within_filtered : length (lines_of x (take place lines)) ≤ length (lines_of x lines)
            within_filtered = omega (
              arith,
              ap length (filter-append (keeps x) (take place lines) (drop place lines)),
              ap (λ (ks : List Line). length (lines_of x ks)) (take-append-drop place lines),
              length-append (lines_of x (take place lines)) (lines_of x (drop place lines)),
            )

    pub some_component : ((k : ℕ) → k < n → IsIllegalAt l (component number k) lines place → ⊥) → ⊥
    some_component none =
        not_each n (λ k. IsShown l (reverse (lines_of (component number k) (take place lines))))
        (λ k h no. none k h (illegal_there k no))
        (λ each. i.illegal (plainly refl (components_first place each)))

-- PLACES

pub last_place : (x : Side) (before : List Line) (line : Line) (later : List Line) → keeps x line ≡ true
    → IsPlaceOf x (before ++ line ∷ later) (length (lines_of x before) + 1) (length before + 1)
last_place x before line later on = record {
  some = omega arith;
  within = omega (arith, length-append before (line ∷ later));
  count =
      ap (λ ks. length (lines_of x ks)) (take-append-add before (line ∷ later) 1)
      ∙ ap length (filter-append (keeps x) before (line ∷ []))
      ∙ length-append (lines_of x before) (lines_of x (line ∷ []))
      ∙ ap (λ (b : Bool). length (lines_of x before) + length (cond b (line ∷ []) [])) on;
  before = ap (λ ks. length (lines_of x ks) + 1) (take_at before (line ∷ later) ((length before + 1) - 1) (omega arith));
}
