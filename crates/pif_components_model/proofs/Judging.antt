-- A history is legal exactly if the lines of two sides are, or those of all components.
use Rattle.std.proofs.Common.{ℕ, zero, suc, ◌≡◌, ◌+◌, ◌<◌, ◌-◌, ◌↔◌, ◌∙◌, ◌==◌, nat_lt, Bool, true, false, not, cond, List, [], ◌∷◌, map, Option, Some, None, refl, sym, ap, subst, if◌then◌else◌, filter, arith}
use Rattle.std.proofs.lemmas.Bool.{lt-ltb}
use Rattle.std.proofs.lemmas.Bool.Decides.{nat_tests}
use Rattle.pif_types.specs.Bounds.{Bounds}
use Rattle.pif_history_model.specs.declared.lines.Line.{Line}
use Rattle.pif_history_model.specs.declared.labels.Label.TheVariants.{Shown}
use Rattle.pif_history_model.specs.Lines.{thread_of}
use Rattle.pif_history_model.specs.Plain.{PlainConfiguration, plain_start_of}
use Rattle.pif_history_model.specs.Shown.{IsShown}
use Rattle.pif_history_model.proofs.Completeness.{reached-from_shown}
use Rattle.pif_history_model.proofs.Soundness.{shown-from_search}
use Rattle.pif_components_model.specs.Components.{Name, Side, AreNumbered, component, keeps, lines_of, others}
use Rattle.pif_components_model.specs.Components.Name.{OfThread}
use Rattle.pif_components_model.specs.Sides.{AreBeside, steps_on}
use Rattle.pif_components_model.specs.Laws.{IsJudgedBySides}
use Rattle.pif_components_model.proofs.Lists.{filter_within, filter_both, filter_all}
use Rattle.pif_components_model.proofs.Runs.{beside_all, run_projects}
use Rattle.pif_components_model.proofs.Splitting.{OwnRun, filtered_on}
use Rattle.pif_components_model.proofs.Merging.{lines_others, merge}
use Rattle.pif_components_model.proofs.Legal.{part_of_start, legal_beside}

-- TWO SIDES

-- what is so of each line is so of the lines of a side
beside_within : (x y : Side) (lines : List Line) → AreBeside x lines → AreBeside x (lines_of y lines)
beside_within x y [] named = tt
beside_within x y (k ∷ ks) named = step (keeps y k) (beside_within x y ks named.1)
  where
    step : (b : Bool) → AreBeside x (lines_of y ks) → AreBeside x (cond b (k ∷ lines_of y ks) (lines_of y ks))
    step true ih = (named.0, ih)
    step false ih = ih

-- lines of a side that some run shows are shown by a run of steps of that side alone
own_run : (x : Side) (l : Bounds) (lines : List Line) → AreBeside x lines → IsShown l (lines_of x lines)
    → (p : PlainConfiguration) × OwnRun x l (lines_of x lines) p
own_run x l lines named legal =
    let r = reached-from_shown l (lines_of x lines) legal in
    let f =
    run_projects x l (plain_start_of l) (plain_start_of l) (part_of_start x l) r.1.history (lines_of x lines) r.0
    (beside_within x x lines named) r.1.run r.1.shows in (
      f.last,
      record {
        history = filter (steps_on x) r.1.history;
        own = filtered_on x r.1.history;
        run = f.run;
        shows = f.shows ∙ ap (λ (ks : List Line). map (λ (k : Line). Shown k) ks) (filter_within (keeps x) (keeps x) lines (λ k e. e));
      },
    )

pub legal_of_sides : (x : Side) (l : Bounds) (lines : List Line) → AreBeside x lines → IsShown l (lines_of x lines)
    → IsShown l (lines_of (others x) lines) → IsShown l lines
legal_of_sides x l lines named legal its =
    let f = own_run x l lines named legal in
    let g = own_run (others x) l lines (lines_others x lines named) its in
    let m = merge x l lines named f.0 g.0 f.1 g.1 in
    shown-from_search l lines m.whole m.run

pub judged_by_sides : (l : Bounds) (lines : List Line) → IsJudgedBySides l lines
judged_by_sides l lines x closed =
    let named = beside_all x lines closed in (
      λ legal. (legal_beside x l lines named legal, legal_beside (others x) l lines (lines_others x lines named) legal),
      λ both. legal_of_sides x l lines named both.0 both.1,
    )

-- COMPONENTS

-- the names of the first m components
abbrev below : (Name → ℕ) → ℕ → Side
below number m = λ a. nat_lt (number a) m

first_alone : (n : ℕ) → (n == 0) ≡ nat_lt n 1
first_alone n = grind (arith, nat_tests)

within_more : (n m : ℕ) → nat_lt n m ≡ true → nat_lt n (m + 1) ≡ true
within_more n m e = grind (arith, nat_tests)

last_of_more : (n m : ℕ) → (if nat_lt n (m + 1) then not (nat_lt n m) else false) ≡ (n == m)
last_of_more n m = grind (arith, nat_tests)

module _ (l : Bounds) (lines : List Line) (n : ℕ) (number : Name → ℕ) (a : AreNumbered lines n number) where
  -- the lines name what is on one side, if a side has whole components
  whole_components : (f : ℕ → Bool) → AreBeside (λ c. f (number c)) lines
  whole_components f = beside_all (λ c. f (number c)) lines (λ c d j. ap f (a.joined c d j))

  -- of the first components and one more, the lines of the first ones are those
  first_ones : (m : ℕ) → lines_of (below number m) (lines_of (below number (m + 1)) lines) ≡ lines_of (below number m) lines
  first_ones m = filter_within (keeps (below number m)) (keeps (below number (m + 1))) lines (λ k e. by (thread_of k) e)
    where
      by : (o : Option ℕ) → elim o [ None ↦ true | Some t ↦ below number m (OfThread t) ] ≡ true
          → elim o [ None ↦ true | Some t ↦ below number (m + 1) (OfThread t) ] ≡ true
      by None e = refl
      by (Some t) e = within_more (number (OfThread t)) m e

  -- and the others are those of the one
  other_one : (m : ℕ) → lines_of (others (below number m)) (lines_of (below number (m + 1)) lines) ≡ lines_of (component number m) lines
  other_one m =
      filter_both (keeps (others (below number m))) (keeps (below number (m + 1))) (keeps (component number m)) lines (λ k. by (thread_of k))
    where
      by : (o : Option ℕ)
          → (if elim o [ None ↦ true | Some t ↦ below number (m + 1) (OfThread t) ]
          then elim o [ None ↦ true | Some t ↦ others (below number m) (OfThread t) ] else false)
          ≡ elim o [ None ↦ true | Some t ↦ component number m (OfThread t) ]
      by None = refl
      by (Some t) = last_of_more (number (OfThread t)) m

  -- the first components together are legal if each is
  first_legal : (m : ℕ) → ((k : ℕ) → k < m + 1 → IsShown l (lines_of (component number k) lines)) → IsShown l (lines_of (below number (m + 1)) lines)
  first_legal zero each =
      subst (λ (x : Side). IsShown l (lines_of x lines)) (λ i. λ c. first_alone (number c) i) (each 0 (omega arith))
  first_legal (suc m) each =
      let together = lines_of (below number (suc m + 1)) lines in
      let less : IsShown l (lines_of (below number (suc m)) lines) =
      subst (λ (j : ℕ). IsShown l (lines_of (below number j) lines)) (let e : m + 1 ≡ suc m = omega arith in e)
      (first_legal m (λ k h. each k (omega (arith, h)))) in
      legal_of_sides (below number (suc m)) l together
      (beside_within (below number (suc m)) (below number (suc m + 1)) lines (whole_components (λ j. nat_lt j (suc m))))
      (subst (λ (ks : List Line). IsShown l ks) (sym (first_ones (suc m))) less)
      (subst (λ (ks : List Line). IsShown l ks) (sym (other_one (suc m))) (each (suc m) (omega arith)))

  -- all of them are all lines
  all_components : lines_of (below number n) lines ≡ lines
  all_components = filter_all (keeps (below number n)) lines (λ k. by (thread_of k))
    where
      by : (o : Option ℕ) → elim o [ None ↦ true | Some t ↦ below number n (OfThread t) ] ≡ true
      by None = refl
      by (Some t) = lt-ltb (number (OfThread t)) n (a.below (OfThread t))

  legal_of_parts : ((k : ℕ) → k < n → IsShown l (lines_of (component number k) lines)) → IsShown l lines
  legal_of_parts each =
      let one : 0 < n = omega (arith, a.below (OfThread 0)) in
      let last : (n - 1) + 1 ≡ n = omega arith in
      subst (λ (ks : List Line). IsShown l ks) (ap (λ (m : ℕ). lines_of (below number m) lines) last ∙ all_components)
      (first_legal (n - 1) (λ k h. each k (omega (arith, h, one))))

  pub judged_by_parts : IsShown l lines ↔ ((k : ℕ) → k < n → IsShown l (lines_of (component number k) lines))
  judged_by_parts = (
    λ legal k h. legal_beside (component number k) l lines (whole_components (λ j. j == k)) legal,
    legal_of_parts,
  )
