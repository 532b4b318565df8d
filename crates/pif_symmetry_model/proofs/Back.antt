-- States of a symmetric program that are the same but for names are so back, too: by the names that they had. So final
-- states are final by other names, and what is reached is.
use Rattle.std.proofs.Common.{ℕ, ◌≡◌, ◌<◌, ◌∙◌, false, List, [], ◌∷◌, length, get_or, map, slice_get, Option, Some, None, refl, sym, ap, subst}
use Rattle.pif_search.specs.Runs.{Runs}
use Rattle.pif_rules_model.specs.declared.rules.Rules.{Rules}
use Rattle.pif_explore_model.specs.declared.programs.Point.{Point}
use Rattle.pif_explore_model.specs.declared.programs.Point.TheVariants as point
use Rattle.pif_explore_model.specs.declared.labels.Label.{Label}
use Rattle.pif_explore_model.specs.declared.labels.Label.TheVariants.{Begins, Moves, Answers, Computes, Exits, Ticks, Ends, ByRule, EndsByRule}
use Rattle.pif_explore_model.specs.Situations.{Plan, Situation, may_end}
use Rattle.pif_explore_model.specs.Exploring.{Steps, IsFinal, is_optional}
use Rattle.pif_symmetry_model.specs.Symmetry.{IsMoved, IsSymmetric, IsPlain, MirrorsState, renamed_point, renamed_point_at, renamed_label}
use Rattle.pif_symmetry_model.proofs.Classes.{request_both, request_none, map_both, map_none, mirrors_back}
use Rattle.pif_symmetry_model.proofs.Schedules.{too_steps}

-- LISTS AND POINTS

moved_back : {A : Type 0} (f b : ℕ → ℕ) (again : (t : ℕ) → f (b t) ≡ t) (d : A) (h k : A → A) (same : (x : A) → k (h x) ≡ x)
    → (xs ys : List A) → IsMoved f d h xs ys → IsMoved b d k ys xs
moved_back f b again d h k same xs ys m = record {
  size = sym m.size;
  within = λ t l. subst (λ n. b t < n) (sym m.size) (m.back_within (b t) (subst (λ z. z < length xs) (sym (again t)) (subst (λ n. t < n) m.size l)));
  back_within = λ t l. subst (λ n. t < n) (sym m.size) (subst (λ z. z < length xs) (again t) (m.within (b t) (subst (λ n. b t < n) m.size l)));
  place = λ t. sym (ap k (ap (λ z. get_or ys z d) (sym (again t)) ∙ m.place (b t)) ∙ same (get_or xs (b t) d));
}

module _ (f g b c : ℕ → ℕ) (there : (t : ℕ) → b (f t) ≡ t) (same : (i : ℕ) → c (g i) ≡ i) where
  point_back : (x : Point) → renamed_point b c (renamed_point f g x) ≡ x
  point_back (point.Call q next) = λ i. point.Call ((request_both f b q ∙ request_none (λ t. b (f t)) there q) i) (same next i)
  point_back (point.Set x o next) = λ i. point.Set x o (same next i)
  point_back (point.Add x o next) = λ i. point.Add x o (same next i)
  point_back (point.IfCell x w k l) = λ i. point.IfCell x w (same k i) (same l i)
  point_back (point.IfAnswer r k l) = λ i. point.IfAnswer r (same k i) (same l i)
  point_back (point.Choose x l m next) = λ i. point.Choose x l m (same next i)
  point_back (point.Join u next) = λ i. point.Join (there u i) (same next i)
  point_back (point.Start u next) = λ i. point.Start (there u i) (same next i)
  point_back (point.Unstarted first) = λ i. point.Unstarted (same first i)
  point_back point.Exit = refl

  point_back_at : (o : Option Point) → renamed_point_at b c (renamed_point_at f g o) ≡ o
  point_back_at None = refl
  point_back_at (Some x) = ap (λ (z : Point). Some z) (point_back x)

-- STATES

optional_same : (f : ℕ → ℕ) (r : Rules) (l : Label) → is_optional r (renamed_label f l) ≡ is_optional r l
optional_same f r (Begins t) = refl
optional_same f r (Moves t) = refl
optional_same f r (Answers t) = refl
optional_same f r (Computes t) = refl
optional_same f r (Exits t) = refl
optional_same f r Ticks = refl
optional_same f r (Ends t) = refl
optional_same f r (ByRule t rule) = refl
optional_same f r (EndsByRule t rule) = refl

module _ (f g : ℕ → ℕ) (p : Plan) (y : IsSymmetric f g p) (s n : Situation) (a : MirrorsState f g p s n) where
  abbrev back : ℕ → ℕ
  back = a.world.renaming.back

  symmetric_back : IsSymmetric back y.back p
  symmetric_back = record {
    back = g;
    there = y.again;
    again = y.there;
    points = λ i. sym (ap (renamed_point_at back y.back) (ap (slice_get p.points) (sym (y.again i)) ∙ y.points (y.back i))
        ∙ point_back_at f g back y.back a.world.renaming.there y.there (slice_get p.points (y.back i)));
    beyond = ap y.back (sym y.beyond) ∙ y.there (length p.points);
    enders = λ t. sym (y.enders (back t)) ∙ ap (may_end p) (a.world.renaming.again t);
  }

  pub state_back : MirrorsState back y.back p n s
  state_back = record {
    world = mirrors_back f s.world n.world a.world;
    places = moved_back f back a.world.renaming.again (length p.points) g y.back y.there s.places n.places a.places;
    lasts = moved_back f back a.world.renaming.again None (λ x. x) (λ x. x) (λ x. refl) s.lasts n.lasts a.lasts;
    answers = moved_back g y.back y.again None (λ x. x) (λ x. x) (λ x. refl) s.answers n.answers a.answers;
    cells = sym a.cells;
    ends = sym a.ends;
    ticked = sym a.ticked;
    marks = record {
      lost = sym a.marks.lost;
      unblocked = moved_back f back a.world.renaming.again false (λ x. x) (λ x. x) (λ x. refl) s.marks.unblocked n.marks.unblocked a.marks.unblocked;
      late = moved_back f back a.world.renaming.again false (λ x. x) (λ x. x) (λ x. refl) s.marks.late n.marks.late a.marks.late;
    };
    gone = sym a.gone;
    apart = sym (ap (map back) a.apart ∙ map_both back f (λ t. t) a.world.renaming.there s.apart ∙ map_none (λ t. t) (λ t. refl) s.apart);
  }

  -- a final state is final by other names
  pub final_there : IsPlain p → IsFinal p s → IsFinal p n
  final_there none final l k x =
      let m = too_steps back y.back p symmetric_back n s state_back none l k x in
      sym (optional_same back p.rules l) ∙ final (renamed_label back l) m.after m.step

-- a run, by other names
pub too_run : (f g : ℕ → ℕ) (p : Plan) → IsSymmetric f g p → IsPlain p → (s n : Situation) → MirrorsState f g p s n
    → (steps : List Label) (k : Situation) → Runs (Steps p) s steps k
    → (o : Situation) × Runs (Steps p) n (map (renamed_label f) steps) o × MirrorsState f g p k o
too_run f g p y none s n a [] k run = (n, refl, subst (λ (z : Situation). MirrorsState f g p z n) run a)
too_run f g p y none s n a (l ∷ steps) k run =
    let before = too_run f g p y none s n a steps run.0 run.1 in
    let m = too_steps f g p y run.0 before.0 before.2 none l k run.2 in
    (m.after, (before.0, before.1, m.step), m.mirrors)
