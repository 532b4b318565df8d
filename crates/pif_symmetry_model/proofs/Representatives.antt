-- A search that takes one state for all that are the same but for names reaches one of each class that is reached.
use Rattle.std.proofs.Common.{ℕ, ◌≡◌, ◌<◌, ◌∙◌, List, [], ◌∷◌, length, map, slice_get, Option, Some, None, refl, sym, ap, subst}
use Rattle.pif_search.specs.Runs.{Runs}
use Rattle.pif_explore_model.specs.declared.programs.Point.{Point}
use Rattle.pif_explore_model.specs.declared.programs.Point.TheVariants as point
use Rattle.pif_explore_model.specs.declared.labels.Label.{Label}
use Rattle.pif_explore_model.specs.Situations.{Plan, Situation}
use Rattle.pif_explore_model.specs.Exploring.{Steps}
use Rattle.pif_symmetry_model.specs.Symmetry.{IsMoved, IsSymmetric, IsPlain, MirrorsState, renamed_point, renamed_point_at, renamed_label}
use Rattle.pif_symmetry_model.specs.Representatives.{AreOfOneClass, StepsTo}
use Rattle.pif_symmetry_model.proofs.Classes.{request_both, map_both, mirrors_on}
use Rattle.pif_symmetry_model.proofs.Schedules.{too_steps}

-- CLASSES GO ON

moved_on : {A : Type 0} (f b : ℕ → ℕ) (d : A) (h k : A → A) (xs ys zs : List A) → IsMoved f d h xs ys → IsMoved b d k ys zs
    → IsMoved (λ t. b (f t)) d (λ x. k (h x)) xs zs
moved_on f b d h k xs ys zs m e = record {
  size = e.size ∙ m.size;
  within = λ t l. subst (λ n. b (f t) < n) m.size (e.within (f t) (subst (λ n. f t < n) (sym m.size) (m.within t l)));
  back_within = λ t l. m.back_within t (subst (λ n. f t < n) m.size (e.back_within (f t) (subst (λ n. b (f t) < n) (sym m.size) l)));
  place = λ t. e.place (f t) ∙ ap k (m.place t);
}

module _ (f g b c : ℕ → ℕ) where
  point_both : (x : Point) → renamed_point b c (renamed_point f g x) ≡ renamed_point (λ t. b (f t)) (λ i. c (g i)) x
  point_both (point.Call q next) = λ i. point.Call (request_both f b q i) (c (g next))
  point_both (point.Set x o next) = refl
  point_both (point.Add x o next) = refl
  point_both (point.IfCell x w k l) = refl
  point_both (point.IfAnswer r k l) = refl
  point_both (point.Choose x l m next) = refl
  point_both (point.Join u next) = refl
  point_both (point.Start u next) = refl
  point_both (point.Unstarted first) = refl
  point_both point.Exit = refl

  point_both_at : (o : Option Point) → renamed_point_at b c (renamed_point_at f g o) ≡ renamed_point_at (λ t. b (f t)) (λ i. c (g i)) o
  point_both_at None = refl
  point_both_at (Some x) = ap (λ (z : Point). Some z) (point_both x)

  symmetric_on : (p : Plan) → IsSymmetric f g p → IsSymmetric b c p → IsSymmetric (λ t. b (f t)) (λ i. c (g i)) p
  symmetric_on p y e = record {
    back = λ i. y.back (e.back i);
    there = λ i. ap y.back (e.there (g i)) ∙ y.there i;
    again = λ i. ap c (y.again (e.back i)) ∙ e.again i;
    points = λ i. e.points (g i) ∙ ap (renamed_point_at b c) (y.points i) ∙ point_both_at (slice_get p.points i);
    beyond = ap c y.beyond ∙ e.beyond;
    enders = λ t. e.enders (f t) ∙ y.enders t;
  }

  state_on : (p : Plan) (s n k : Situation) → MirrorsState f g p s n → MirrorsState b c p n k → MirrorsState (λ t. b (f t)) (λ i. c (g i)) p s k
  state_on p s n k a e = record {
    world = mirrors_on f b s.world n.world k.world a.world e.world;
    places = moved_on f b (length p.points) g c s.places n.places k.places a.places e.places;
    lasts = moved_on f b None (λ x. x) (λ x. x) s.lasts n.lasts k.lasts a.lasts e.lasts;
    answers = moved_on g c None (λ x. x) (λ x. x) s.answers n.answers k.answers a.answers e.answers;
    cells = e.cells ∙ a.cells;
    ends = e.ends ∙ a.ends;
    ticked = e.ticked ∙ a.ticked;
    marks = record {
      lost = e.marks.lost ∙ a.marks.lost;
      unblocked = moved_on f b _ (λ x. x) (λ x. x) s.marks.unblocked n.marks.unblocked k.marks.unblocked a.marks.unblocked e.marks.unblocked;
      late = moved_on f b _ (λ x. x) (λ x. x) s.marks.late n.marks.late k.marks.late a.marks.late e.marks.late;
    };
    gone = e.gone ∙ a.gone;
    apart = e.apart ∙ ap (map b) a.apart ∙ map_both b f (λ t. b (f t)) (λ t. refl) s.apart;
  }

pub class_on : (p : Plan) (s n k : Situation) → AreOfOneClass p s n → AreOfOneClass p n k → AreOfOneClass p s k
class_on p s n k a b = record {
  name = λ t. b.name (a.name t);
  point = λ i. b.point (a.point i);
  symmetric = symmetric_on a.name a.point b.name b.point p a.symmetric b.symmetric;
  mirrors = state_on a.name a.point b.name b.point p s n k a.mirrors b.mirrors;
}

-- THE SEARCH

module _ (p : Plan) (none : IsPlain p) (taken : Situation → Situation) (one : (s : Situation) → AreOfOneClass p s (taken s)) where
  pub reached_by_class : (s n : Situation) → AreOfOneClass p s n → (steps : List Label) (k : Situation) → Runs (Steps p) s steps k
      → (o : Situation) × (found : List Label) × Runs (StepsTo p taken) n found o × AreOfOneClass p k o
  reached_by_class s n a [] k run = (n, [], refl, subst (λ (z : Situation). AreOfOneClass p z n) run a)
  reached_by_class s n a (l ∷ steps) k run =
      let before = reached_by_class s n a steps run.0 run.1 in
      let x = before.3 in
      let m = too_steps x.name x.point p x.symmetric run.0 before.0 x.mirrors none l k run.2 in
      let here : AreOfOneClass p k m.after = record { name = x.name; point = x.point; symmetric = x.symmetric; mirrors = m.mirrors } in (
        taken m.after,
        renamed_label x.name l ∷ before.1,
        (before.0, before.2, record { behind = m.after; step = m.step; same = refl }),
        class_on p k m.after (taken m.after) here (one m.after),
      )
