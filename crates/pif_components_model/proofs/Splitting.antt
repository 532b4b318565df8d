-- A run of steps of one side alone, and how it is split at the last line that it shows.
use Rattle.std.proofs.Common.{◌≡◌, Bool, true, false, cond, List, [], ◌∷◌, map, refl, subst, filter}
use Rattle.pif_types.specs.Bounds.{Bounds}
use Rattle.pif_search.specs.Runs.{Runs, shown}
use Rattle.pif_history_model.specs.declared.lines.Line.{Line}
use Rattle.pif_history_model.specs.declared.labels.Label.{Label}
use Rattle.pif_history_model.specs.declared.labels.Label.TheVariants.{Shown, Moves, Ends}
use Rattle.pif_history_model.specs.Plain.{PlainConfiguration, PlainAdvances, plain_start_of}
use Rattle.pif_history_model.specs.Searched.{hides}
use Rattle.pif_components_model.specs.Components.{Side}
use Rattle.pif_components_model.specs.Sides.{steps_on}

-- these steps are of the side
abbrev pub AreOn : Side → List Label → Type 0
AreOn x [] = Unit {0}
AreOn x (y ∷ h) = (steps_on x y ≡ true) × AreOn x h

-- those of a side among all are
pub filtered_on : (x : Side) (h : List Label) → AreOn x (filter (steps_on x) h)
filtered_on x [] = tt
filtered_on x (y ∷ h) = step (steps_on x y) refl (filtered_on x h)
  where
    step : (b : Bool) → steps_on x y ≡ b → AreOn x (filter (steps_on x) h)
        → AreOn x (cond b (y ∷ filter (steps_on x) h) (filter (steps_on x) h))
    step true e ih = (e, ih)
    step false e ih = ih

-- a run from the start, of steps of the side alone, shows these lines and leads to p
pub record OwnRun (x : Side) (l : Bounds) (lines : List Line) (p : PlainConfiguration) : Type 0 where
  pub history : List Label
  pub own : AreOn x history
  pub run : Runs (PlainAdvances l) (plain_start_of l) history p
  pub shows : shown hides history ≡ map (λ (k : Line). Shown k) lines

-- it is split: behind the lines before the last one, that line is shown, and then come hidden steps
pub record SplitsAt (x : Side) (l : Bounds) (k : Line) (ks : List Line) (p : PlainConfiguration) : Type 0 where
  pub before : PlainConfiguration
  pub first : OwnRun x l ks before
  pub behind : PlainConfiguration
  pub step : PlainAdvances l before (Shown k) behind
  pub hidden : List Label
  pub own : AreOn x hidden
  pub run : Runs (PlainAdvances l) behind hidden p
  pub none : shown hides hidden ≡ []

module _ (x : Side) (l : Bounds) (k : Line) (ks : List Line) where
  split_at : (h : List Label) (p : PlainConfiguration) → AreOn x h → Runs (PlainAdvances l) (plain_start_of l) h p
      → shown hides h ≡ Shown k ∷ map (λ (j : Line). Shown j) ks → SplitsAt x l k ks p
  split_at [] p own r e = absurd (cc)
  split_at (Moves t ∷ h) p own r e =
      let f = split_at h r.0 own.1 r.1 e in
      record {
        before = f.before;
        first = f.first;
        behind = f.behind;
        step = f.step;
        hidden = Moves t ∷ f.hidden;
        own = (own.0, f.own);
        run = (r.0, f.run, r.2);
        none = f.none;
      }
  split_at (Ends t ∷ h) p own r e =
      let f = split_at h r.0 own.1 r.1 e in
      record {
        before = f.before;
        first = f.first;
        behind = f.behind;
        step = f.step;
        hidden = Ends t ∷ f.hidden;
        own = (own.0, f.own);
        run = (r.0, f.run, r.2);
        none = f.none;
      }
  split_at (Shown j ∷ h) p own r e =
      let same : j ≡ k = cc in
      let rest : shown hides h ≡ map (λ (j : Line). Shown j) ks = cc in
      record {
        before = r.0;
        first = record { history = h; own = own.1; run = r.1; shows = rest };
        behind = p;
        step = subst (λ (z : Line). PlainAdvances l r.0 (Shown z) p) same r.2;
        hidden = [];
        own = tt;
        run = refl;
        none = refl;
      }

  pub split_last : (p : PlainConfiguration) → OwnRun x l (k ∷ ks) p → SplitsAt x l k ks p
  split_last p r = split_at r.history p r.own r.run r.shows
