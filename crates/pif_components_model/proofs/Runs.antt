-- A run of the whole projects to a run of each side: its steps are those of the side, and it shows the side's lines.
use Rattle.std.proofs.Common.{◌≡◌, ◌∙◌, Bool, true, false, cond, List, [], ◌∷◌, map, refl, sym, ap, subst, filter}
use Rattle.pif_types.specs.Bounds.{Bounds}
use Rattle.pif_search.specs.Runs.{Runs, shown}
use Rattle.pif_history_model.specs.declared.lines.Line.{Line}
use Rattle.pif_history_model.specs.declared.labels.Label.{Label}
use Rattle.pif_history_model.specs.declared.labels.Label.TheVariants.{Shown, Moves, Ends}
use Rattle.pif_history_model.specs.Plain.{PlainConfiguration, PlainAdvances}
use Rattle.pif_history_model.specs.Searched.{hides}
use Rattle.pif_components_model.specs.Components.{Name, Side, Joins, IsClosed, keeps, lines_of}
use Rattle.pif_components_model.specs.Components.Joins.{call, bound}
use Rattle.pif_components_model.specs.Components.Name.{OfThread}
use Rattle.pif_components_model.specs.Sides.{IsPart, LineBeside, AreBeside, steps_on}
use Rattle.pif_components_model.proofs.Projecting.{part_steps, part_stays}

-- CLOSED SIDES

-- what earlier lines join, all do
pub joined_later : (k : Line) (ks : List Line) (a b : Name) → Joins ks a b → Joins (k ∷ ks) a b
joined_later k ks a b (call before later t q n e named) = call before (k ∷ later) t q n (ap (λ (l : List Line). k ∷ l) e) named
joined_later k ks a b (bound before later m e) = bound before (k ∷ later) m (ap (λ (l : List Line). k ∷ l) e)

-- a side that is closed for lines is so for the earlier ones
closed_before : (x : Side) (k : Line) (ks : List Line) → IsClosed (k ∷ ks) x → IsClosed ks x
closed_before x k ks closed a b h = closed a b (joined_later k ks a b h)

-- the call that the last line begins names what is on its thread's side
last_beside : (x : Side) (k : Line) (ks : List Line) → IsClosed (k ∷ ks) x → LineBeside x k
last_beside x k ks closed = λ t q e n named. sym (closed (OfThread t) n (call ks [] t q n (ap (λ (l : Line). l ∷ ks) e) named))

-- so it is of each call
pub beside_all : (x : Side) (ks : List Line) → IsClosed ks x → AreBeside x ks
beside_all x [] closed = tt
beside_all x (k ∷ ks) closed = (last_beside x k ks closed, beside_all x ks (closed_before x k ks closed))

-- RUNS

-- a run of the part, of the steps of the side
pub record PartRuns (x : Side) (l : Bounds) (p : PlainConfiguration) (h : List Label) (lines : List Line) (n : PlainConfiguration) : Type 0 where
  pub last : PlainConfiguration
  pub run : Runs (PlainAdvances l) p (filter (steps_on x) h) last
  pub shows : shown hides (filter (steps_on x) h) ≡ map (λ (k : Line). Shown k) (lines_of x lines)
  pub part : IsPart x n last

module _ (x : Side) (l : Bounds) (s p : PlainConfiguration) (part : IsPart x s p) where
  -- with one more step
  more : (y : Label) (h : List Label) (lines next : List Line) (m n : PlainConfiguration) → PartRuns x l p h lines m
      → ((k : Line) → y ≡ Shown k → LineBeside x k) → PlainAdvances l m y n
      → (b : Bool) → steps_on x y ≡ b
      → (shown hides (filter (steps_on x) h) ≡ map (λ (k : Line). Shown k) (lines_of x lines)
      → shown hides (cond b (y ∷ filter (steps_on x) h) (filter (steps_on x) h)) ≡ map (λ (k : Line). Shown k) (lines_of x next))
      → PartRuns x l p (y ∷ h) next n
  more y h lines next m n r named step true e shows =
      let f = part_steps x l m r.last r.part y n named e step in
      let is : filter (steps_on x) (y ∷ h) ≡ y ∷ filter (steps_on x) h =
      ap (λ (b : Bool). cond b (y ∷ filter (steps_on x) h) (filter (steps_on x) h)) e in
      record {
        last = f.next;
        run = subst (λ (z : List Label). Runs (PlainAdvances l) p z f.next) (sym is) (r.last, r.run, f.step);
        shows = ap (shown hides) is ∙ shows r.shows;
        part = f.part;
      }
  more y h lines next m n r named step false e shows =
      let is : filter (steps_on x) (y ∷ h) ≡ filter (steps_on x) h =
      ap (λ (b : Bool). cond b (y ∷ filter (steps_on x) h) (filter (steps_on x) h)) e in
      record {
        last = r.last;
        run = subst (λ (z : List Label). Runs (PlainAdvances l) p z r.last) (sym is) r.run;
        shows = ap (shown hides) is ∙ shows r.shows;
        part = part_stays x l m r.last r.part y n named e step;
      }

  -- a hidden step shows no line
  unseen : (y : Label) → hides y ≡ true → (h : List Label) (lines : List Line) (b : Bool)
      → shown hides (filter (steps_on x) h) ≡ map (λ (k : Line). Shown k) (lines_of x lines)
      → shown hides (cond b (y ∷ filter (steps_on x) h) (filter (steps_on x) h)) ≡ map (λ (k : Line). Shown k) (lines_of x lines)
  unseen (Moves t) e h lines true i = i
  unseen (Moves t) e h lines false i = i
  unseen (Ends t) e h lines true i = i
  unseen (Ends t) e h lines false i = i
  unseen (Shown k) e h lines b i = absurd (cc)

  -- a line is shown if the side keeps it
  seen_line : (k : Line) (h : List Label) (ks : List Line) (b : Bool) → keeps x k ≡ b
      → shown hides (filter (steps_on x) h) ≡ map (λ (k : Line). Shown k) (lines_of x ks)
      → shown hides (cond b (Shown k ∷ filter (steps_on x) h) (filter (steps_on x) h)) ≡ map (λ (k : Line). Shown k) (lines_of x (k ∷ ks))
  seen_line k h ks true e i =
      ap (λ (z : List Label). Shown k ∷ z) i
      ∙ ap (λ (c : Bool). map (λ (k : Line). Shown k) (cond c (k ∷ lines_of x ks) (lines_of x ks))) (sym e)
  seen_line k h ks false e i = i ∙ ap (λ (c : Bool). map (λ (k : Line). Shown k) (cond c (k ∷ lines_of x ks) (lines_of x ks))) (sym e)

  -- a run of the whole projects to the side
  pub run_projects : (h : List Label) (lines : List Line) (n : PlainConfiguration) → AreBeside x lines → Runs (PlainAdvances l) s h n
      → shown hides h ≡ map (λ (k : Line). Shown k) lines → PartRuns x l p h lines n
  run_projects [] [] n named r e = record { last = p; run = refl; shows = refl; part = subst (λ (z : PlainConfiguration). IsPart x z p) r part }
  run_projects [] (k ∷ ks) n named r e = absurd (cc)
  run_projects (Moves t ∷ h) lines n named r e =
      more (Moves t) h lines lines r.0 n (run_projects h lines r.0 named r.1 e) (λ k i. absurd (cc)) r.2 (x (OfThread t)) refl
      (unseen (Moves t) refl h lines (x (OfThread t)))
  run_projects (Ends t ∷ h) lines n named r e =
      more (Ends t) h lines lines r.0 n (run_projects h lines r.0 named r.1 e) (λ k i. absurd (cc)) r.2 (x (OfThread t)) refl
      (unseen (Ends t) refl h lines (x (OfThread t)))
  run_projects (Shown k ∷ h) [] n named r e = absurd (cc)
  run_projects (Shown k ∷ h) (j ∷ ks) n named r e =
      let same : k ≡ j = cc in
      let rest : shown hides h ≡ map (λ (i : Line). Shown i) ks = cc in
      let here : AreBeside x (k ∷ ks) = subst (λ (i : Line). AreBeside x (i ∷ ks)) (sym same) named in
      subst (λ (i : Line). PartRuns x l p (Shown k ∷ h) (i ∷ ks) n) same
      (more (Shown k) h ks (k ∷ ks) r.0 n (run_projects h ks r.0 here.1 r.1 rest)
      (λ i e. let is : k ≡ i = cc in subst (LineBeside x) is here.0) r.2 (keeps x k) refl
      (seen_line k h ks (keeps x k) refl))
