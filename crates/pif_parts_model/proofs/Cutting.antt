-- A run is cut behind the lines of its first part, and goes on from there.
use Rattle.std.proofs.Common.{◌≡◌, ◌∙◌, Bool, true, false, List, [], ◌∷◌, ◌++◌, map, refl, sym, ap, subst, if◌then◌else◌}
use Rattle.std.proofs.lemmas.List.{map-append}
use Rattle.pif_types.specs.Bounds.{Bounds}
use Rattle.pif_search.specs.Runs.{Runs, shown, CanShow}
use Rattle.pif_history_model.specs.declared.lines.Line.{Line}
use Rattle.pif_history_model.specs.declared.labels.Label.{Label}
use Rattle.pif_history_model.specs.declared.labels.Label.TheVariants.{Shown}
use Rattle.pif_history_model.specs.Plain.{PlainConfiguration, PlainAdvances, plain_start_of}
use Rattle.pif_history_model.specs.Searched.{hides}
use Rattle.pif_history_model.specs.Shown.{IsShown}
use Rattle.pif_history_model.specs.Forgetting.{StandsFor}
use Rattle.pif_history_model.proofs.Completeness.{reached-from_shown}
use Rattle.pif_history_model.proofs.Soundness.{shown-from_search}
use Rattle.pif_history_model.proofs.Running.{CanShow-append}
use Rattle.pif_history_model.proofs.Forgetting.{stands_for_back, same_steps}
use Rattle.pif_parts_model.specs.Quiet.{IsQuiet}
use Rattle.pif_parts_model.specs.Resting.{rest_by}
use Rattle.pif_parts_model.specs.Parts.{IsShownFrom}
use Rattle.pif_parts_model.proofs.Stepping.{shown_accounted}
use Rattle.pif_parts_model.proofs.Resting.{rests_there}

-- RUNS OF ANY MACHINE

module _ {S L : Type 0} (Step : S → L → S → Type 0) (hides_it : L → Bool) where
  -- some state is behind the first of these lines and before the others
  pub record IsCutAt (s : S) (later before : List L) (n : S) : Type 0 where
    pub middle : S
    pub first : CanShow Step hides_it s before middle
    pub second : CanShow Step hides_it middle later n

  -- a run that is no longer
  nothing_more : (n : S) → CanShow Step hides_it n [] n
  nothing_more n = record { history = []; run = refl; shows = refl }

  -- one more step
  one_step : (s p n : S) (x : L) (lines : List L) → CanShow Step hides_it s lines p → Step p x n
      → CanShow Step hides_it s (if hides_it x then lines else x ∷ lines) n
  one_step s p n x lines c step = record {
    history = x ∷ c.history;
    run = (p, c.run, step);
    shows = ap (λ (ys : List L). if hides_it x then ys else x ∷ ys) c.shows;
  }

  cut : (h : List L) (s n : S) (later before : List L) → Runs Step s h n → shown hides_it h ≡ later ++ before
      → IsCutAt s later before n
  cut [] s n [] before r e = record { middle = n; first = record { history = []; run = r; shows = e }; second = nothing_more n }
  cut [] s n (y ∷ ys) before r e = absurd (cc)
  cut (x ∷ h) s n later before r e = go (hides_it x) refl e later refl (λ ys f. cut h s r.0 ys before r.1 f)
    where
      -- the cut is in what came before the last step
      earlier : (ys : List L) → IsCutAt s ys before r.0 → (later ≡ (if hides_it x then ys else x ∷ ys)) → IsCutAt s later before n
      earlier ys c is =
          record {
            middle = c.middle;
            first = c.first;
            second = subst (λ (zs : List L). CanShow Step hides_it c.middle zs n) (sym is) (one_step c.middle r.0 n x ys c.second r.2);
          }

      go : (b : Bool) → hides_it x ≡ b → (if b then shown hides_it h else x ∷ shown hides_it h) ≡ later ++ before
          → (ys : List L) → later ≡ ys
          → ((zs : List L) → shown hides_it h ≡ zs ++ before → IsCutAt s zs before r.0) → IsCutAt s later before n
      go true is f ys same less = earlier later (less later f) (ap (λ b. if b then later else x ∷ later) (sym is))
      go false is f [] same less = record {
        middle = n;
        first = record {
          history = x ∷ h;
          run = r;
          shows = ap (λ (b : Bool). if b then shown hides_it h else x ∷ shown hides_it h) is ∙ f ∙ ap (λ (zs : List L). zs ++ before) same;
        };
        second = subst (λ (zs : List L). CanShow Step hides_it n zs n) (sym same) (nothing_more n);
      }
      go false is f (y ∷ ys) same less =
          let g : x ∷ shown hides_it h ≡ y ∷ (ys ++ before) = f ∙ ap (λ (zs : List L). zs ++ before) same in
          let first : x ≡ y = cc in
          earlier ys (less ys (cc)) (same ∙ ap (λ z. z ∷ ys) (sym first) ∙ ap (λ (b : Bool). if b then ys else x ∷ ys) (sym is))

  pub cut_shown : (s n : S) (later before : List L) → CanShow Step hides_it s (later ++ before) n → IsCutAt s later before n
  cut_shown s n later before c = cut c.history s n later before c.run c.shows

  -- and back
  pub joined_shown : (s m n : S) (later before : List L) → CanShow Step hides_it s before m → CanShow Step hides_it m later n
      → CanShow Step hides_it s (later ++ before) n
  joined_shown s m n later before a b =
      subst (λ (zs : List L). CanShow Step hides_it s (zs ++ before) n) b.shows
      (CanShow-append Step hides_it s m n before b.history a b.run)

-- THE MACHINE THAT IS SEARCHED

abbrev labels : List Line → List Label
labels lines = map (λ x. Shown x) lines

module _ (l : Bounds) where
  -- a run goes on from a state that another stands for as from that one
  follows : (h : List Label) (s n m : PlainConfiguration) → StandsFor s n → Runs (PlainAdvances l) s h m
      → (o : PlainConfiguration) × Runs (PlainAdvances l) n h o × StandsFor m o
  follows [] s n m a r = (n, refl, subst (λ (z : PlainConfiguration). StandsFor z n) r a)
  follows (x ∷ h) s n m a r =
      let c = follows h s n r.0 a r.1 in
      let d = same_steps l r.0 c.0 x m c.2 r.2 in
      (d.0, (c.0, c.1, d.1), d.2)

  pub from_alike : (s n : PlainConfiguration) (lines : List Line) → StandsFor s n → IsShownFrom l s lines → IsShownFrom l n lines
  from_alike s n lines a x =
      let c = follows x.run.history s n x.last a x.run.run in
      record { last = c.0; run = record { history = x.run.history; run = c.1; shows = x.run.shows } }

  module _ (before : List Line) (q : IsQuiet before) where
    pub tells_state : (last : PlainConfiguration) → CanShow (PlainAdvances l) hides (plain_start_of l) (labels before) last
        → StandsFor last (rest_by l before)
    tells_state last x = rests_there l before last.world last.dying (shown_accounted l before last q.orderly x) q

    module _ (later : List Line) where
      pub cut_there : IsShown l (later ++ before) → IsShown l before × IsShownFrom l (rest_by l before) later
      cut_there x =
          let found = reached-from_shown l (later ++ before) x in
          let c = cut_shown (PlainAdvances l) hides (plain_start_of l) found.0 (labels later) (labels before)
          (subst (λ (ys : List Label). CanShow (PlainAdvances l) hides (plain_start_of l) ys found.0) (map-append (λ (k : Line). Shown k) later before) found.1) in (
            shown-from_search l before c.middle c.first,
            from_alike c.middle (rest_by l before) later (tells_state c.middle c.first) (record { last = found.0; run = c.second }),
          )

      pub join_there : IsShown l before → IsShownFrom l (rest_by l before) later → IsShown l (later ++ before)
      join_there x y =
          let found = reached-from_shown l before x in
          let z = from_alike (rest_by l before) found.0 later (stands_for_back found.0 (rest_by l before) (tells_state found.0 found.1)) y in
          shown-from_search l (later ++ before) z.last
          (subst (λ (ys : List Label). CanShow (PlainAdvances l) hides (plain_start_of l) ys z.last)
          (sym (map-append (λ (k : Line). Shown k) later before))
          (joined_shown (PlainAdvances l) hides (plain_start_of l) found.0 z.last (labels later) (labels before) found.1 z.run))
