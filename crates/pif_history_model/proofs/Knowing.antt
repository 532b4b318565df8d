-- Runs that keep to the known answers are runs, and a run that shows all lines keeps to them.
use Rattle.std.proofs.Common.{◌≡◌, ◌∙◌, List, [], ◌∷◌, ◌++◌, length, map, reverse, drop, refl, sym, ap, subst, append-nil, append_assoc}
use Rattle.std.proofs.lemmas.List.{reverse-append, reverse-reverse, length-reverse}
use Rattle.pif_types.specs.Bounds.{Bounds}
use Rattle.pif_search.specs.Runs.{Runs, CanShow}
use Rattle.pif_history_model.specs.declared.lines.Line.{Line}
use Rattle.pif_history_model.specs.declared.labels.Label.{Label}
use Rattle.pif_history_model.specs.declared.labels.Label.TheVariants.{Shown, Moves, Ends}
use Rattle.pif_history_model.specs.Plain.{PlainConfiguration, PlainAdvances, plain_start_of}
use Rattle.pif_history_model.specs.Searched.{hides}
use Rattle.pif_history_model.proofs.Soundness.{lines_in, lines_after, shown-lines_in, same-from_shown, run_is_reached}
use Rattle.pif_history_model.specs.Known.{KeepsTo, Counted, known_start_of, count_after, GoesKnown}
use Rattle.pif_history_model.proofs.Answering.{NoneDies, dies_before, kept_before}

-- LISTS

-- what comes behind a list
behind_all : {X : Type 0} (xs ys : List X) → drop (length xs) (xs ++ ys) ≡ ys
behind_all [] ys = refl
behind_all (x ∷ xs) ys = behind_all xs ys

behind_reversed : {X : Type 0} (xs ys : List X) → drop (length xs) (reverse xs ++ ys) ≡ ys
behind_reversed {X} xs ys = ap (λ n. drop n (reverse xs ++ ys)) (sym (length-reverse xs)) ∙ behind_all (reverse xs) ys

-- one line more was shown, and is to come no more
one_shown : {X : Type 0} (x : X) (xs ys : List X) → reverse (x ∷ xs) ++ ys ≡ reverse xs ++ x ∷ ys
one_shown {X} x xs ys =
    ap (λ (zs : List X). zs ++ ys) (reverse-append (x ∷ []) xs) ∙ append_assoc (reverse xs) (x ∷ []) ys

-- SOUND

module _ (Step : PlainConfiguration → Label → PlainConfiguration → Type 0) (lines : List Line) where
  pub run-from_known : (s n : Counted) (h : List Label) → Runs (GoesKnown Step lines) s h n → Runs Step s.state h n.state
  run-from_known s n [] r = ap (λ (z : Counted). z.state) r
  run-from_known s n (x ∷ h) r = (r.0.state, run-from_known s r.0 h r.1, r.2.step)

  -- what is shown by keeping to the known answers is shown
  pub shown-from_known : (s n : Counted) (xs : List Label) → CanShow (GoesKnown Step lines) hides s xs n
      → CanShow Step hides s.state xs n.state
  shown-from_known s n xs x =
      record { history = x.history; run = run-from_known s n x.history x.run; shows = x.shows }

-- COMPLETE

module _ (l : Bounds) (Step : PlainConfiguration → Label → PlainConfiguration → Type 0)
    (advances : (s n : PlainConfiguration) (x : Label) → Step s x n → PlainAdvances l s x n) (lines : List Line) where
  -- each run is one of the machine that is searched
  pub advancing : (s n : PlainConfiguration) (h : List Label) → Runs Step s h n → Runs (PlainAdvances l) s h n
  advancing s n [] r = r
  advancing s n (x ∷ h) r = (r.0, advancing s r.0 h r.1, advances r.0 n x r.2)

  lines_split : (x : Label) (h : List Label) (rest : List Line) → reverse (lines_in (x ∷ h)) ++ rest ≡ lines
      → reverse (lines_in h) ++ lines_after x rest ≡ lines
  lines_split (Shown k) h rest e = sym (one_shown k (lines_in h) rest) ∙ e
  lines_split (Moves t) h rest e = e
  lines_split (Ends t) h rest e = e

  count_is : (x : Label) (h : List Label) → length (lines_in (x ∷ h)) ≡ count_after x (length (lines_in h))
  count_is (Shown k) h = refl
  count_is (Moves t) h = refl
  count_is (Ends t) h = refl

  rest_is : (h : List Label) (rest : List Line) → reverse (lines_in h) ++ rest ≡ lines → rest ≡ drop (length (lines_in h)) lines
  rest_is h rest e =
      sym (behind_reversed (lines_in h) rest) ∙ ap (λ (zs : List Line). drop (length (lines_in h)) zs) e

  -- a run keeps to the known answers, from the start to a state behind which the lines still to come are kept to
  known_run : (h : List Label) (n : PlainConfiguration) (rest : List Line) → Runs Step (plain_start_of l) h n → NoneDies rest n.dying
      → KeepsTo rest n.world → reverse (lines_in h) ++ rest ≡ lines
      → Runs (GoesKnown Step lines) (known_start_of l) h (record { state = n; count = length (lines_in h) })
  known_run [] n rest r d k e = ap (λ (z : PlainConfiguration). record { state = z; count = 0 }) r
  known_run (x ∷ h) n rest r d k e =
      let step : PlainAdvances l r.0 x n = advances r.0 n x r.2 in
      let reached = run_is_reached l h r.0 (advancing (plain_start_of l) r.0 h r.1) in (
        record { state = r.0; count = length (lines_in h) },
        known_run h r.0 (lines_after x rest) r.1 (dies_before l r.0 n x rest step d)
            (kept_before l r.0 n x rest reached.run step d k) (lines_split x h rest e),
        record {
          step = r.2;
          count = count_is x h;
          next = λ line is.
              sym (rest_is h (lines_after x rest) (lines_split x h rest e)) ∙ ap (λ (z : Label). lines_after z rest) is
              ∙ ap (λ (zs : List Line). line ∷ zs) (rest_is (x ∷ h) rest e);
          keeps = subst (λ (zs : List Line). KeepsTo zs n.world) (rest_is (x ∷ h) rest e) k;
        },
      )

  -- a run that shows all lines keeps to the known answers
  pub known-from_shown : (n : PlainConfiguration) → CanShow Step hides (plain_start_of l) (map (λ x. Shown x) (reverse lines)) n
      → CanShow (GoesKnown Step lines) hides (known_start_of l) (map (λ x. Shown x) (reverse lines))
      (record { state = n; count = length lines })
  known-from_shown n x = record {
    history = x.history;
    run = subst (λ m. Runs (GoesKnown Step lines) (known_start_of l) x.history (record { state = n; count = m }))
        (ap (λ (zs : List Line). length zs) same ∙ length-reverse lines)
        (known_run x.history n [] x.run (λ u a e. absurd (cc)) (λ u q b a come e. absurd (cc)) all);
    shows = x.shows;
  }
    where
      same : lines_in x.history ≡ reverse lines
      same = same-from_shown (lines_in x.history) (reverse lines) (sym (shown-lines_in x.history) ∙ x.shows)

      all : reverse (lines_in x.history) ++ [] ≡ lines
      all = append-nil (reverse (lines_in x.history)) ∙ ap (λ (zs : List Line). reverse zs) same ∙ reverse-reverse lines
