-- Lines are shown from a state exactly if they are from the state at a later time, with all their times more by as
-- much.
use Rattle.std.proofs.Common.{ℕ, ◌≡◌, ◌∙◌, List, [], ◌∷◌, ◌++◌, map, Some, refl, sym, ap, subst}
use Rattle.pif_types.specs.Bounds.{Bounds}
use Rattle.pif_model.specs.Posix.{World}
use Rattle.pif_search.specs.Runs.{Runs, shown, CanShow}
use Rattle.pif_history_model.specs.declared.lines.Line.{Line}
use Rattle.pif_history_model.specs.declared.lines.Line.TheVariants.{Begin, Tick, Dying, End, Rests, Prio}
use Rattle.pif_history_model.specs.declared.labels.Label.{Label}
use Rattle.pif_history_model.specs.declared.labels.Label.TheVariants.{Shown, Moves, Ends}
use Rattle.pif_history_model.specs.Lines.{is_line_among, dying_after}
use Rattle.pif_history_model.specs.Plain.{PlainConfiguration, PlainAdvances}
use Rattle.pif_history_model.specs.Plain.PlainAdvances.{moves, ends, enters, sees, has_ended}
use Rattle.pif_history_model.specs.Searched.{hides}
use Rattle.pif_history_model.specs.Shown.{IsSeen}
use Rattle.pif_history_model.specs.Shown.IsSeen.{rests as sees_rest, prio as sees_prio, dying as sees_dying}
use Rattle.pif_parts_model.specs.Later.{later_line, later_world, later}
use Rattle.pif_parts_model.specs.Parts.{IsShownFrom}
use Rattle.pif_parts_model.proofs.Later.{lives_later, rests_later, effective_later}
use Rattle.pif_parts_model.proofs.LaterMoves.{moves_later, moves_earlier}
use Rattle.pif_parts_model.proofs.LaterEntries.{same_line, ends_on, ends_off, enters_on_later, enters_off}
use Rattle.pif_parts_model.proofs.Stepping.{end_is, end_from}

-- a label at a later time
abbrev later_label : ℕ → Label → Label
later_label n (Shown k) = Shown (later_line n k)
later_label n (Moves t) = Moves t
later_label n (Ends t) = Ends t

-- a line is of the same thread, and the same threads are dying behind it
among_later : (n : ℕ) (us : List ℕ) (k : Line) → is_line_among us (later_line n k) ≡ is_line_among us k
among_later n us (Begin t q) = refl
among_later n us (Tick i) = refl
among_later n us _ = refl

dying_later : (n : ℕ) (us : List ℕ) (k : Line) → dying_after (later_line n k) us ≡ dying_after k us
dying_later n us (Begin t q) = refl
dying_later n us (Tick i) = refl
dying_later n us _ = refl

-- a label that is a line at a later time is one
shown_label : (n : ℕ) (x : Label) (k : Line) → later_label n x ≡ Shown k → (i : Line) × (x ≡ Shown i) × (k ≡ later_line n i)
shown_label n (Shown i) k e = (i, refl, cc)
shown_label n (Moves t) k e = absurd (cc)
shown_label n (Ends t) k e = absurd (cc)

moves_label : (n t : ℕ) (x : Label) → later_label n x ≡ Moves t → x ≡ Moves t
moves_label n t (Shown i) e = absurd (cc)
moves_label n t (Moves u) e = e
moves_label n t (Ends u) e = absurd (cc)

ends_label : (n t : ℕ) (x : Label) → later_label n x ≡ Ends t → x ≡ Ends t
ends_label n t (Shown i) e = absurd (cc)
ends_label n t (Moves u) e = absurd (cc)
ends_label n t (Ends u) e = e

-- WHAT LINES TELL

seen_on : (n : ℕ) (w : World) (k : Line) → IsSeen k w → IsSeen (later_line n k) (later_world n w)
seen_on n w k (sees_rest t e lives rest) =
    sees_rest t (ap (later_line n) e) (lives_later n w t ∙ lives) (rests_later n w t ∙ rest)
seen_on n w k (sees_prio t p e lives num) =
    sees_prio t p (ap (later_line n) e) (lives_later n w t ∙ lives) (effective_later n w t ∙ num)
seen_on n w k (sees_dying t e lives) = sees_dying t (ap (later_line n) e) (lives_later n w t ∙ lives)

seen_off : (n : ℕ) (w : World) (k : Line) → IsSeen (later_line n k) (later_world n w) → IsSeen k w
seen_off n w k (sees_rest t e lives rest) =
    sees_rest t (same_line n k (Rests t) e refl) (sym (lives_later n w t) ∙ lives) (sym (rests_later n w t) ∙ rest)
seen_off n w k (sees_prio t p e lives num) =
    sees_prio t p (same_line n k (Prio t p) e refl) (sym (lives_later n w t) ∙ lives) (sym (effective_later n w t) ∙ num)
seen_off n w k (sees_dying t e lives) = sees_dying t (same_line n k (Dying t) e refl) (sym (lives_later n w t) ∙ lives)

-- STEPS

step_later : (l : Bounds) (n : ℕ) (s m : PlainConfiguration) (x : Label) → PlainAdvances l s x m
    → PlainAdvances l (later n s) (later_label n x) (later n m)
step_later l n s m x (moves t v is y e) =
    moves t (later_world n v) (ap (later_label n) is) (moves_later n s.world t y) (ap (later n) e)
step_later l n s m x (ends t v is among y e) =
    ends t (later_world n v) (ap (later_label n) is) among
    (end_from l (later_world n s.world) (later_world n v) t (ends_on n s.world t (end_is l s.world v t y))) (ap (later n) e)
step_later l n s m x (enters k e v is of apart y same) =
    let z = enters_on_later n s.world l k e of y in
    enters (later_line n k) z.entry (later_world n v) (ap (later_label n) is) z.shows (among_later n s.dying k ∙ apart) z.step
    (ap (later n) same ∙ ap (λ (us : List ℕ). record { world = later_world n v; dying = us }) (sym (dying_later n s.dying k)))
step_later l n s m x (sees k is apart look same) =
    sees (later_line n k) (ap (later_label n) is) (among_later n s.dying k ∙ apart) (seen_on n s.world k look)
    (ap (later n) same ∙ ap (λ (us : List ℕ). record { world = later_world n s.world; dying = us }) (sym (dying_later n s.dying k)))
step_later l n s m x (has_ended t is among dead same) =
    has_ended t (ap (later_label n) is) among (lives_later n s.world t ∙ dead) (ap (later n) same)

-- a step of the state at a later time is one of the state
record IsStepped (l : Bounds) (n : ℕ) (s : PlainConfiguration) (x : Label) (m : PlainConfiguration) : Type 0 where
  to : PlainConfiguration
  step : PlainAdvances l s x to
  is : m ≡ later n to

step_back : (l : Bounds) (n : ℕ) (s m : PlainConfiguration) (x : Label) → PlainAdvances l (later n s) (later_label n x) m
    → IsStepped l n s x m
step_back l n s m x (moves t v is y e) =
    let z = moves_earlier n s.world t y in
    record {
      to = record { world = z.before; dying = s.dying };
      step = moves t z.before (moves_label n t x is) z.step refl;
      is = e ∙ ap (λ (w : World). record { world = w; dying = s.dying }) z.is;
    }
step_back l n s m x (ends t v is among y e) =
    let z = ends_off n s.world t (end_is l (later_world n s.world) v t y) in
    record {
      to = record { world = z.before; dying = s.dying };
      step = ends t z.before (ends_label n t x is) among (end_from l s.world z.before t z.step) refl;
      is = e ∙ ap (λ (w : World). record { world = w; dying = s.dying }) z.is;
    }
step_back l n s m x (enters k e v is of apart y same) =
    let b = shown_label n x k is in
    let z = enters_off n s.world l b.0 e (of ∙ ap Some b.2) y in
    record {
      to = record { world = z.before; dying = dying_after b.0 s.dying };
      step = enters b.0 z.step.entry z.before b.1 z.step.shows
          (sym (among_later n s.dying b.0) ∙ sym (ap (is_line_among s.dying) b.2) ∙ apart) z.step.step refl;
      is = same
          ∙ (λ j. record { world = z.is j; dying = (ap (λ (i : Line). dying_after i s.dying) b.2 ∙ dying_later n s.dying b.0) j });
    }
step_back l n s m x (sees k is apart look same) =
    let b = shown_label n x k is in
    record {
      to = record { world = s.world; dying = dying_after b.0 s.dying };
      step = sees b.0 b.1 (sym (among_later n s.dying b.0) ∙ sym (ap (is_line_among s.dying) b.2) ∙ apart)
          (seen_off n s.world b.0 (subst (λ (i : Line). IsSeen i (later_world n s.world)) b.2 look)) refl;
      is = same
          ∙ (λ j. record {
            world = later_world n s.world;
            dying = (ap (λ (i : Line). dying_after i s.dying) b.2 ∙ dying_later n s.dying b.0) j;
          });
    }
step_back l n s m x (has_ended t is among dead same) =
    let b = shown_label n x (End t) is in
    record {
      to = record { world = s.world; dying = dying_after (End t) s.dying };
      step = has_ended t (b.1 ∙ ap Shown (same_line n b.0 (End t) (sym b.2) refl)) among (sym (lives_later n s.world t) ∙ dead) refl;
      is = same;
    }

-- RUNS

abbrev later_labels : ℕ → List Label → List Label
later_labels n h = map (later_label n) h

shown_later : (n : ℕ) (h : List Label) → shown hides (later_labels n h) ≡ later_labels n (shown hides h)
shown_later n [] = refl
shown_later n (Shown k ∷ h) = ap (λ (xs : List Label). Shown (later_line n k) ∷ xs) (shown_later n h)
shown_later n (Moves t ∷ h) = shown_later n h
shown_later n (Ends t ∷ h) = shown_later n h

lines_later : (n : ℕ) (lines : List Line) → later_labels n (map (λ (x : Line). Shown x) lines) ≡ map (λ (x : Line). Shown x) (map (later_line n) lines)
lines_later n [] = refl
lines_later n (k ∷ ks) = ap (λ (xs : List Label). Shown (later_line n k) ∷ xs) (lines_later n ks)

runs_later : (l : Bounds) (n : ℕ) (h : List Label) (s m : PlainConfiguration) → Runs (PlainAdvances l) s h m
    → Runs (PlainAdvances l) (later n s) (later_labels n h) (later n m)
runs_later l n [] s m e = ap (later n) e
runs_later l n (x ∷ h) s m r = (later n r.0, runs_later l n h s r.0 r.1, step_later l n r.0 m x r.2)

pub shown_at_a_later_time : (l : Bounds) (n : ℕ) (s : PlainConfiguration) (lines : List Line) → IsShownFrom l s lines
    → IsShownFrom l (later n s) (map (later_line n) lines)
shown_at_a_later_time l n s lines x = record {
  last = later n x.last;
  run = record {
    history = later_labels n x.run.history;
    run = runs_later l n x.run.history s x.last x.run.run;
    shows = shown_later n x.run.history ∙ ap (later_labels n) x.run.shows ∙ lines_later n lines;
  };
}

-- a run of the state at a later time is one of the state: the same steps, each earlier
record IsRunBack (l : Bounds) (n : ℕ) (s : PlainConfiguration) (lines : List Line) (m : PlainConfiguration) : Type 0 where
  to : PlainConfiguration
  run : CanShow (PlainAdvances l) hides s (map (λ (x : Line). Shown x) lines) to
  is : m ≡ later n to

module _ (l : Bounds) (n : ℕ) (s : PlainConfiguration) where
  -- one step more
  stepped : (x : Label) (p m : PlainConfiguration) (lines more : List Line) → IsRunBack l n s lines p
      → PlainAdvances l p (later_label n x) m
      → ((ys : List Label) → ys ≡ map (λ (k : Line). Shown k) lines
      → shown hides (x ∷ []) ++ ys ≡ map (λ (k : Line). Shown k) more)
      → IsRunBack l n s more m
  stepped x p m lines more b step shows =
      let z = step_back l n b.to m x (subst (λ (i : PlainConfiguration). PlainAdvances l i (later_label n x) m) b.is step) in
      record {
        to = z.to;
        run = record {
          history = x ∷ b.run.history;
          run = (b.to, b.run.run, z.step);
          shows = shown_more x b.run.history ∙ shows (shown hides b.run.history) b.run.shows;
        };
        is = z.is;
      }
    where
      shown_more : (y : Label) (h : List Label) → shown hides (y ∷ h) ≡ shown hides (y ∷ []) ++ shown hides h
      shown_more (Shown k) h = refl
      shown_more (Moves t) h = refl
      shown_more (Ends t) h = refl

  run_back : (h : List Label) (lines : List Line) (m : PlainConfiguration) → Runs (PlainAdvances l) (later n s) h m
      → shown hides h ≡ map (λ (k : Line). Shown k) (map (later_line n) lines) → IsRunBack l n s lines m
  run_back [] [] m r e = record { to = s; run = record { history = []; run = refl; shows = refl }; is = sym r }
  run_back [] (k ∷ ks) m r e = absurd (cc)
  run_back (Moves t ∷ h) lines m r e =
      stepped (Moves t) r.0 m lines lines (run_back h lines r.0 r.1 e) r.2 (λ ys f. f)
  run_back (Ends t ∷ h) lines m r e =
      stepped (Ends t) r.0 m lines lines (run_back h lines r.0 r.1 e) r.2 (λ ys f. f)
  run_back (Shown i ∷ h) [] m r e = absurd (cc)
  run_back (Shown i ∷ h) (k ∷ ks) m r e =
      let same : i ≡ later_line n k = cc in
      let rest : shown hides h ≡ map (λ (j : Line). Shown j) (map (later_line n) ks) = cc in
      stepped (Shown k) r.0 m ks (k ∷ ks) (run_back h ks r.0 r.1 rest)
      (subst (λ (j : Line). PlainAdvances l r.0 (Shown j) m) same r.2) (λ ys f. ap (λ (zs : List Label). Shown k ∷ zs) f)

  pub shown_before_that : (lines : List Line) → IsShownFrom l (later n s) (map (later_line n) lines) → IsShownFrom l s lines
  shown_before_that lines x =
      let b = run_back x.run.history lines x.last x.run.run x.run.shows in
      record { last = b.to; run = b.run }
