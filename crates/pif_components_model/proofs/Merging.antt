-- Runs of two sides make a run of the whole: a step of one side's part is a step of the whole, and leaves the other side's
-- part. A line of no thread is a step of both.
use Rattle.std.proofs.Common.{ℕ, ◌≡◌, ◌∙◌, Bool, true, false, not, cond, List, [], ◌∷◌, map, Option, Some, None, refl, sym, ap, subst}
use Rattle.pif_types.specs.Bounds.{Bounds}
use Rattle.pif_search.specs.Runs.{Runs, shown, CanShow}
use Rattle.pif_history_model.specs.declared.lines.Line.{Line}
use Rattle.pif_history_model.specs.declared.labels.Label.{Label}
use Rattle.pif_history_model.specs.declared.labels.Label.TheVariants.{Shown, Moves, Ends}
use Rattle.pif_history_model.specs.Lines.{thread_of}
use Rattle.pif_history_model.specs.Plain.{PlainConfiguration, PlainAdvances, plain_start_of}
use Rattle.pif_history_model.specs.Searched.{hides}
use Rattle.pif_components_model.specs.Components.{Side, others, keeps, lines_of}
use Rattle.pif_components_model.specs.Components.Name.{OfThread}
use Rattle.pif_components_model.specs.Sides.{IsPart, LineBeside, AreBeside, steps_on}
use Rattle.pif_components_model.proofs.Frames.{agrees_back}
use Rattle.pif_components_model.proofs.Projecting.{PartSteps, part_steps, part_stays}
use Rattle.pif_components_model.proofs.Lone.{behind}
use Rattle.pif_components_model.proofs.Splitting.{AreOn, OwnRun, split_last}
use Rattle.pif_components_model.proofs.Legal.{part_of_start}

-- the whole is as the side sees it in the part, the other way round
pub part_back : (x : Side) (s p : PlainConfiguration) → IsPart x s p → IsPart x p s
part_back x s p h = record { agrees = agrees_back x h.agrees; split = h.apart; apart = h.split; dying = λ t on. sym (h.dying t on) }

-- what a line names is on one side, seen from either
pub line_others : (x : Side) (k : Line) → LineBeside x k → LineBeside (others x) k
line_others x k b = λ t q e n named. ap not (b t q e n named)

-- the whole has the step of the part, and both parts are its parts behind it
pub record Merges (x : Side) (l : Bounds) (w : PlainConfiguration) (y : Label) (p q : PlainConfiguration) : Type 0 where
  pub next : PlainConfiguration
  pub step : PlainAdvances l w y next
  pub mine : IsPart x next p
  pub its : IsPart (others x) next q

pub merge_step : (x : Side) (l : Bounds) (w p q : PlainConfiguration) → IsPart x w p → IsPart (others x) w q → (y : Label)
    → ((k : Line) → y ≡ Shown k → LineBeside x k) → steps_on x y ≡ true → steps_on (others x) y ≡ false → (n : PlainConfiguration)
    → PlainAdvances l p y n → Merges x l w y n q
merge_step x l w p q h i y b on off n step =
    let f : PartSteps x l w y n = part_steps x l p w (part_back x w p h) y n b on step in
    record {
      next = f.next;
      step = f.step;
      mine = part_back x n f.next f.part;
      its = part_stays (others x) l w q i y f.next (λ k e. line_others x k (b k e)) off f.step;
    }

pub lines_others : (x : Side) (ks : List Line) → AreBeside x ks → AreBeside (others x) ks
lines_others x [] named = tt
lines_others x (k ∷ ks) named = (line_others x k named.0, lines_others x ks named.1)

-- MERGED RUNS

-- a run of the whole shows these lines, and p and q are the parts of the two sides behind it
pub record Merged (x : Side) (l : Bounds) (lines : List Line) (p q : PlainConfiguration) : Type 0 where
  pub whole : PlainConfiguration
  pub run : CanShow (PlainAdvances l) hides (plain_start_of l) (map (λ (k : Line). Shown k) lines) whole
  pub mine : IsPart x whole p
  pub its : IsPart (others x) whole q

-- the others of the others are the side
not_not : (b : Bool) → not (not b) ≡ b
not_not true = refl
not_not false = refl

twice : (x : Side) → others (others x) ≡ x
twice x = λ i. λ n. not_not (x n) i

-- seen from the other side
swap : (x : Side) (l : Bounds) (lines : List Line) (p q : PlainConfiguration) → Merged x l lines p q → Merged (others x) l lines q p
swap x l lines p q m = record {
  whole = m.whole;
  run = m.run;
  mine = m.its;
  its = subst (λ (z : Side). IsPart z m.whole p) (sym (twice x)) m.mine;
}

swap_back : (x : Side) (l : Bounds) (lines : List Line) (p q : PlainConfiguration) → Merged (others x) l lines q p → Merged x l lines p q
swap_back x l lines p q m = record {
  whole = m.whole;
  run = m.run;
  mine = subst (λ (z : Side). IsPart z m.whole p) (twice x) m.its;
  its = m.mine;
}

module _ (x : Side) (l : Bounds) where
  -- both start there
  merged_start : Merged x l [] (plain_start_of l) (plain_start_of l)
  merged_start = record {
    whole = plain_start_of l;
    run = record { history = []; run = refl; shows = refl };
    mine = part_of_start x l;
    its = part_of_start (others x) l;
  }

  -- hidden steps of the side
  merge_hidden : (lines : List Line) (p q : PlainConfiguration) (h : List Label) (n : PlainConfiguration) → Merged x l lines p q
      → AreOn x h → Runs (PlainAdvances l) p h n → shown hides h ≡ [] → Merged x l lines n q
  merge_hidden lines p q [] n m own r e = subst (λ (z : PlainConfiguration). Merged x l lines z q) r m
  merge_hidden lines p q (Moves t ∷ h) n m own r e =
      let f = merge_hidden lines p q h r.0 m own.1 r.1 e in
      let g = merge_step x l f.whole r.0 q f.mine f.its (Moves t) (λ k i. absurd (cc)) own.0 (ap not own.0) n r.2 in
      record {
        whole = g.next;
        run = record { history = Moves t ∷ f.run.history; run = (f.whole, f.run.run, g.step); shows = f.run.shows };
        mine = g.mine;
        its = g.its;
      }
  merge_hidden lines p q (Ends t ∷ h) n m own r e =
      let f = merge_hidden lines p q h r.0 m own.1 r.1 e in
      let g = merge_step x l f.whole r.0 q f.mine f.its (Ends t) (λ k i. absurd (cc)) own.0 (ap not own.0) n r.2 in
      record {
        whole = g.next;
        run = record { history = Ends t ∷ f.run.history; run = (f.whole, f.run.run, g.step); shows = f.run.shows };
        mine = g.mine;
        its = g.its;
      }
  merge_hidden lines p q (Shown k ∷ h) n m own r e = absurd (cc)

  module _ (k : Line) (ks : List Line) (b : LineBeside x k) where
    -- what the line names if it is this step
    beside_it : (j : Line) → Shown k ≡ Shown j → LineBeside x j
    beside_it j i = (let is : k ≡ j = cc in subst (LineBeside x) is b)

    -- one more line of the side
    merge_line : (p q n : PlainConfiguration) → Merged x l ks p q → keeps x k ≡ true → keeps (others x) k ≡ false
        → PlainAdvances l p (Shown k) n → Merged x l (k ∷ ks) n q
    merge_line p q n m on off step =
        let g = merge_step x l m.whole p q m.mine m.its (Shown k) beside_it on off n step in
        record {
          whole = g.next;
          run = record {
            history = Shown k ∷ m.run.history;
            run = (m.whole, m.run.run, g.step);
            shows = ap (λ (z : List Label). Shown k ∷ z) m.run.shows;
          };
          mine = g.mine;
          its = g.its;
        }

    -- one more line of no thread
    merge_lone : (p q n o : PlainConfiguration) → Merged x l ks p q → thread_of k ≡ None
        → PlainAdvances l p (Shown k) n → PlainAdvances l q (Shown k) o → Merged x l (k ∷ ks) n o
    merge_lone p q n o m none step its =
        let on : keeps x k ≡ true = ap (λ (z : Option ℕ). elim z [ None ↦ true | Some t ↦ x (OfThread t) ]) none in
        let also : keeps (others x) k ≡ true = ap (λ (z : Option ℕ). elim z [ None ↦ true | Some t ↦ others x (OfThread t) ]) none in
        let f = part_steps x l p m.whole (part_back x m.whole p m.mine) (Shown k) n beside_it on step in
        let g = part_steps (others x) l m.whole q m.its (Shown k) f.next (λ j e. line_others x j (beside_it j e)) also f.step in
        let same : g.next ≡ o = behind l q g.next k none g.step ∙ sym (behind l q o k none its) in
        record {
          whole = f.next;
          run = record {
            history = Shown k ∷ m.run.history;
            run = (m.whole, m.run.run, f.step);
            shows = ap (λ (z : List Label). Shown k ∷ z) m.run.shows;
          };
          mine = part_back x n f.next f.part;
          its = subst (λ (z : PlainConfiguration). IsPart (others x) f.next z) same g.part;
        }

  -- a line that the side keeps, or doesn't, of one more
  kept_line : (k : Line) (ks : List Line) (p : PlainConfiguration) → keeps x k ≡ true → OwnRun x l (lines_of x (k ∷ ks)) p
      → OwnRun x l (k ∷ lines_of x ks) p
  kept_line k ks p on r =
      subst (λ (b : Bool). OwnRun x l (cond b (k ∷ lines_of x ks) (lines_of x ks)) p) on r

  dropped_line : (k : Line) (ks : List Line) (p : PlainConfiguration) → keeps x k ≡ false → OwnRun x l (lines_of x (k ∷ ks)) p
      → OwnRun x l (lines_of x ks) p
  dropped_line k ks p off r =
      subst (λ (b : Bool). OwnRun x l (cond b (k ∷ lines_of x ks) (lines_of x ks)) p) off r

-- all lines of runs of which the side's last one is a line of its threads
own_line : (x : Side) (l : Bounds) (k : Line) (ks : List Line) → LineBeside x k → keeps x k ≡ true → keeps (others x) k ≡ false
    → (p q : PlainConfiguration) → OwnRun x l (lines_of x (k ∷ ks)) p
    → ((z : PlainConfiguration) → OwnRun x l (lines_of x ks) z → Merged x l ks z q) → Merged x l (k ∷ ks) p q
own_line x l k ks b on off p q r less =
    let f = split_last x l k (lines_of x ks) p (kept_line x l k ks p on r) in
    merge_hidden x l (k ∷ ks) f.behind q f.hidden p
    (merge_line x l k ks b f.before q f.behind (less f.before f.first) on off f.step) f.own f.run f.none

-- MERGE

by_thread : (x : Side) (k : Line) (t : ℕ) → thread_of k ≡ Some t → keeps x k ≡ x (OfThread t)
by_thread x k t e = ap (λ (z : Option ℕ). elim z [ None ↦ true | Some u ↦ x (OfThread u) ]) e

-- one more line, if runs of the lines before it can be merged
module _ (x : Side) (l : Bounds) (k : Line) (ks : List Line) (b : LineBeside x k) (p q : PlainConfiguration)
    (less : (z y : PlainConfiguration) → OwnRun x l (lines_of x ks) z → OwnRun (others x) l (lines_of (others x) ks) y → Merged x l ks z y)
    (r : OwnRun x l (lines_of x (k ∷ ks)) p) (its : OwnRun (others x) l (lines_of (others x) (k ∷ ks)) q) where
  -- a line of one thread
  of_thread : (t : ℕ) → thread_of k ≡ Some t → (c : Bool) → x (OfThread t) ≡ c → Merged x l (k ∷ ks) p q
  of_thread t e true on =
      let off : keeps (others x) k ≡ false = by_thread (others x) k t e ∙ ap not on in
      own_line x l k ks b (by_thread x k t e ∙ on) off p q r (λ z c. less z q c (dropped_line (others x) l k ks q off its))
  of_thread t e false away =
      let off : keeps x k ≡ false = by_thread x k t e ∙ away in
      let back : keeps (others (others x)) k ≡ false = by_thread (others (others x)) k t e ∙ ap (λ (c : Bool). not (not c)) away in
      swap_back x l (k ∷ ks) p q
      (own_line (others x) l k ks (line_others x k b) (by_thread (others x) k t e ∙ ap not away) back q p its
      (λ z c. swap x l ks p z (less p z (dropped_line x l k ks p off r) c)))

  merge_more : (o : Option ℕ) → thread_of k ≡ o → Merged x l (k ∷ ks) p q
  merge_more (Some t) e = of_thread t e (x (OfThread t)) refl
  merge_more None e =
      let on : keeps x k ≡ true = ap (λ (z : Option ℕ). elim z [ None ↦ true | Some t ↦ x (OfThread t) ]) e in
      let also : keeps (others x) k ≡ true = ap (λ (z : Option ℕ). elim z [ None ↦ true | Some t ↦ others x (OfThread t) ]) e in
      let f = split_last x l k (lines_of x ks) p (kept_line x l k ks p on r) in
      let g = split_last (others x) l k (lines_of (others x) ks) q (kept_line (others x) l k ks q also its) in
      let m : Merged x l (k ∷ ks) f.behind g.behind =
      merge_lone x l k ks b f.before g.before f.behind g.behind (less f.before g.before f.first g.first) e f.step g.step in
      let n : Merged x l (k ∷ ks) p g.behind = merge_hidden x l (k ∷ ks) f.behind g.behind f.hidden p m f.own f.run f.none in
      swap_back x l (k ∷ ks) p q
      (merge_hidden (others x) l (k ∷ ks) g.behind p g.hidden q (swap x l (k ∷ ks) p g.behind n) g.own g.run g.none)

pub merge : (x : Side) (l : Bounds) (lines : List Line) → AreBeside x lines → (p q : PlainConfiguration)
    → OwnRun x l (lines_of x lines) p → OwnRun (others x) l (lines_of (others x) lines) q → Merged x l lines p q
merge x l [] named p q r its =
    let first = merge_hidden x l [] (plain_start_of l) (plain_start_of l) r.history p (merged_start x l) r.own r.run r.shows in
    swap_back x l [] p q
    (merge_hidden (others x) l [] (plain_start_of l) p its.history q (swap x l [] p (plain_start_of l) first) its.own its.run its.shows)
merge x l (k ∷ ks) named p q r its =
    merge_more x l k ks named.0 p q (λ z y c d. merge x l ks named.1 z y c d) r its (thread_of k) refl
