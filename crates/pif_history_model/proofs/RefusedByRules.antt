-- No line that is shown is refused, whatever rules are allowed.
use Rattle.std.proofs.Common.{ℕ, ◌≡◌, ◌∙◌, Bool, true, false, List, [], ◌∷◌, Some, None, refl, sym, ap, subst, inl, inr, if◌then◌else◌}
use Rattle.std.proofs.lemmas.Bool.{true≢false}
use Rattle.pif_types.specs.Bounds.{Bounds}
use Rattle.pif_types.specs.declared.errors.Refusal.TheVariants as refusal
use Rattle.pif_model.specs.declared.events.Event.TheVariants as event
use Rattle.pif_model.specs.declared.events.Seen.TheVariants as seen
use Rattle.pif_model.specs.declared.events.Entry.{Entry}
use Rattle.pif_model.specs.declared.events.Entry.TheVariants as entry
use Rattle.pif_model.specs.Posix.{World, is_thread}
use Rattle.pif_search.specs.Runs.{Runs}
use Rattle.pif_rules_model.specs.declared.rules.Rules.{Rules}
use Rattle.pif_rules_model.specs.Rules.{Wide, WideEnters, end_of}
use Rattle.pif_rules_model.specs.Rules.WideEnters.{ended as wide_end, other as wide_other}
use Rattle.pif_history_model.specs.declared.lines.Protocol.TheVariants.{PrioInherit, PrioNone}
use Rattle.pif_history_model.specs.declared.lines.Line.{Line}
use Rattle.pif_history_model.specs.declared.lines.Line.TheVariants as line
use Rattle.pif_history_model.specs.declared.labels.Label.{Label}
use Rattle.pif_history_model.specs.declared.labels.Label.TheVariants.{Shown, Moves, Ends}
use Rattle.pif_history_model.specs.declared.refusals.LineRefusal.{LineRefusal}
use Rattle.pif_history_model.specs.declared.refusals.LineRefusal.TheVariants.{Halt}
use Rattle.pif_history_model.specs.Lines.{line_of, is_among, is_line_among, is_no_extra, halted_after, halted_by, comes_while, dying_by, dying_after}
use Rattle.pif_history_model.specs.Searched.{Configuration, Steps, Advances, IsShownWith, start_of, with_prio_none, told_of, at_end_of, at_entry}
use Rattle.pif_history_model.specs.Searched.Steps.{moves, ends, ends_apart, enters, adds_none, sees, has_ended, exits, passes_later, halts, resumes, asks}
use Rattle.pif_history_model.specs.Refused.{threads_in, is_known, event_refused, refusal_while_running, refusal_of_line}
use Rattle.pif_history_model.proofs.Extras.{entry_is_plain, look_is_plain}
use Rattle.pif_history_model.proofs.KeepingByRules.{keeps_wide_move, leaves_wide_end, wide_end_allowed, keeps_later, leaves_or_keeps}
use Rattle.pif_history_model.proofs.Lent.{told_living}
use Rattle.pif_history_model.proofs.RefusedLines.{Follows, one_end, one_over, one_look, follows-from_entry}
use Rattle.pif_history_model.proofs.Soundness.{lines_in, lines_after, shown-lines_in, same-from_shown}
use Rattle.pif_history_model.proofs.Telling.{Tells, Tells-start, Tells-keeps, Tells-ends, Leaves, retold, known}

-- what lines tell of a state of the machine with rules
pub record TellsWidely (lines : List Line) (s : Configuration) : Type 0 where
  pub tells : Tells lines s.wide.world s.dying
  pub halted : s.halted ≡ halted_by lines

-- what a step that shows a line, or a hidden one, leaves
abbrev StepTells : Bounds → List Line → Label → Configuration → Type 0
StepTells l lines (Shown x) n = TellsWidely (x ∷ lines) n × (refusal_while_running l lines x ≡ None)
StepTells l lines _ n = TellsWidely lines n

-- LINES

-- a line that halts nothing, and resumes nothing
runs_on : (x : Line) (b : Bool) → is_no_extra x ≡ true → b ≡ halted_after x b
runs_on line.Halted b e = absurd (cc)
runs_on line.Resumed b e = absurd (cc)
runs_on _ b e = refl

-- behind such a line
follows_widely : {l : Bounds} {lines : List Line} {s : Configuration} {x : Line} {v : Wide} {us : List ℕ} → is_no_extra x ≡ true
    → TellsWidely lines s → Follows l lines x v.world s.dying → us ≡ dying_after x s.dying
    → StepTells l lines (Shown x) (record s { wide = v; dying = us })
follows_widely {l} {lines} {s} {x} {v} {us} e y f is = (
  record {
    tells = subst (λ (z : List ℕ). Tells (x ∷ lines) v.world z) (sym is) f.tells;
    halted = runs_on x s.halted e ∙ ap (halted_after x) y.halted;
  },
  f.allowed,
)

-- the line of an end
ended_line : (e : Entry) (x : Line) (t : ℕ) → end_of e ≡ Some t → line_of e ≡ Some x → line.End t ≡ x
ended_line (entry.Step (event.End u) seen.Ended) x t h k = cc
ended_line _ x t h k = absurd (cc)

-- an entry that a line shows, by rules
follows-from_wide : {l : Bounds} {lines : List Line} {d : List ℕ} (r : Rules) (s : Wide) (v : Wide) (x : Line) (e : Entry)
    → Tells lines s.world d → line_of e ≡ Some x → is_line_among d x ≡ false → WideEnters r l s e v → Follows l lines x v.world d
follows-from_wide {l} {lines} {d} r s v x e y of apart (wide_end t is h) =
    let same : line.End t ≡ x = ended_line e x t is of in
    let still : is_line_among d (line.End t) ≡ false = subst (λ z. is_line_among d z ≡ false) (sym same) apart in
    subst (λ z. Follows l lines z v.world d) same
    (one_end t y still (wide_end_allowed r t s v h) (leaves_wide_end r t s v h))
follows-from_wide {l} {lines} {d} r s v x e y of apart (wide_other w is all h f) =
    subst (λ (z : Wide). Follows l lines x z.world d) (sym f) (follows-from_entry x e y of apart h)

-- the process of a thread ends
exit_allowed : {lines : List Line} {w : World} {d : List ℕ} (t : ℕ) → Tells lines w d → is_among d t ≡ false → is_thread w t ≡ true
    → event_refused (if is_known (threads_in lines) t then (if is_among (dying_by lines) t then Some refusal.Dead else None)
    else Some refusal.NoSuch) ≡ None
exit_allowed {lines} t x apart there =
    by_tests (is_known (threads_in lines) t) (is_among (dying_by lines) t) (known x t ∙ there)
    (subst (λ us. is_among us t ≡ false) x.dying_is apart)
  where
    by_tests : (k b : Bool) → k ≡ true → b ≡ false
        → event_refused (if k then (if b then Some refusal.Dead else None) else Some refusal.NoSuch) ≡ None
    by_tests true false e f = refl
    by_tests true true e f = absurd (true≢false f)
    by_tests false b e f = absurd (true≢false (sym e))

-- STEPS

module _ (r : Rules) (l : Bounds) (lines : List Line) (s n : Configuration) (x : Label) (y : TellsWidely lines s) where
  -- the label of the step, and the state behind it
  of_step : (k : Label) (m : Configuration) → x ≡ k → n ≡ m → StepTells l lines k m → StepTells l lines x n
  of_step k m a e h =
      subst (λ (z : Label). StepTells l lines z n) (sym a) (subst (λ (z : Configuration). StepTells l lines k z) (sym e) h)

  -- a hidden step, behind which the lines tell of this state
  behind_hidden : (v : Wide) → Tells lines v.world s.dying → TellsWidely lines (record s { wide = v })
  behind_hidden v h = record { tells = h; halted = y.halted }

  ended_leaves : (q : Rules) (t : ℕ) (v : Wide) → WideEnters q l s.wide (entry.Step (event.End t) seen.Ended) v
      → Leaves t s.wide.world v.world
  ended_leaves q t v (wide_end u is h) =
      let same : u ≡ t = cc in
      subst (λ (k : ℕ). Leaves k s.wide.world v.world) same (leaves_wide_end q u s.wide v h)
  ended_leaves q t v (wide_other w is all h f) = absurd (cc)

  step_tells : Steps r l s x n → StepTells l lines x n
  step_tells (moves t v i h e) =
      of_step (Moves t) (record s { wide = v }) i e (behind_hidden v (Tells-keeps y.tells (keeps_wide_move r t s.wide v h)))
  step_tells (ends t v i u h e) =
      of_step (Ends t) (record s { wide = v }) i e
      (behind_hidden v (Tells-ends y.tells (y.tells.gone t u) (ended_leaves (at_end_of s r t) t v h)))
  step_tells (ends_apart t v i u h e) =
      of_step (Ends t) (record s { wide = v }) i e (behind_hidden v (elim (leaves_or_keeps (at_end_of s r t) t s.wide v h) [
        | inl k ↦ Tells-ends y.tells (y.tells.gone t u) k
        | inr k ↦ Tells-keeps y.tells k
      ]))
  step_tells (passes_later t v i u on h e) =
      of_step (Ends t) (record s { wide = v }) i e (behind_hidden v (Tells-keeps y.tells (keeps_later r t s.wide v h)))
  step_tells (enters k c v i of apart h e) =
      of_step (Shown k) (record s { wide = v; dying = dying_after k s.dying }) i e
      (follows_widely (entry_is_plain c k of) y (follows-from_wide (at_entry s r c) s.wide v k c y.tells of apart h) refl)
  step_tells (adds_none m k b v i on h e) =
      let f : Follows l lines (line.Mutex k b PrioInherit) v.world s.dying =
      follows-from_wide r s.wide v (line.Mutex k b PrioInherit) (entry.Mutex m k b) y.tells refl refl h in
      of_step (Shown (line.Mutex k b PrioNone)) (record s { wide = with_prio_none m v }) i e (
        record { tells = retold refl refl refl refl (λ t. refl) (λ t. refl) refl f.tells; halted = y.halted },
        f.allowed,
      )
  step_tells (sees k i apart look e) =
      of_step (Shown k) (record s { dying = dying_after k s.dying }) i e
      (follows_widely {l = l} (look_is_plain k (told_of k s.wide) look) y
      (one_look k y.tells apart (λ t. told_living k s.wide t) look) refl)
  step_tells (has_ended t i u dead through e) =
      of_step (Shown (line.End t)) (record s { dying = dying_after (line.End t) s.dying }) i e
      (follows_widely {l = l} {x = line.End t} refl y (one_over t y.tells u dead) refl)
  step_tells (exits t i on apart there e) =
      of_step (Shown (line.Process t)) (record s { exiting = t ∷ s.exiting }) i e (
        record { tells = retold refl refl refl refl (λ u. refl) (λ u. refl) refl y.tells; halted = y.halted },
        exit_allowed t y.tells apart there,
      )
  step_tells (halts i on e) =
      of_step (Shown line.Halted) (record s { halted = true }) i e (
        record { tells = retold refl refl refl refl (λ u. refl) (λ u. refl) refl y.tells; halted = refl },
        refl,
      )
  step_tells (resumes i on e) =
      of_step (Shown line.Resumed) (record s { halted = false }) i e (
        record { tells = retold refl refl refl refl (λ u. refl) (λ u. refl) refl y.tells; halted = refl },
        refl,
      )
  step_tells (asks f b i on is e) =
      of_step (Shown (line.Asks f b)) s i e (
        record { tells = retold refl refl refl refl (λ u. refl) (λ u. refl) refl y.tells; halted = y.halted },
        refl,
      )

-- RUNS

tells_of : (l : Bounds) (lines : List Line) (n : Configuration) (x : Label) → StepTells l lines x n
    → TellsWidely (lines_after x lines) n
tells_of l lines n (Shown x) y = y.0
tells_of l lines n (Moves t) y = y
tells_of l lines n (Ends t) y = y

module _ (r : Rules) (l : Bounds) where
  -- lines tell of the states that they lead to
  run_tells : (h : List Label) (n : Configuration) → Runs (Advances r l) (start_of l) h n → TellsWidely (lines_in h) n
  run_tells [] n e =
      subst (λ (k : Configuration). TellsWidely [] k) e (record { tells = Tells-start l; halted = refl })
  run_tells (x ∷ h) n run =
      tells_of l (lines_in h) n x (step_tells r l (lines_in h) run.0 n x (run_tells h run.0 run.1) run.2.step)

  -- the last line of a run is not refused
  last_allowed : (h : List Label) (n : Configuration) (x : Line) (lines : List Line) → Runs (Advances r l) (start_of l) h n
      → lines_in h ≡ x ∷ lines → refusal_of_line l lines x ≡ None
  last_allowed [] n x lines run e = absurd (cc)
  last_allowed (Shown k ∷ h) n x lines run e =
      let same : k ≡ x = cc in
      let rest : lines_in h ≡ lines = cc in
      subst (λ z. refusal_of_line l lines z ≡ None) same (subst (λ ls. refusal_of_line l ls k ≡ None) rest here)
    where
      before : TellsWidely (lines_in h) run.0
      before = run_tells h run.0 run.1

      coming : comes_while (halted_by (lines_in h)) k ≡ true
      coming = ap (λ b. comes_while b k) (sym before.halted) ∙ run.2.comes

      here : refusal_of_line l (lines_in h) k ≡ None
      here =
          ap (λ b. if b then refusal_while_running l (lines_in h) k else Some Halt) coming
          ∙ (step_tells r l (lines_in h) run.0 n (Shown k) before run.2.step).1
  last_allowed (Moves t ∷ h) n x lines run e = last_allowed h run.0 x lines run.1 e
  last_allowed (Ends t ∷ h) n x lines run e = last_allowed h run.0 x lines run.1 e

  -- a line that is refused is shown by no run
  pub refused_by_rules : (lines : List Line) (x : Line) (why : LineRefusal) → refusal_of_line l lines x ≡ Some why
      → IsShownWith r l (x ∷ lines) → ⊥
  refused_by_rules lines x why is shown =
      let same : lines_in shown.run.history ≡ x ∷ lines =
      same-from_shown (lines_in shown.run.history) (x ∷ lines) (sym (shown-lines_in shown.run.history) ∙ shown.run.shows) in
      let allowed : refusal_of_line l lines x ≡ None = last_allowed shown.run.history shown.last x lines shown.run.run same in
      absurd (cc)
