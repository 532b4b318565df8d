-- One step back along a run that shows all lines: if each call may be answered behind a step as the lines still to come
-- say, so it may before the step.
use Rattle.std.proofs.Common.{ℕ, ◌≡◌, ◌≢◌, ◌⊎◌, ◌==◌, ◌∙◌, true, false, List, [], ◌∷◌, not, Some, refl, sym, ap, subst, inl, inr, eqb-true, arith, if◌then◌else◌}
use Rattle.std.specs.List.{filter}
use Rattle.std.proofs.lemmas.Bool.{true≢false, eq-eqb, ne_eqb, or_parts}
use Rattle.std.proofs.lemmas.Bool.Decides.{nat_tests}
use Rattle.pif_types.specs.Bounds.{Bounds}
use Rattle.pif_types.specs.declared.requests.Request.{Request}
use Rattle.pif_model.specs.declared.events.Event.TheVariants as event
use Rattle.pif_model.specs.declared.events.Seen.TheVariants as seen
use Rattle.pif_model.specs.declared.events.Entry.{Entry}
use Rattle.pif_model.specs.declared.events.Entry.TheVariants as entry
use Rattle.pif_model.specs.Posix.{World, Progress, thread_at, HasCome, IsRun}
use Rattle.pif_model_lemmas.proofs.Waiting.{by_test}
use Rattle.pif_model_simulation.proofs.runs.Holders.{IsHeld-IsRun}
use Rattle.pif_history_model.specs.declared.lines.Line.{Line}
use Rattle.pif_history_model.specs.declared.lines.Line.TheVariants.{Answer, Dying, End, Rests, Prio}
use Rattle.pif_history_model.specs.declared.labels.Label.{Label}
use Rattle.pif_history_model.specs.Lines.{is_among, is_line_among, dying_after}
use Rattle.pif_history_model.specs.Shown.{IsSeen}
use Rattle.pif_history_model.specs.Shown.IsSeen.{rests as sees_rest, prio as sees_prio, dying as sees_dying}
use Rattle.pif_history_model.specs.Plain.{PlainConfiguration, PlainAdvances}
use Rattle.pif_history_model.specs.Plain.PlainAdvances.{moves, ends, enters, sees, has_ended}
use Rattle.pif_history_model.proofs.Soundness.{lines_after}
use Rattle.pif_history_model.specs.Known.{is_over, answer_of, known_answer, may_be_answered, KeepsTo}
use Rattle.pif_history_model.proofs.Leading.{Leads, AreWaiting, leads_kept}
use Rattle.pif_history_model.proofs.KnownMoving.{leads_move}
use Rattle.pif_history_model.proofs.Entering.{leads_entry, may_be_answered-from_entry}

-- LINES

-- what a line says that a call was answered, if it says of u that its call is over
over_answer : (u a : ℕ) (k : Line) → is_over u k ≡ true → answer_of k ≡ Some a → k ≡ Answer u a
over_answer u a (Answer t b) o e =
    let whose : t ≡ u = eqb-true t u o in
    let what : b ≡ a = cc in
    cc
over_answer u a _ o e = absurd (cc)

-- a known answer is told by the next line, or by the lines behind it
pub known_cases : (u a : ℕ) (k : Line) (rest : List Line) → known_answer u (k ∷ rest) ≡ Some a
    → (k ≡ Answer u a) ⊎ ((is_over u k ≡ false) × (known_answer u rest ≡ Some a))
known_cases u a k rest e =
    by_test (λ b. (if b then answer_of k else known_answer u rest) ≡ Some a
    → (k ≡ Answer u a) ⊎ ((is_over u k ≡ false) × (known_answer u rest ≡ Some a))) (is_over u k)
    (λ o f. inl (over_answer u a k o f)) (λ o f. inr (o, f)) e

-- WHO IS DYING

-- nobody is dying whose answer is known
abbrev pub NoneDies : List Line → List ℕ → Type 0
NoneDies rest dying = (u a : ℕ) → known_answer u rest ≡ Some a → is_among dying u ≡ false

-- who isn't among those that are left when t is taken out wasn't among them before
not_left : (us : List ℕ) (t u : ℕ) → t ≢ u → is_among (filter (λ x. not (x == t)) us) u ≡ false → is_among us u ≡ false
not_left [] t u d e = refl
not_left (x ∷ us) t u d e = grind (arith, nat_tests, d, e, not_left us t u d)

-- who isn't dying behind a line wasn't dying before it, unless it ended
not_dying : (u : ℕ) (k : Line) (us : List ℕ) → is_over u k ≡ false → is_among (dying_after k us) u ≡ false → is_among us u ≡ false
not_dying u (Dying t) us o e = (or_parts (t == u) (is_among us u) e).1
not_dying u (End t) us o e = not_left us t u (λ i. true≢false (sym (eq-eqb t u i) ∙ o)) e
not_dying u _ us o e = e

dies_before_line : (k : Line) (rest : List Line) (us : List ℕ) → ((u a : ℕ) → k ≡ Answer u a → is_among us u ≡ false)
    → NoneDies rest (dying_after k us) → NoneDies (k ∷ rest) us
dies_before_line k rest us own d u a e = go (known_cases u a k rest e)
  where
    go : (k ≡ Answer u a) ⊎ ((is_over u k ≡ false) × (known_answer u rest ≡ Some a)) → is_among us u ≡ false
    go (inl is) = own u a is
    go (inr p) = not_dying u k us p.0 (d u a p.1)

-- a line of a thread that isn't dying
own_apart : (k : Line) (us : List ℕ) → is_line_among us k ≡ false → (u a : ℕ) → k ≡ Answer u a → is_among us u ≡ false
own_apart k us apart u a is = sym (ap (is_line_among us) is) ∙ apart

pub dies_before : (l : Bounds) (s n : PlainConfiguration) (x : Label) (rest : List Line) → PlainAdvances l s x n
    → NoneDies rest n.dying → NoneDies (lines_after x rest) s.dying
dies_before l s n x rest (moves t v is m e) d =
    subst (λ (z : Label). NoneDies (lines_after z rest) s.dying) (sym is)
    (subst (λ (z : PlainConfiguration). NoneDies rest z.dying) e d)
dies_before l s n x rest (ends t v is among m e) d =
    subst (λ (z : Label). NoneDies (lines_after z rest) s.dying) (sym is)
    (subst (λ (z : PlainConfiguration). NoneDies rest z.dying) e d)
dies_before l s n x rest (enters k e v is of apart m same) d =
    subst (λ (z : Label). NoneDies (lines_after z rest) s.dying) (sym is)
    (dies_before_line k rest s.dying (own_apart k s.dying apart)
    (subst (λ (z : PlainConfiguration). NoneDies rest z.dying) same d))
dies_before l s n x rest (sees k is apart look same) d =
    subst (λ (z : Label). NoneDies (lines_after z rest) s.dying) (sym is)
    (dies_before_line k rest s.dying (own_apart k s.dying apart)
    (subst (λ (z : PlainConfiguration). NoneDies rest z.dying) same d))
dies_before l s n x rest (has_ended t is among dead same) d =
    subst (λ (z : Label). NoneDies (lines_after z rest) s.dying) (sym is)
    (dies_before_line (End t) rest s.dying (λ u a e. absurd (cc))
    (subst (λ (z : PlainConfiguration). NoneDies rest z.dying) same d))

-- CALLS

-- in a state of a run waiters wait
pub waiting_at : (l : Bounds) {h : List Entry} {r : List World} (w : World) → IsRun l h r w → AreWaiting w
waiting_at l w run u m e =
    let waits = ((IsHeld-IsRun l run).each u).waiting m e in
    (waits.request, waits.call)

-- no line of an answer tells of the state
pub no_look : (u a : ℕ) (k : Line) (w : World) → k ≡ Answer u a → IsSeen k w → ⊥
no_look u a k w is (sees_rest t e lives rest) = absurd (let other : Rests t ≡ Answer u a = sym e ∙ is in cc)
no_look u a k w is (sees_prio t p e lives same) = absurd (let other : Prio t p ≡ Answer u a = sym e ∙ is in cc)
no_look u a k w is (sees_dying t e lives) = absurd (let other : Dying t ≡ Answer u a = sym e ∙ is in cc)

module _ (l : Bounds) (s n : PlainConfiguration) (rest : List Line) {h : List Entry} {r : List World} (run : IsRun l h r s.world)
    (d : NoneDies rest n.dying) (k : KeepsTo rest n.world) where
  -- a call may be answered as is known if it leads to where it may
  by_state : (v : World) → n.world ≡ v → (u : ℕ) (q : Request) (p : Progress) (a : ℕ) → HasCome s.world u q p
      → known_answer u rest ≡ Some a → Leads u s.world v
      → may_be_answered q p (thread_at s.world u).timer.expired a ≡ true
  by_state v is u q p a come known leads =
      let led = leads q p come in
      led.back a (subst (λ (w : World). KeepsTo rest w) is k u q led.progress a led.come known)

  -- if the line may be the answer
  by_line : (line : Line) (v : World) → n.world ≡ v
      → ((u : ℕ) (q : Request) (p : Progress) (a : ℕ) → HasCome s.world u q p → line ≡ Answer u a
      → may_be_answered q p (thread_at s.world u).timer.expired a ≡ true)
      → ((u : ℕ) → is_over u line ≡ false → Leads u s.world v) → KeepsTo (line ∷ rest) s.world
  by_line line v is own leads u q p a come known = go (known_cases u a line rest known)
    where
      go : (line ≡ Answer u a) ⊎ ((is_over u line ≡ false) × (known_answer u rest ≡ Some a))
          → may_be_answered q p (thread_at s.world u).timer.expired a ≡ true
      go (inl it) = own u q p a come it
      go (inr o) = by_state v is u q p a come o.1 (leads u o.0)

  kept_before_step : (x : Label) → PlainAdvances l s x n → KeepsTo (lines_after x rest) s.world
  kept_before_step x (moves t v is m e) =
      subst (λ (z : Label). KeepsTo (lines_after z rest) s.world) (sym is)
      (λ u q p a come known. by_state v (ap (λ (z : PlainConfiguration). z.world) e) u q p a come known
      (leads_move u t s.world v (waiting_at l s.world run) m))
  kept_before_step x (ends t v is among m e) =
      subst (λ (z : Label). KeepsTo (lines_after z rest) s.world) (sym is)
      (λ u q p a come known. by_state v (ap (λ (z : PlainConfiguration). z.world) e) u q p a come known
      (leads_entry u l s.world v (entry.Step (event.End t) seen.Ended) (End t) (waiting_at l s.world run) refl
      (ne_eqb t u (λ i. true≢false (sym among ∙ ap (λ (z : PlainConfiguration). is_among z.dying t) (sym e)
      ∙ ap (is_among n.dying) i ∙ d u a known))) m))
  kept_before_step x (enters line e v is of apart m same) =
      subst (λ (z : Label). KeepsTo (lines_after z rest) s.world) (sym is)
      (by_line line v (ap (λ (z : PlainConfiguration). z.world) same)
      (λ u q p a come it. may_be_answered-from_entry u l s.world v e a q p (of ∙ ap Some it) m come)
      (λ u o. leads_entry u l s.world v e line (waiting_at l s.world run) of o m))
  kept_before_step x (sees line is apart look same) =
      subst (λ (z : Label). KeepsTo (lines_after z rest) s.world) (sym is)
      (by_line line s.world (ap (λ (z : PlainConfiguration). z.world) same)
      (λ u q p a come it. absurd (no_look u a line s.world it look))
      (λ u o. leads_kept u s.world s.world refl refl))
  kept_before_step x (has_ended t is among dead same) =
      subst (λ (z : Label). KeepsTo (lines_after z rest) s.world) (sym is)
      (by_line (End t) s.world (ap (λ (z : PlainConfiguration). z.world) same)
      (λ u q p a come it. absurd (cc))
      (λ u o. leads_kept u s.world s.world refl refl))

-- what the lines still to come say is kept to before a step, if it is behind it
pub kept_before : (l : Bounds) (s n : PlainConfiguration) (x : Label) (rest : List Line) {h : List Entry} {r : List World}
    → IsRun l h r s.world → PlainAdvances l s x n → NoneDies rest n.dying → KeepsTo rest n.world
    → KeepsTo (lines_after x rest) s.world
kept_before l s n x rest run step d k = kept_before_step l s n rest run d k x step
