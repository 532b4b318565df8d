-- What is so of each state that a run reaches, and of hidden steps from there.
use Rattle.std.proofs.Common.{ℕ, ◌≡◌, ◌≢◌, ◌∙◌, Bool, true, false, List, ◌∷◌, drop, Option, Some, None, refl, sym, ap, subst}
use Rattle.std.proofs.lemmas.Bool.{true≢false, ne_eqb, false_from_ne_true}
use Rattle.pif_types.specs.Bounds.{Bounds}
use Rattle.pif_model.specs.declared.events.Event.TheVariants as event
use Rattle.pif_model.specs.declared.events.Seen.TheVariants as seen
use Rattle.pif_model.specs.declared.events.Entry.TheVariants as entry
use Rattle.pif_model.specs.Posix.{World, Call}
use Rattle.pif_model.specs.World.Progress.{Waiting}
use Rattle.pif_model_lemmas.proofs.Waiting.{pair-from_named}
use Rattle.pif_model_simulation.proofs.runs.Worlds.{call_of}
use Rattle.pif_posix_steps.specs.Independence.{is_queued}
use Rattle.pif_search.specs.Runs.{Runs}
use Rattle.pif_history_model.specs.declared.lines.Line.{Line}
use Rattle.pif_history_model.specs.declared.lines.Line.TheVariants as line
use Rattle.pif_history_model.specs.declared.labels.Label.{Label}
use Rattle.pif_history_model.specs.declared.labels.Label.TheVariants.{Shown}
use Rattle.pif_history_model.specs.Lines.{is_among}
use Rattle.pif_history_model.specs.Plain.{PlainConfiguration, PlainAdvances}
use Rattle.pif_history_model.specs.Searched.{hides}
use Rattle.pif_history_model.specs.Plain.PlainAdvances.{moves, ends, enters, sees, has_ended}
use Rattle.pif_history_model.specs.Notes.{Needs}
use Rattle.pif_history_model.specs.Known.{KeepsTo, Counted, known_start_of, GoesKnown}
use Rattle.pif_history_model.proofs.Leading.{AreWaiting, Leads}
use Rattle.pif_history_model.proofs.KnownMoving.{leads_move}
use Rattle.pif_history_model.proofs.Entering.{leads_entry}
use Rattle.pif_history_model.proofs.AtOnce.{run_keeps, run_waits}

-- STATES OF RUNS

module _ (l : Bounds) (all : Bool) (lines : List Line) where
  -- some run reaches this state
  abbrev pub IsReached : Counted → Type 0
  IsReached s = (h : List Label) × Runs (GoesKnown (Needs l all) lines) (known_start_of l) h s

  pub reached_next : (s n : Counted) (x : Label) → IsReached s → GoesKnown (Needs l all) lines s x n → IsReached n
  reached_next s n x r step = (x ∷ r.0, (s, r.1, step))

  -- each call may be answered there as the lines to come say
  pub reached_keeps : (s : Counted) → IsReached s → KeepsTo (drop s.count lines) s.state.world
  reached_keeps s r = run_keeps l all lines r.0 s r.1

  -- and waiters wait
  pub reached_waits : (s : Counted) → IsReached s → AreWaiting s.state.world
  reached_waits s r = run_waits l all lines r.0 s r.1

-- a thread with no call open is among no waiters
pub idle_is_unqueued : (w : World) (t : ℕ) → AreWaiting w → call_of w t ≡ None → is_queued w t ≡ false
idle_is_unqueued w t ok none =
    false_from_ne_true (is_queued w t) (λ e.
    let m = pair-from_named w.waiters t e in
    let waits = ok t m.0 m.1 in
    let some : call_of w t ≡ Some (record { request = waits.0; progress = Waiting }) = waits.1 in
    absurd (cc))

-- HIDDEN STEPS

-- a step that shows a line isn't hidden
pub not_hidden : (x : Label) (k : Line) → hides x ≡ true → x ≡ Shown k → ⊥
not_hidden x k hidden is = true≢false (sym hidden ∙ ap hides is)

module _ (l : Bounds) (s n : PlainConfiguration) (x : Label) (hidden : hides x ≡ true) where
  -- by a hidden step nobody begins or ends to be dying
  pub same_dying : PlainAdvances l s x n → n.dying ≡ s.dying
  same_dying (moves u w is y e) = ap (λ (z : PlainConfiguration). z.dying) e
  same_dying (ends u w is among y e) = ap (λ (z : PlainConfiguration). z.dying) e
  same_dying (enters k e w is of look y same) = absurd (not_hidden x k hidden is)
  same_dying (sees k is look y same) = absurd (not_hidden x k hidden is)
  same_dying (has_ended u is among dead same) = absurd (not_hidden x (line.End u) hidden is)

  -- behind it the call of a thread that isn't dying is still open
  pub hidden_leads : (t : ℕ) → AreWaiting s.world → is_among s.dying t ≡ false → PlainAdvances l s x n
      → Leads t s.world n.world
  hidden_leads t ok spared (moves u w is y e) =
      subst (λ (z : PlainConfiguration). Leads t s.world z.world) (sym e) (leads_move t u s.world w ok y)
  hidden_leads t ok spared (ends u w is among y e) =
      let d : u ≢ t = (λ same. true≢false (sym among ∙ ap (is_among s.dying) same ∙ spared)) in
      subst (λ (z : PlainConfiguration). Leads t s.world z.world) (sym e)
      (leads_entry t l s.world w (entry.Step (event.End u) seen.Ended) (line.End u) ok refl (ne_eqb u t d) y)
  hidden_leads t ok spared (enters k e w is of look y same) = absurd (not_hidden x k hidden is)
  hidden_leads t ok spared (sees k is look y same) = absurd (not_hidden x k hidden is)
  hidden_leads t ok spared (has_ended u is among dead same) = absurd (not_hidden x (line.End u) hidden is)

  -- who has no call open behind it had none before
  pub idle_before : (t : ℕ) → AreWaiting s.world → is_among s.dying t ≡ false → PlainAdvances l s x n
      → call_of n.world t ≡ None → call_of s.world t ≡ None
  idle_before t ok spared step none = by_call (call_of s.world t) refl
    where
      by_call : (o : Option Call) → call_of s.world t ≡ o → call_of s.world t ≡ None
      by_call None e = e
      by_call (Some c) e =
          let led = hidden_leads t ok spared step c.request c.progress e in
          let some : call_of n.world t ≡ Some (record { request = c.request; progress = led.progress }) = led.come in
          absurd (cc)
