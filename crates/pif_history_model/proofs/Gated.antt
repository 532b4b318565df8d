-- Whether mutexes of PTHREAD_PRIO_NONE may be added matters to the line alone that adds one; and so does it for the lines
-- that the plain machine doesn't have.
use Rattle.std.proofs.Common.{◌≡◌, ◌∙◌, ◌⊎◌, ℕ, Bool, true, false, List, [], ◌∷◌, Option, Some, None, refl, sym, ap, subst, inl, inr}
use Rattle.std.specs.List.{list_all}
use Rattle.std.proofs.lemmas.Bool.{true≢false, and_parts}
use Rattle.pif_types.specs.Bounds.{Bounds}
use Rattle.pif_model.specs.declared.events.Event.TheVariants as event
use Rattle.pif_model.specs.declared.events.Seen.TheVariants as seen
use Rattle.pif_model.specs.declared.events.Entry.{Entry}
use Rattle.pif_model.specs.declared.events.Entry.TheVariants as entry
use Rattle.pif_search.specs.Runs.{Runs}
use Rattle.pif_rules_model.specs.declared.rules.Rules.{Rules}
use Rattle.pif_rules_model.specs.Rules.{Wide, WideEnters, WideEndsApart, as_process_ends, end_of}
use Rattle.pif_rules_model.proofs.Ruling.{widely_from, widely_to}
use Rattle.pif_rules_model.proofs.Entries.{widely_entered_from, widely_entered_to, ended_apart_from, ended_apart_to, passed_later_from, passed_later_to, released_is, released_from_it}
use Rattle.pif_history_model.specs.declared.lines.Protocol.TheVariants.{PrioNone}
use Rattle.pif_history_model.specs.declared.lines.Line.{Line}
use Rattle.pif_history_model.specs.declared.lines.Line.TheVariants.{Mutex, Process, Halted, Resumed, Asks}
use Rattle.pif_history_model.specs.declared.labels.Label.{Label}
use Rattle.pif_history_model.specs.declared.labels.Label.TheVariants.{Shown, Moves, Ends}
use Rattle.pif_history_model.specs.Lines.{is_among, adds_no_none, is_no_extra}
use Rattle.pif_history_model.specs.Searched.{Configuration, Steps, Advances, IsThrough, IsShownWith, start_of, at_end_of, at_entry}
use Rattle.pif_history_model.specs.Searched.Steps.{moves, ends, ends_apart, enters, adds_none, sees, has_ended, exits, passes_later, halts, resumes, asks}
use Rattle.pif_history_model.specs.Searched.IsThrough.{at_once, released}
use Rattle.pif_history_model.proofs.Soundness.{lines_in, shown-lines_in, same-from_shown}

-- with other gates: whether such mutexes may be added, and whether such lines may stand
module _ (r : Rules) (none extra : Bool) where
  abbrev gated : Rules
  gated = record r { prio_none = none; extra_lines = extra }

  -- a step of the rules: what is listed asks not for them
  entry_gated : (l : Bounds) (s v : Wide) (e : Entry) → WideEnters r l s e v → WideEnters gated l s e v
  entry_gated l s v e h = widely_entered_to gated l s e v (widely_entered_from r l s e v h)

  apart_gated : (t : ℕ) (s v : Wide) → WideEndsApart r t s v → WideEndsApart gated t s v
  apart_gated t s v h = ended_apart_to gated t s v (ended_apart_from r t s v h)

  through_gated : (t : ℕ) (s : Wide) → IsThrough r t s → IsThrough gated t s
  through_gated t s (at_once off) = at_once off
  through_gated t s (released h) = released (released_is gated t s (released_from_it r t s h))

-- also at the end of a process
module _ (r : Rules) (none extra : Bool) where
  gated_at_end : (b : Bool) → as_process_ends b (gated r none extra) ≡ gated (as_process_ends b r) none extra
  gated_at_end false = refl
  gated_at_end true = refl

  gated_at_entry : (s : Configuration) (e : Entry) → at_entry s (gated r none extra) e ≡ gated (at_entry s r e) none extra
  gated_at_entry s e = by_end (end_of e)
    where
      by_end : (o : Option ℕ) → (elim o [ None ↦ gated r none extra | Some t ↦ at_end_of s (gated r none extra) t ])
          ≡ gated (elim o [ None ↦ r | Some t ↦ at_end_of s r t ]) none extra
      by_end None = refl
      by_end (Some t) = gated_at_end (is_among s.exiting t)

-- a label shows no line for which a gate would have to be open that is open with r
pub record PassesGates (r : Rules) (none extra : Bool) (line : Line) : Type 0 where
  pub adds : (adds_no_none line ≡ true) ⊎ (r.prio_none ≡ none)
  pub stands : (is_no_extra line ≡ true) ⊎ (r.extra_lines ≡ extra)

module _ (r : Rules) (none extra : Bool) where
  abbrev g : Rules
  g = gated r none extra

  -- one that needs a gate
  through_gate : (line : Line) (test : Line → Bool) (before after : Bool) → (test line ≡ true) ⊎ (before ≡ after)
      → test line ≡ false → before ≡ true → after ≡ true
  through_gate line test before after (inl plain) needs open_before = absurd (true≢false (sym plain ∙ needs))
  through_gate line test before after (inr same) needs open_before = sym same ∙ open_before

  step_gated : (l : Bounds) (s n : Configuration) (x : Label) → ((line : Line) → x ≡ Shown line → PassesGates r none extra line)
      → Steps r l s x n → Steps g l s x n
  step_gated l s n x ok (moves t v i h e) = moves t v i (widely_to g t s.wide v (widely_from r t s.wide v h)) e
  step_gated l s n x ok (ends t v i a h e) =
      ends t v i a
      (subst (λ (q : Rules). WideEnters q l s.wide (entry.Step (event.End t) seen.Ended) v)
      (sym (gated_at_end r none extra (is_among s.exiting t)))
      (entry_gated (at_end_of s r t) none extra l s.wide v (entry.Step (event.End t) seen.Ended) h)) e
  step_gated l s n x ok (ends_apart t v i a h e) =
      ends_apart t v i a
      (subst (λ (q : Rules). WideEndsApart q t s.wide v) (sym (gated_at_end r none extra (is_among s.exiting t)))
      (apart_gated (at_end_of s r t) none extra t s.wide v h)) e
  step_gated l s n x ok (enters line c v i k a h e) =
      enters line c v i k a
      (subst (λ (q : Rules). WideEnters q l s.wide c v) (sym (gated_at_entry r none extra s c))
      (entry_gated (at_entry s r c) none extra l s.wide v c h)) e
  step_gated l s n x ok (adds_none m k b v i f h e) =
      let y = ok (Mutex k b PrioNone) i in
      adds_none m k b v i (through_gate (Mutex k b PrioNone) adds_no_none r.prio_none none y.adds refl f)
      (entry_gated r none extra l s.wide v (entry.Mutex m k b) h) e
  step_gated l s n x ok (sees line i a h e) = sees line i a h e
  step_gated l s n x ok (has_ended t i a dead h e) =
      has_ended t i a dead
      (subst (λ (q : Rules). IsThrough q t s.wide) (sym (gated_at_end r none extra (is_among s.exiting t)))
      (through_gated (at_end_of s r t) none extra t s.wide h)) e
  step_gated l s n x ok (exits t i f a known e) =
      let y = ok (Process t) i in
      exits t i (through_gate (Process t) is_no_extra r.extra_lines extra y.stands refl f) a known e
  step_gated l s n x ok (passes_later t v i a f h e) =
      passes_later t v i a f (passed_later_to g t s.wide v (passed_later_from r t s.wide v h)) e
  step_gated l s n x ok (halts i f e) =
      let y = ok Halted i in halts i (through_gate Halted is_no_extra r.extra_lines extra y.stands refl f) e
  step_gated l s n x ok (resumes i f e) =
      let y = ok Resumed i in resumes i (through_gate Resumed is_no_extra r.extra_lines extra y.stands refl f) e
  step_gated l s n x ok (asks f b i flag is e) =
      let y = ok (Asks f b) i in
      asks f b i (through_gate (Asks f b) is_no_extra r.extra_lines extra y.stands refl flag) is e

  -- a run whose lines pass a test, if those that pass it pass the gates
  module _ (test : Line → Bool) (passes : (line : Line) → test line ≡ true → PassesGates r none extra line) where
    newest_passes : (x : Label) (h : List Label) → list_all test (lines_in (x ∷ h)) ≡ true → (line : Line)
        → x ≡ Shown line → PassesGates r none extra line
    newest_passes (Shown k) h e line i =
        let same : k ≡ line = cc in
        passes line (ap test (sym same) ∙ (and_parts (test k) (list_all test (lines_in h)) e).0)
    newest_passes (Moves t) h e line i = absurd (cc)
    newest_passes (Ends t) h e line i = absurd (cc)

    others_pass : (x : Label) (h : List Label) → list_all test (lines_in (x ∷ h)) ≡ true → list_all test (lines_in h) ≡ true
    others_pass (Shown k) h e = (and_parts (test k) (list_all test (lines_in h)) e).1
    others_pass (Moves t) h e = e
    others_pass (Ends t) h e = e

    run_gated : (l : Bounds) (s : Configuration) (h : List Label) (n : Configuration) → list_all test (lines_in h) ≡ true
        → Runs (Advances r l) s h n → Runs (Advances g l) s h n
    run_gated l s [] n ok e = e
    run_gated l s (x ∷ h) n ok run = (
      run.0,
      run_gated l s h run.0 (others_pass x h ok) run.1,
      record { comes = run.2.comes; step = step_gated l run.0 n x (newest_passes x h ok) run.2.step },
    )

    shown_by_gates : (l : Bounds) (lines : List Line) → list_all test lines ≡ true → IsShownWith r l lines → IsShownWith g l lines
    shown_by_gates l lines ok x =
        let same : lines_in x.run.history ≡ lines =
        same-from_shown (lines_in x.run.history) lines (sym (shown-lines_in x.run.history) ∙ x.run.shows) in
        record {
          last = x.last;
          run = record {
            history = x.run.history;
            run = run_gated l (start_of l) x.run.history x.last (ap (list_all test) same ∙ ok) x.run.run;
            shows = x.run.shows;
          };
        }

-- lines that add no mutex of PTHREAD_PRIO_NONE
pub shown_gated : (r : Rules) (on : Bool) (l : Bounds) (lines : List Line) → list_all adds_no_none lines ≡ true → IsShownWith r l lines
    → IsShownWith (record r { prio_none = on }) l lines
shown_gated r on l lines ok x =
    shown_by_gates r on r.extra_lines adds_no_none (λ line e. record { adds = inl e; stands = inr refl }) l lines ok x

-- lines that the plain machine has, too
pub shown_extra : (r : Rules) (on : Bool) (l : Bounds) (lines : List Line) → list_all is_no_extra lines ≡ true → IsShownWith r l lines
    → IsShownWith (record r { extra_lines = on }) l lines
shown_extra r on l lines ok x =
    shown_by_gates r r.prio_none on is_no_extra (λ line e. record { adds = inr refl; stands = inl e }) l lines ok x
