-- The lines that the plain machine doesn't have: `process`, `halted` and `resumed`, and that which asks for an undefined
-- call. No run of it shows one. And the rules for the end of a process.
use Rattle.std.proofs.Common.{ℕ, ◌≡◌, Bool, true, false, List, [], ◌∷◌, Some, refl, sym, ap, subst}
use Rattle.pif_types.specs.Bounds.{Bounds}
use Rattle.pif_model.specs.declared.events.Event.TheVariants as event
use Rattle.pif_model.specs.declared.events.Seen.TheVariants as seen
use Rattle.pif_model.specs.declared.events.Entry.{Entry}
use Rattle.pif_model.specs.declared.events.Entry.TheVariants as entry
use Rattle.pif_model.specs.Posix.{World}
use Rattle.pif_search.specs.Runs.{Runs}
use Rattle.pif_rules_model.specs.declared.rules.Rules.{Rules}
use Rattle.pif_rules_model.specs.Rules.{as_process_ends}
use Rattle.pif_history_model.specs.declared.lines.Protocol.TheVariants.{PrioInherit}
use Rattle.pif_history_model.specs.declared.lines.Line.{Line}
use Rattle.pif_history_model.specs.declared.lines.Line.TheVariants.{Thread, Mutex, Cond, Begin, Answer, End, Tick, Halted, Resumed}
use Rattle.pif_history_model.specs.declared.labels.Label.{Label}
use Rattle.pif_history_model.specs.declared.labels.Label.TheVariants.{Shown, Moves, Ends}
use Rattle.pif_history_model.specs.Lines.{line_of, is_among, is_no_extra, halted_by, comes_while}
use Rattle.pif_history_model.specs.Shown.{IsSeen}
use Rattle.pif_history_model.specs.Shown.IsSeen.{rests, prio, dying}
use Rattle.pif_history_model.specs.Plain.{PlainConfiguration, PlainAdvances}
use Rattle.pif_history_model.specs.Plain.PlainAdvances.{moves, ends, enters, sees, has_ended}
use Rattle.pif_history_model.specs.Searched.{Configuration, may_come, at_end_of}
use Rattle.pif_history_model.proofs.Soundness.{lines_in}

-- the rule `ends_apart` holds also for the end of a process
pub apart_at_end : (s : Configuration) (r : Rules) (t : ℕ) → (at_end_of s r t).ends_apart ≡ r.ends_apart
apart_at_end s r t = by_process (is_among s.exiting t)
  where
    by_process : (b : Bool) → (as_process_ends b r).ends_apart ≡ r.ends_apart
    by_process false = refl
    by_process true = refl

-- ONE LINE

-- none of them shows an entry
pub entry_is_plain : (e : Entry) (line : Line) → line_of e ≡ Some line → is_no_extra line ≡ true
entry_is_plain (entry.Thread t p) line h = let is : Thread p ≡ line = cc in ap is_no_extra (sym is)
entry_is_plain (entry.Mutex m k r) line h = let is : Mutex k r PrioInherit ≡ line = cc in ap is_no_extra (sym is)
entry_is_plain (entry.Cond c m) line h = let is : Cond m ≡ line = cc in ap is_no_extra (sym is)
entry_is_plain (entry.Step (event.Begin t q) seen.Begun) line h = let is : Begin t q ≡ line = cc in ap is_no_extra (sym is)
entry_is_plain (entry.Step (event.Go t) (seen.Answered a)) line h = let is : Answer t a ≡ line = cc in ap is_no_extra (sym is)
entry_is_plain (entry.Step (event.End t) seen.Ended) line h = let is : End t ≡ line = cc in ap is_no_extra (sym is)
entry_is_plain (entry.Step (event.Tick n) seen.Ticked) line h = let is : Tick n ≡ line = cc in ap is_no_extra (sym is)
entry_is_plain _ line h = absurd (cc)

-- and none tells of the state
pub look_is_plain : (line : Line) (w : World) → IsSeen line w → is_no_extra line ≡ true
look_is_plain line w (rests t is a b) = ap is_no_extra is
look_is_plain line w (prio t p is a b) = ap is_no_extra is
look_is_plain line w (dying t is a) = ap is_no_extra is

-- a line that the plain machine shows is none of them
step_is_plain : (l : Bounds) (s : PlainConfiguration) (x : Label) (n : PlainConfiguration) (line : Line) → x ≡ Shown line
    → PlainAdvances l s x n → is_no_extra line ≡ true
step_is_plain l s x n line i (moves t v e m h) = absurd (cc)
step_is_plain l s x n line i (ends t v e a m h) = absurd (cc)
step_is_plain l s x n line i (enters other e v k h a m is) =
    let same : other ≡ line = cc in subst (λ z. is_no_extra z ≡ true) same (entry_is_plain e other h)
step_is_plain l s x n line i (sees other k a y is) =
    let same : other ≡ line = cc in subst (λ z. is_no_extra z ≡ true) same (look_is_plain other s.world y)
step_is_plain l s x n line i (has_ended t k a dead is) = let same : End t ≡ line = cc in ap is_no_extra (sym same)

-- a line that is none of them comes if threads run
pub plain_line_comes : (line : Line) → is_no_extra line ≡ true → comes_while false line ≡ true
plain_line_comes Resumed e = absurd (cc)
plain_line_comes _ e = refl

pub comes_plainly : (l : Bounds) (s : PlainConfiguration) (x : Label) (n : PlainConfiguration) → PlainAdvances l s x n
    → may_come false x ≡ true
comes_plainly l s (Shown line) n h = plain_line_comes line (step_is_plain l s (Shown line) n line refl h)
comes_plainly l s (Moves t) n h = refl
comes_plainly l s (Ends t) n h = refl

-- LINES

-- behind one that is none of them it runs as before
running_after : (line : Line) (lines : List Line) → is_no_extra line ≡ true → halted_by lines ≡ false
    → halted_by (line ∷ lines) ≡ false
running_after Halted lines e h = absurd (cc)
running_after Resumed lines e h = absurd (cc)
running_after _ lines e h = h

-- threads run behind the lines that the plain machine shows
pub runs_while_plain : (l : Bounds) (s : PlainConfiguration) (h : List Label) (n : PlainConfiguration)
    → Runs (PlainAdvances l) s h n → halted_by (lines_in h) ≡ false
runs_while_plain l s [] n run = refl
runs_while_plain l s (Shown line ∷ h) n run =
    running_after line (lines_in h) (step_is_plain l run.0 (Shown line) n line refl run.2) (runs_while_plain l s h run.0 run.1)
runs_while_plain l s (Moves t ∷ h) n run = runs_while_plain l s h run.0 run.1
runs_while_plain l s (Ends t ∷ h) n run = runs_while_plain l s h run.0 run.1
