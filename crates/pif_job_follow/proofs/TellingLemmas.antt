-- What is told of a history that is followed.
use Rattle.std.proofs.Common.{◌≡◌, ℕ, ◌-◌, ◌<◌, ◌∙◌, List, [], ◌++◌, Some, None, Err, length, take, reverse, sym, ap, subst, arith, append-nil, Result}
use Rattle.std.specs.List.{slice_get}
use Rattle.std.proofs.Math.Seq.{take-append_seam}
use Rattle.pif_script_model.specs.declared.faults.CliFault.TheVariants.{Differs}
use Rattle.pif_history_model.specs.declared.lines.Line.{Line}
use Rattle.pif_history_model.specs.Shown.{IsShown}
use Rattle.pif_history_text.specs.Histories.{Heard, limits_of}
use Rattle.pif_history_text.specs.Reading.{heard_of}
use Rattle.pif_history_text.specs.Verdicts.{illegal_line}
use Rattle.pif_history_told.specs.declared.verdicts.Unfound.{Unfound}
use Rattle.pif_history_told.specs.WhyTexts.{legal_up_to_text}
use Rattle.pif_history_told.specs.declared.ends.AtEnd.{AtEnd}
use Rattle.pif_history_told.specs.Ends.{at_end_text}
use Rattle.pif_history_told.specs.Texts.{legal_text}
use Rattle.pif_job_parts.specs.declared.faults.PartsFault.{PartsFault}
use Rattle.pif_job_parts.specs.declared.faults.PartsFault.TheVariants as fault
use Rattle.pif_job_parts.specs.Joining.{legal_end}
use Rattle.pif_job_follow.specs.declared.followed.Followed.{Followed}
use Rattle.pif_job_follow.specs.Followed.{IsFollowed, last_or}
use Rattle.pif_job_follow.specs.Telling.{SaysIllegal, SaysLegal, SaysUndecided}
use Rattle.pif_job_follow.proofs.FollowedLemmas.{at_behind, same_limits}

-- the line of this place behind the front isn't legal
pub illegal_said : (full : Heard) (f : Followed) (n front number : ℕ) (line : Line) (text : List ℕ) (k : ℕ) → k ≡ number → (x : IsFollowed full f)
    → front ≡ length x.front → front < n → slice_get f.later.shown.items ((n - front) - 1) ≡ Some line
    → slice_get f.later.numbers.items ((n - front) - 1) ≡ Some number → text ≡ illegal_line number line
    → SaysIllegal full n text (Err (fault.Cli (Differs k)))
illegal_said full f n front number line text k same x e lt shown numbers told = (
  number,
  line,
  ap (λ (h : Heard). slice_get h.shown (n - 1)) x.is
      ∙ at_behind x.front f.later.shown.items (n - 1) ((n - front) - 1) (omega (arith, e, lt)) ∙ shown,
  ap (λ (h : Heard). slice_get h.numbers (n - 1)) x.is
      ∙ at_behind x.numbers f.later.numbers.items (n - 1) ((n - front) - 1) (let p = x.paired in omega (arith, e, lt, p)) ∙ numbers,
  told,
  ap (λ m. Err (fault.Cli (Differs m))) same,
)

-- the history is legal
pub legal_said : (full : Heard) (f : Followed) (at_end : AtEnd) (text : List ℕ) (end : Result (Unit {0}) PartsFault)
    → text ≡ legal_text f.later.count f.calls [] None ++ at_end_text at_end ++ [] → end ≡ legal_end f.calls → IsFollowed full f
    → SaysLegal full text end
legal_said full f at_end text end told ends x = (
  at_end,
  told ∙ append-nil (legal_text f.later.count f.calls [] None ++ at_end_text at_end)
      ∙ (λ i. legal_text (sym (ap (λ (h : Heard). h.count) x.is) i) (x.calls i) [] None ++ at_end_text at_end),
  ends ∙ ap legal_end x.calls,
)

-- the front is legal, and of the rest that isn't known
pub undecided_said : (full : Heard) (f : Followed) (u : Unfound) (text : List ℕ) (k : ℕ) → k ≡ u.number → (x : IsFollowed full f) → u.up_to ≡ f.up_to
    → text ≡ legal_up_to_text u → SaysUndecided full text (Err (fault.Undecided k))
undecided_said full f u text k same x e told = (
  length x.front,
  u,
  subst (λ l. IsShown l (reverse (take (length x.front) full.shown))) (sym (same_limits full f x))
      (subst (λ (ls : List Line). IsShown (limits_of (heard_of f.later)) (reverse ls)) (sym front_taken) x.judged.legal),
  e ∙ x.up_to ∙ ap (λ (ns : List ℕ). last_or ns None) (sym numbers_taken),
  told,
  ap (λ m. Err (fault.Undecided m)) same,
)
  where
    front_taken : take (length x.front) full.shown ≡ x.front
    front_taken = ap (λ (h : Heard). take (length x.front) h.shown) x.is ∙ take-append_seam x.front f.later.shown.items

    numbers_taken : take (length x.front) full.numbers ≡ x.numbers
    numbers_taken =
        ap (λ (h : Heard). take (length x.front) h.numbers) x.is
        ∙ ap (λ n. take n (x.numbers ++ f.later.numbers.items)) (sym x.paired) ∙ take-append_seam x.numbers f.later.numbers.items
