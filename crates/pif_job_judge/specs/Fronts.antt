-- Up to which line a history is known to be legal, if it is undecided.
use Rattle.std.specs.Prelude.{ℕ, ◌≡◌, ◌+◌, slice_get, take, Option, None, Some, IfSome}
use Rattle.pif_history_text.specs.Histories.{Heard, limits_of}
use Rattle.pif_history_told.specs.declared.verdicts.Unfound.{Unfound}
use Rattle.pif_history_told.specs.Why.{IsNumbered}
use Rattle.pif_history_machine.specs.Verdicts.{IsVerdictOf}
use Rattle.pif_judge_reasons.specs.declared.fronts.Front.{Front}
use Rattle.pif_judge_reasons.specs.Fronts.{IsFront as IsFrontOf, count_of}
use Rattle.pif_judge_reasons.specs.Found.{AreFound}
use Rattle.pif_job_judge.specs.declared.fronts.Judged.{Judged}

-- Some run shows so many first lines of a history, but not all of its lines are among them: one with these labels.
abbrev pub IsFront : Heard → Front → Type 0
IsFront h = IsFrontOf h.allowed (limits_of h) h.shown

-- The last of them has this number, if there are some.
abbrev pub IsUpTo : Heard → Option Front → Option ℕ → Type 0
IsUpTo h None up_to = up_to ≡ None
IsUpTo h (Some f) up_to = (number : ℕ) × (up_to ≡ Some number) × IsNumbered h f.count number

-- What is told of an undecided history: some run shows the lines up to one, and of the next one it isn't known whether
-- one shows the lines up to that. With each number that was found in place of that line's answer or priority some run
-- shows the lines up to it.
pub record IsUndecided (h : Heard) (front : Option Front) (u : Unfound) : Type 0 where
  pub legal : IfSome front (IsFront h)
  pub up_to : IsUpTo h front u.up_to
  pub number : IsNumbered h (count_of front + 1) u.number
  pub line : slice_get h.shown (count_of front) ≡ Some u.line
  pub found : IfSome u.found (λ v. AreFound h.allowed (limits_of h) (take (count_of front) h.shown) u.line v.items)

-- A verdict on a history is so, and so is the front that is known.
abbrev pub IsJudgedSo : Heard → Judged → Type 0
IsJudgedSo h x = IsVerdictOf h.allowed (limits_of h) h.shown x.verdict × IfSome x.front (IsFront h)
