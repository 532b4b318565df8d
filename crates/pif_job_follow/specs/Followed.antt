-- A history that is followed: what its text says so far, of which a part is forgotten.
use Rattle.std.specs.Prelude.{ℕ, ◌≡◌, List, [], ◌∷◌, ◌++◌, length, count_by, Option, Some, None, Result, Ok, true}
use Rattle.pif_types.specs.Bounds.{Bounds}
use Rattle.pif_script_model.specs.Verdicts.{Fault}
use Rattle.pif_history_model.specs.declared.lines.Line.{Line}
use Rattle.pif_history_text.specs.Histories.{Heard, after_line, at_end, is_begin, limits_of}
use Rattle.pif_history_text.specs.Reading.{HasNoFeed, IsPaired, Place, goes_on, heard_of, start}
use Rattle.pif_parts.specs.declared.joining.WholeVerdict.{WholeVerdict}
use Rattle.pif_parts.specs.Parts.{IsOfWhole}
use Rattle.pif_parts_judged.specs.Following.{IsAgainst, IsJudged}
use Rattle.pif_job_parts.specs.Splitting.{HasNoRules}
use Rattle.pif_job_follow.specs.declared.followed.Followed.{Followed}
use Rattle.pif_job_follow.specs.Fronts.{IsFrontOf, behind}

-- THE TEXT

-- the history of these bytes, or its first fault. It may have any size: of one with at most `most_bytes` it is what
-- `history_of` reads
abbrev pub stream_of : List ℕ → Result Heard Fault
stream_of bytes = goes_on true start bytes

-- these bytes lead there: whatever stands behind them, the text goes on from there
abbrev pub Leads : List ℕ → Place → Type 0
Leads bytes p = (rest : List ℕ) → goes_on true start (bytes ++ rest) ≡ goes_on true p rest

-- THE HISTORY

-- the last of these numbers; or what there was before, if there is none
abbrev pub last_or : List ℕ → Option ℕ → Option ℕ
last_or [] before = before
last_or (n ∷ ns) before = last_or ns (Some n)

-- what is known of a history that says this: the front of it was judged, and is forgotten
pub record IsFollowed (h : Heard) (f : Followed) : Type 0 where
  pub front : List Line
  pub numbers : List ℕ
  pub named : Option Bounds
  pub is : h ≡ behind front numbers named (heard_of f.later)
  pub stands_behind : IsFrontOf front numbers named (heard_of f.later)
  pub paired : length numbers ≡ length front
  pub later_paired : IsPaired f.later
  pub judged : IsJudged (limits_of (heard_of f.later)) front f.later.shown.items f.judged
  pub calls : f.calls ≡ count_by is_begin h.shown
  pub rules : HasNoRules h.allowed
  pub up_to : f.up_to ≡ last_or numbers None

-- these bytes were read
pub record IsReading (read : List ℕ) (f : Followed) : Type 0 where
  pub full : Heard
  pub followed : IsFollowed full f
  pub leads : Leads read (record { heard = full; line = f.line.items })
  pub plain : HasNoFeed f.line.items

-- one more line of these bytes was heard
abbrev pub HeardNext : Heard → (bytes : List ℕ) → Followed → Type 0
HeardNext h bytes f = (next : Heard) × (after_line h bytes ≡ Ok next) × IsFollowed next f

-- the last line of the text was, behind which there is no LF, if it has any bytes
abbrev pub HeardLast : Heard → (bytes : List ℕ) → Followed → Type 0
HeardLast h bytes f = (next : Heard) × (at_end h bytes ≡ Ok next) × IsFollowed next f

-- what stays of a history with these limits if its lines are forgotten
abbrev pub forgotten : Bounds → Heard → Heard
forgotten b h = record { named = Some b; allowed = h.allowed; shown = []; numbers = []; count = h.count }

-- VERDICTS

-- this is so of the history so far
abbrev pub IsOf : Heard → WholeVerdict → Type 0
IsOf h v = IsOfWhole (limits_of h) h.shown v

-- open lines were judged, or not yet: nothing was found against them; or this is so of the history
abbrev pub JudgesTo : Heard → Followed → Option WholeVerdict → Type 0
JudgesTo h f None = IsFollowed h f
JudgesTo h f (Some v) = IsFollowed h f × IsOf h v × IsAgainst v

-- bytes were taken behind those that were read; or some of them, by which this is so of the history
abbrev pub TakesTo : (read bytes : List ℕ) → Followed → Option WholeVerdict → Type 0
TakesTo read bytes f None = IsReading (read ++ bytes) f
TakesTo read bytes f (Some v) =
    (done : List ℕ) × (rest : List ℕ) × (x : IsReading (read ++ done) f) × (bytes ≡ done ++ rest) × IsOf x.full v × IsAgainst v

-- the text ended behind the bytes that were read, and this is so of its history
abbrev pub EndsTo : (read : List ℕ) → Followed → WholeVerdict → Type 0
EndsTo read f v = (h : Heard) × (stream_of read ≡ Ok h) × IsFollowed h f × IsOf h v
