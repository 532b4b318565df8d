-- Following a history: what is told is so of all lines that were read.
use Rattle.std.specs.Prelude.{ℕ, ◌≡◌, ◌⊎◌, List, ◌++◌, Option, Some, None, Result, Ok, Err}
use Rattle.std.specs.Io.KnownBytes.{Consumes, IsAtEnd, Keeps}
use Rattle.pif_history_text.specs.Histories.{Heard}
use Rattle.pif_parts.specs.declared.joining.WholeVerdict.{WholeVerdict}
use Rattle.pif_parts_judged.specs.Following.{IsAgainst}
use Rattle.pif_job_parts.specs.declared.faults.PartsFault.{PartsFault}
use Rattle.pif_job_parts.specs.Joining.{WritesSaid}
use Rattle.pif_job_parts.specs.Splitting.{HasNoRules}
use Rattle.pif_job_follow.specs.declared.followed.Followed.{Followed}
use Rattle.pif_job_follow.specs.Followed.{IsFollowed, IsOf, IsReading, Leads, stream_of}
use Rattle.pif_job_follow.specs.Telling.{IsSaid}

-- these bytes are those of this history: there is nothing behind them; or they begin with those of this history, which
-- isn't legal, or of which that isn't known, whatever stands behind
abbrev pub AreOf : (read : List ℕ) → (after : Option (List ℕ)) → Heard → WholeVerdict → Type 0
AreOf read after h v =
    (IsAtEnd after × (stream_of read ≡ Ok h))
    ⊎ ((front : List ℕ) × (rest : List ℕ) × (line : List ℕ) × (read ≡ front ++ rest)
    × Leads front (record { heard = h; line = line }) × IsAgainst v)

-- bytes of a reader were read, and this is so of a history that they say
pub record HasFollowed (before after : Option (List ℕ)) (h : Heard) (v : WholeVerdict) : Type 0 where
  pub read : List ℕ
  pub consumes : Consumes before after read
  pub says : AreOf read after h v
  pub rules : HasNoRules h.allowed
  pub verdict : IsOf h v

-- the same, of what is known of the history
abbrev pub ReadsTo : (before after : Option (List ℕ)) → Followed → WholeVerdict → Type 0
ReadsTo before after f v = (h : Heard) × HasFollowed before after h v × IsFollowed h f

-- so far bytes of a reader were read, and all of them lead there
abbrev pub IsUnder : (before after : Option (List ℕ)) → Followed → Type 0
IsUnder before after f = (read : List ℕ) × Consumes before after read × IsReading read f

-- one more part was read: the text goes on, or this is so of the history
abbrev pub ReadsPart : (before after : Option (List ℕ)) → Followed → Option WholeVerdict → Type 0
ReadsPart before after f None = IsUnder before after f
ReadsPart before after f (Some v) = ReadsTo before after f v

-- what is told of the history of a reader, and how that ends
abbrev pub FollowsSaid : (before after : Option (List ℕ)) → (text : List ℕ) → Result (Unit {0}) PartsFault → Type 0
FollowsSaid before after text end = (h : Heard) × (v : WholeVerdict) × HasFollowed before after h v × IsSaid h v text end

-- following a history came to this: it was told; or nothing was, as the text has a fault or needs rules, a read failed,
-- or memory was refused
abbrev pub FollowsTo : (before after held holds : Option (List ℕ)) → Result (Unit {0}) PartsFault → Type 0
FollowsTo before after held holds result =
    ((text : List ℕ) × (end : Result (Unit {0}) PartsFault) × FollowsSaid before after text end
    × WritesSaid held holds text end result)
    ⊎ ((e : PartsFault) × (result ≡ Err e) × Keeps held holds)
