-- What the chooser tells: where the next schedule of a search leaves the one before it, and who goes next.
use Rattle.std.specs.Prelude.{ℕ, ◌≡◌, List, Option, Some, None, if◌then◌else◌}
use Rattle.pif_choose.specs.declared.counts.Counts.{Counts}
use Rattle.pif_choose.specs.declared.points.Point.{Point}
use Rattle.pif_choose.specs.declared.points.Change.{Change}
use Rattle.pif_choose.specs.declared.choice.Candidate.{Candidate}
use Rattle.pif_choose.specs.declared.choice.Strategy.{Strategy}
use Rattle.pif_choose.specs.Trees.{Tree, IsBounded, IsFirstFree}
use Rattle.pif_choose.specs.Runs.{IsRun, IsAfter, choices_of}
use Rattle.pif_choose.specs.Choices.{IsChoice}
use Rattle.pif_choose.specs.declared.standing.Standing.{Standing}
use Rattle.pif_choose.specs.Standstills.{is_deadlock}
use Rattle.pif_c_numbers.specs.declared.numbers.PifNumber.{PifNumber}
use Rattle.pif_c_numbers.specs.Numbers.{number_told}
use Rattle.pif_c_numbers.specs.Codes as pif
use Rattle.pif_c.specs.declared.choosing.PifChange.{PifChange}

-- a change, if there is one
abbrev pub change_told : Option Change → PifChange
change_told (Some change) = record { result = pif.ok; kept = change.kept; option = change.option }
change_told None = record { result = pif.none; kept = 0; option = 0 }

-- what is told comes after the schedule of the run, in each program of which this is a run
pub record TellsChange (bound : Counts) (points : List Point) (options : List Counts) (told : PifChange) : Type 0 where
  pub change : Option Change
  pub is_told : told ≡ change_told change
  pub after : (t : Tree) → IsFirstFree t → IsRun t points options → IsBounded t bound (choices_of points)
      → IsAfter t bound (choices_of points) change

-- who is chosen by a strategy is told
pub record TellsThread (strategy : Strategy) (can : List Candidate) (told : PifNumber) : Type 0 where
  pub chosen : Option ℕ
  pub is_told : told ≡ number_told chosen
  pub is_choice : IsChoice strategy can chosen

-- 1 if threads stand still for good and one of them wants a lock
abbrev pub deadlock_told : List Standing → ℕ
deadlock_told standings = if is_deadlock standings then 1 else 0
