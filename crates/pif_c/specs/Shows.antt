-- What is shown of a story.
use Rattle.std.specs.Prelude.{ℕ, Bool, List, Option, Result, Ok, Err, if◌then◌else◌}
use Rattle.pif_script_model.specs.declared.details.Detail.{Detail}
use Rattle.pif_script_model.specs.declared.details.Detail.TheVariants.{All, Changes}
use Rattle.pif_script_model.specs.declared.faults.CliFault.{CliFault}
use Rattle.pif_story.specs.declared.missing.Note.{Note}
use Rattle.pif_story.specs.Notes.{ShowsNoting}
use Rattle.pif_job_run.specs.Shows.{WritesStory}
use Rattle.pif_c.specs.Texts.{Job}

-- what is told behind each command
abbrev pub detail_of : (all : Bool) → Detail
detail_of all = if all then All else Changes

-- a story is shown, whatever notes there are on it; of one with no fault all that is shown stands there
abbrev pub ShowsTold : Detail → Job CliFault
ShowsTold detail before left held holds (Ok x) =
    ((notes : List Note) × ShowsNoting before left held holds (Ok notes)) × WritesStory detail before left held holds
ShowsTold detail before left held holds (Err fault) = ShowsNoting before left held holds (Err fault)
