-- How what a step came to reads in the table machine.
use Rattle.pif_model.specs.declared.events.Seen.{Seen}
use Rattle.pif_model.specs.declared.events.Seen.TheVariants.{Went as SeenWent, Waits as SeenWaits, Answered as SeenAnswered}
use Rattle.pif_model.specs.Table.{Table}
use Rattle.pif_model.specs.Lines.{Outcome}
use Rattle.pif_mutex.specs.declared.progress.Progress.{Progress}
use Rattle.pif_mutex.specs.declared.progress.Progress.TheVariants.{Went, Waits, Done}

-- what an event is answered whose step came to this
abbrev pub seen_of : Progress → Seen
seen_of Went = SeenWent
seen_of Waits = SeenWaits
seen_of (Done a) = SeenAnswered a

-- the outcome of a step that came to this, and left this table
abbrev pub outcome_of : Progress → Table → Outcome
outcome_of progress after = record { seen = seen_of progress; after = after }
