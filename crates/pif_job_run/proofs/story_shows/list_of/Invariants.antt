use Rattle.std.proofs.Common.{◌≡◌, map}
use Rattle.pif_text.specs.Json.{numbers}
use Rattle.pif_job_run.specs.Shows.{person_name}
use Rattle.pif_job_run.proofs.story_shows.list_of.Given as goal

abbrev pub invariant-loop-place : goal.invariant-loop-place
invariant-loop-place l = map (λ name. name.now) l.list.items ≡ map (person_name l.names) (numbers l.place)
