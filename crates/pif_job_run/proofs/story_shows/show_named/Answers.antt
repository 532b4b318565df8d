use Rattle.std.proofs.Common.{[], Err, Ok, Some, refl}
use Rattle.std.proofs.KnownBytes.{Keeps-refl}
use Rattle.std.proofs.lemmas.Result.{err_from_is_err_and}
use Rattle.pif_job_run.proofs.StoryLemmas.{unlisted}
use Rattle.pif_job_run.proofs.story_shows.show_named.Goals as goal

pub returns-in_err-script-clause-ends : goal.returns-in_err-script-clause-ends
returns-in_err-script-clause-ends g c =
    let p = err_from_is_err_and c.from_residual.result c.from_residual.ensures.1 in (
      Some c.read_script_of_story.new.reader.now,
      (
        Err c.in_err-script.field-0.0,
        c.in_err-script.ensures.failed,
        (rw (p.1, p.2) refl, Keeps-refl (g.W.Write.contents c.args.writer.now)),
      ),
    )

pub returns-in-Ok-clause-ends : goal.returns-in-Ok-clause-ends
returns-in-Ok-clause-ends g c =
    let done = rw c.as_slice-in-Ok.ensures.value at c.show_script.ensures.ends in (
      Some c.read_script_of_story.new.reader.now,
      (Ok c.in_ok-script.script.items, c.in_ok-script.ensures.left, (Some [], done)),
    )

pub returns-clause-ends : goal.returns-clause-ends
returns-clause-ends g c = unlisted (g.W.Write.contents c.args.writer.now) c.args.story.now
