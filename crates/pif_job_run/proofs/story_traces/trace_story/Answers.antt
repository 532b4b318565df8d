use Rattle.std.proofs.Common.{Err, Ok, Some, refl}
use Rattle.std.proofs.KnownBytes.{Keeps-refl}
use Rattle.std.proofs.lemmas.Result.{err_from_is_err_and}
use Rattle.pif_job_run.proofs.story_traces.trace_story.Goals as goal

pub returns-in_err-script : goal.returns-in_err-script
returns-in_err-script g c =
    let p = err_from_is_err_and c.from_residual.result c.from_residual.ensures.1 in (
      Err c.in_err-script.field-0.0,
      c.in_err-script.ensures.failed,
      (rw (p.1, p.2) refl, Keeps-refl (g.W.Write.contents c.args.writer.now)),
    )

pub returns : goal.returns
returns g c =
    let done = rw c.as_slice.ensures.value at c.trace_noting.ensures in
    (Ok c.in_ok-script.script.items, c.in_ok-script.ensures.left, (Some c.trace_noting.new.reader.now, done))
