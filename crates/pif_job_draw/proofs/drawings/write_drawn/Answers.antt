use Rattle.std.proofs.lemmas.Result.{err_from_is_err_and}
use Rattle.pif_job_draw.proofs.PictureLemmas.{drawn, faulty_drawn, undrawn}
use Rattle.pif_job_draw.proofs.drawings.write_drawn.Goals as goal

pub returns-in_err-story-clause-draws : goal.returns-in_err-story-clause-draws
returns-in_err-story-clause-draws g c =
    let p = err_from_is_err_and c.from_residual.result c.from_residual.ensures.1 in
    rw (p.1, p.2) (undrawn _ _ _ _ c.in_err-story.field-0.0 c.in_err-story.ensures.failed)

pub returns-in_err-text-clause-draws : goal.returns-in_err-text-clause-draws
returns-in_err-text-clause-draws g c =
    let q = c.from_residual-in_err-text in
    let p = err_from_is_err_and q.result q.ensures.1 in
    rw (p.1, p.2) (faulty_drawn _ _ _ _ c.in_ok-story.story.items _ c.in_err-text.field-0.0 c.in_ok-story.ensures.read
    c.as_slice.ensures.value c.in_err-text.ensures.filled)

pub returns-clause-draws : goal.returns-clause-draws
returns-clause-draws g c =
    drawn _ _ _ _ _ c.in_ok-story.story.items _ _ c.in_ok-text.text _ c.in_ok-story.ensures.read
    c.as_slice.ensures.value c.in_ok-text.ensures.filled c.in_ok-text.ensures.shown
    (rw c.as_slice-2.ensures.value at c.write_whole.ensures)
