use Rattle.std.proofs.lemmas.Result.{err_from_is_err_and}
use Rattle.pif_job_draw.proofs.PictureLemmas.{pictured, unpictured, unread}
use Rattle.pif_job_draw.proofs.pictures.write_picture.Goals as goal

pub returns-in_err-story-clause-pictures : goal.returns-in_err-story-clause-pictures
returns-in_err-story-clause-pictures g c =
    let p = err_from_is_err_and c.from_residual.result c.from_residual.ensures.1 in
    rw (p.1, p.2) (unread _ _ _ _ c.in_err-story.field-0.0 c.in_err-story.ensures.failed)

pub returns-in_err-text-clause-pictures : goal.returns-in_err-text-clause-pictures
returns-in_err-text-clause-pictures g c =
    let q = c.from_residual-in_err-text in
    let p = err_from_is_err_and q.result q.ensures.1 in
    rw (p.1, p.2) (unpictured _ _ _ _ c.in_ok-story.story.items _ c.in_err-text.field-0.0 c.in_ok-story.ensures.read
    c.as_slice.ensures.value c.in_err-text.ensures.filled)

pub returns-clause-pictures : goal.returns-clause-pictures
returns-clause-pictures g c =
    pictured _ _ _ _ _ c.in_ok-story.story.items _ _ c.in_ok-text.text _ c.in_ok-story.ensures.read
    c.as_slice.ensures.value c.in_ok-text.ensures.filled
    c.in_ok-text.ensures.shown
    (rw c.as_slice-2.ensures.value at c.write_whole.ensures)
