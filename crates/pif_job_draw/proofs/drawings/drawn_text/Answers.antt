use Rattle.std.proofs.lemmas.Result.{err_from_is_err_and}
use Rattle.pif_job_draw.proofs.PictureLemmas.{fault_filled}
use Rattle.pif_job_draw.proofs.drawings.drawn_text.Goals as goal

pub returns-in_err-rows-clause-filled : goal.returns-in_err-rows-clause-filled
returns-in_err-rows-clause-filled g c =
    let p = err_from_is_err_and c.from_residual.result c.from_residual.ensures.1 in
    rw (p.1, p.2) (fault_filled _ c.in_err-rows.field-0.0 c.in_err-rows.ensures.filled)
