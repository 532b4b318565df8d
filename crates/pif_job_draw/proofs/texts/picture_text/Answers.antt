use Rattle.std.proofs.lemmas.Result.{err_from_is_err_and}
use Rattle.pif_job_draw.proofs.texts.picture_text.Goals as goal

pub returns-in_err-rows-clause-filled : goal.returns-in_err-rows-clause-filled
returns-in_err-rows-clause-filled g c =
    let p = err_from_is_err_and c.from_residual.result c.from_residual.ensures.1 in
    rw (p.1, p.2) c.in_err-rows.ensures.filled
