use Rattle.std.proofs.lemmas.Result.{err_from_is_err_and}
use Rattle.pif_job_check.proofs.NotingLemmas.{told_of_failed, told_of_noted}
use Rattle.pif_job_check.proofs.checking.check.Goals as goal

pub returns-in_err-check_noting : goal.returns-in_err-check_noting
returns-in_err-check_noting g c =
    let p = err_from_is_err_and c.from_residual.result c.from_residual.ensures.1 in
    rw (p.1, p.2) (told_of_failed _ _ _ _ _ _ c.in_err-check_noting.ensures.failed)

pub returns : goal.returns
returns g c = told_of_noted _ _ _ _ _ _ c.in_ok-check_noting.ensures.noted
