use Rattle.std.proofs.Common.{false}
use Rattle.std.proofs.lemmas.Result.{err_from_is_err_and}
use Rattle.pif_script_model.proofs.ChecksLemmas.{checked_told}
use Rattle.pif_job_check.proofs.NotingLemmas.{noted, not_noted}
use Rattle.pif_job_check.proofs.checking.check_noting.Goals as goal

pub returns-in_err-write_telling-clause-failed : goal.returns-in_err-write_telling-clause-failed
returns-in_err-write_telling-clause-failed g c =
    let p = err_from_is_err_and c.from_residual-in_err-write_telling.result
    c.from_residual-in_err-write_telling.ensures.1 in
    let told = rw c.as_slice.ensures.value at c.in_ok-telling.ensures.told in
    rw (p.1, p.2) (not_noted _ _ _ _ _ c.in_err-write_telling.field-0.0
    (checked_told false c.args.name.now _ _ _ _ c.in_ok-story.story.items _ _ _ c.in_ok-story.ensures.read told
    c.in_err-write_telling.ensures))

pub returns-clause-noted : goal.returns-clause-noted
returns-clause-noted g c =
    let told = rw c.as_slice.ensures.value at c.in_ok-telling.ensures.told in
    let notes = rw c.as_slice.ensures.value at c.in_ok-telling.ensures.notes in
    noted c.args.name.now _ _ _ _ c.in_ok-story.story.items _ _ _ _ c.in_ok-story.ensures.read told notes
    c.in_ok-write_telling.ensures
