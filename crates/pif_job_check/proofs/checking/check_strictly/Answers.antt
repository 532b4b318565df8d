use Rattle.std.proofs.Common.{true}
use Rattle.pif_script_model.proofs.ChecksLemmas.{checked_told}
use Rattle.pif_job_check.proofs.checking.check_strictly.Goals as goal

pub returns : goal.returns
returns g c =
    checked_told true c.args.name.now _ _ _ _ c.in_ok-story.story.items _ _ _ c.in_ok-story.ensures.read
    (rw c.as_slice.ensures.value at c.in_ok-telling.ensures.told) c.write_telling.ensures
