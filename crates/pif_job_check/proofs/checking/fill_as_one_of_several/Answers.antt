use Rattle.pif_script_model.proofs.ChecksLemmas.{titled_told}
use Rattle.pif_job_check.proofs.checking.fill_as_one_of_several.Goals as goal

pub returns : goal.returns
returns g c =
    titled_told c.args.name.now _ _ _ _ c.in_ok-story.story.items _ _ _ c.in_ok-story.ensures.read
    (rw c.as_slice.ensures.value at c.in_ok-telling.ensures.told) c.write_telling.ensures
