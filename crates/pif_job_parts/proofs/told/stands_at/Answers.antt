use Rattle.std.proofs.Common.{◌∙◌, sym}
use Rattle.std.proofs.lemmas.List.{take_rest}
use Rattle.pif_job_parts.proofs.ToldLemmas.{begins_there}
use Rattle.pif_job_parts.proofs.told.stands_at.Goals as goal

pub returns : goal.returns
returns c = λ stands.
    begins_there c.args.text.now c.args.bytes.now c.args.place
    (rw take_rest at (sym c.starts_with.ensures.value ∙ stands))
