-- The owner is that of the mutex's word.
use Rattle.std.proofs.Common.{◌∙◌, ap}
use Rattle.pif_model.specs.Calls.{owner_answer}
use Rattle.pif_core.proofs.Looks.{owner_answered}
use Rattle.pif_core.proofs.cores.Core.owner.Goals as goal

pub returns-clause-owner : goal.returns-clause-owner
returns-clause-owner c = λ h r w st.
    owner_answered c.args.self.now h r w st c.args.mutex c.owner.result
    (c.owner.ensures ∙ ap (owner_answer c.args.mutex) c.self.view_is)
