-- The first of greatest level runs next.
use Rattle.std.proofs.Common.{◌∙◌, ap}
use Rattle.pif_model.specs.Calls.{pick_answer}
use Rattle.pif_core.proofs.StandsAfter.{pick_answered}
use Rattle.pif_core.proofs.cores.Core.pick.Goals as goal

pub returns-clause-next : goal.returns-clause-next
returns-clause-next c = λ h r w st.
    pick_answered c.args.self.now c.pick.result h r w st (c.pick.ensures ∙ ap pick_answer c.self.view_is)
