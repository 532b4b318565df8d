-- Who is parked on a variable is blocked on it.
use Rattle.std.proofs.Common.{◌∙◌, ap}
use Rattle.pif_model.specs.Calls.{parked_answer}
use Rattle.pif_core.proofs.Looks.{parked_answered}
use Rattle.pif_core.proofs.cores.Core.parked.Goals as goal

pub returns-clause-blocked : goal.returns-clause-blocked
returns-clause-blocked c = λ h r w st.
    parked_answered c.args.self.now h r w st c.args.cond c.args.place c.parked.result
    (c.parked.ensures ∙ ap (parked_answer c.args.cond c.args.place) c.self.view_is)
