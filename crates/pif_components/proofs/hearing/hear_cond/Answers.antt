use Rattle.std.proofs.Common.{ℕ, subst}
use Rattle.std.proofs.lemmas.Result.{IfOk-weaker}
use Rattle.pif_components_model.specs.Components.Name.{OfMutex, OfVariable}
use Rattle.pif_components.specs.Groups.{AreBounded, IsJoined}
use Rattle.pif_components.proofs.HearingLemmas.{heard_cond}
use Rattle.pif_components.proofs.hearing.hear_cond.Goals as goal

pub returns : goal.returns
returns c =
    IfOk-weaker c.join.result _ _
    (λ b h lines e groups.
    heard_cond c.args.mutex lines c.args.groups.now c.add_variable.new.self c.join.new.self c.in_ok-variable.variable
    c.in_ok-variable.ensures.0 c.in_ok-variable.ensures.1
    (subst (λ (m : ℕ). AreBounded c.add_variable.new.self
    → IsJoined (OfVariable c.in_ok-variable.variable) (OfMutex m) c.add_variable.new.self c.join.new.self) c.get.ensures.value (h e))
    groups)
    c.join.ensures
