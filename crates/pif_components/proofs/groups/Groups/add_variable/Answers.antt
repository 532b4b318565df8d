use Rattle.std.proofs.Common.{refl, rules}
use Rattle.pif_components.proofs.GroupLemmas.{variable_added}
use Rattle.pif_components.proofs.groups.Groups.add_variable.Goals as goal

pub returns : goal.returns
returns c = (search rules, λ b. variable_added c.args.self.now _ refl refl c.in_ok-push.ensures refl b)
