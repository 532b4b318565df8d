use Rattle.std.proofs.Common.{ap, ◌∙◌}
use Rattle.pif_kernel_model.specs.Owners.{with_prio}
use Rattle.pif_kernel_model.specs.States.{owners_in}
use Rattle.pif_kernel_model.proofs.Repairs.{boosted-waiting}
use Rattle.pif_boost.proofs.chain_walk.boost.Goals as goal

pub returns-in-Some-clause-owners : goal.returns-in-Some-clause-owners
returns-in-Some-clause-owners c =
    c.rekey.ensures.changed ∙ ap (with_prio c.args.t c.args.prio) c.set_local.ensures.changed
    ∙ boosted-waiting (owners_in c.args.owners.now c.args.table.now) c.args.t c.args.prio
    c.requires.row
