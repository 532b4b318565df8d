-- A mutex that was never added, or no number of 32 bits is left.
use Rattle.std.proofs.Common.{ℕ, sym, ◌∙◌}
use Rattle.pif_search.specs.declared.machine.Stop.TheVariants.{Range}
use Rattle.pif_c.proofs.MachineSteps.{adds_given_up, adds_no_mutex}
use Rattle.pif_c.proofs.machine_adding.add.Goals as goal

pub returns-then-lacks_mutex : goal.returns-then-lacks_mutex
returns-then-lacks_mutex c =
    λ (why : ℕ). adds_no_mutex why c.args.adding.now c.args.machine.now _ (sym c.lacks_mutex.ensures ∙ c.if-lacks_mutex.true)
    c.refused.ensures

pub returns-in-None : goal.returns-in-None
returns-in-None c =
    λ (why : ℕ). adds_given_up why c.args.adding.now c.args.machine.now Range _ c.refused-in-None.ensures
