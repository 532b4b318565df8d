-- A thread that doesn't live, its priority, or why there is none.
use Rattle.std.proofs.Common.{◌≡◌, subst, sym, ◌∙◌}
use Rattle.pif_model.specs.Posix.{effective_of}
use Rattle.pif_rules_model.specs.Lending.{looking_free}
use Rattle.pif_rules_model.specs.Rules.{Wide}
use Rattle.pif_c.specs.Running.{Running}
use Rattle.pif_c.proofs.MachineSteps.{effective_given_up, effective_told, not_living_told}
use Rattle.pif_c.proofs.machine_readers.effective.Goals as goal

pub returns-then-not-is_living : goal.returns-then-not-is_living
returns-then-not-is_living c =
    not_living_told c.args.thread c.args.machine.now _ (sym c.is_living.ensures ∙ c.if-not-is_living.true) c.refused.ensures

pub returns-in-Ok : goal.returns-in-Ok
returns-in-Ok c =
    effective_told c.args.thread c.args.machine.now c.in-Ok.number
    (subst (λ (s : Running). c.in-Ok.number ≡ effective_of (looking_free s.wide.prio_none s.wide.world) c.args.thread)
    c.machine.view_is
    (subst (λ (w : Wide). c.in-Ok.number ≡ effective_of (looking_free w.prio_none w.world) c.args.thread) c.wide.ensures
    c.in-Ok.ensures))

pub returns-in-Err : goal.returns-in-Err
returns-in-Err c =
    effective_given_up c.args.thread c.args.machine.now c.in-Err.stop _ c.stop_number.result c.refused-in-Err.ensures
    c.stop_number.ensures
