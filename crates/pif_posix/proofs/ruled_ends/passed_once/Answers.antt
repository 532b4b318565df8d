use Rattle.std.proofs.Common.{◌-◌, ◌∙◌, sym, arith}
use Rattle.std.specs.List.{flat_map}
use Rattle.pif_posix_steps.specs.Doing.{owns_robust, robust_of}
use Rattle.pif_rules_model.specs.Ruled.{passed_by_death}
use Rattle.pif_posix.proofs.Loops.{each_more}
use Rattle.pif_posix.proofs.ruled_ends.passed_once.Goals as goal

pub loop-mutex-preserved-in-Continue-branch-2 : goal.loop-mutex-preserved-in-Continue-branch-2
loop-mutex-preserved-in-Continue-branch-2 c =
    each_more (passed_by_death c.args.rules.now c.args.state.now) (owns_robust c.args.state.now c.args.thread)
    c.loop-mutex.mutex (c.loop-mutex.mutex - 1) c.loop-mutex.all.items c.append.new.all.items
    (flat_map (passed_by_death c.args.rules.now c.args.state.now) (robust_of c.args.state.now c.args.thread))
    (omega arith) (sym c.owns_robust.ensures ∙ c.if-owns_robust.true)
    (c.in_ok-append.ensures _ c.passed_by_death.ensures) c.loop-mutex.invariant
