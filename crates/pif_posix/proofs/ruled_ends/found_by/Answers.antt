use Rattle.std.proofs.Common.{◌-◌, ◌∙◌, sym, arith}
use Rattle.pif_posix_steps.specs.Doing.{owns_robust}
use Rattle.pif_rules_model.specs.Ruled.{revived_if, found_by}
use Rattle.pif_posix.proofs.Loops.{each_more}
use Rattle.pif_posix.proofs.ruled_ends.found_by.Goals as goal

pub loop-mutex-preserved-in_ok-append : goal.loop-mutex-preserved-in_ok-append
loop-mutex-preserved-in_ok-append c =
    each_more (revived_if c.args.rules.now c.args.thread c.args.state.now) (owns_robust c.args.state.now c.args.thread)
    c.loop-mutex.mutex (c.loop-mutex.mutex - 1) c.loop-mutex.all.items c.append.new.all.items
    (found_by c.args.rules.now c.args.thread c.args.state.now)
    (omega arith) (sym c.owns_robust.ensures ∙ c.if-owns_robust.true)
    (c.in_ok-append.ensures _ c.revived_if.ensures) c.loop-mutex.invariant
